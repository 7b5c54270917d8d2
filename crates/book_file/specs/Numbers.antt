-- Numbers as bytes: groups of seven bits, the lowest first.
use Rattle.std.specs.Prelude.{All, ◌≡◌, ℕ, zero, suc, ◌+◌, ◌*◌, ◌/◌, ◌%◌, ◌^◌, ◌<◌, ◌≤◌, ◌↔◌, cond, List, [], ◌∷◌, ◌++◌, length, drop, nat_lt, ◌⊎◌, Some, None, Option}
use Rattle.book_file.specs.Fronts.{AtFront}

-- The groups of a number, with 128 added to each but the last; at most `more` of them follow the first.
abbrev pub groups : ℕ → ℕ → List ℕ
groups zero n = n ∷ []
groups (suc more) n = cond (nat_lt n 128) (n ∷ []) ((128 + n % 128) ∷ groups more (n / 128))

-- A number below 2 ^ 28 as bytes.
unfoldable pub number_bytes : ℕ → List ℕ
number_bytes n = groups 3 n

-- Some numbers as bytes, one after the other.
abbrev pub bytes_of : List ℕ → List ℕ
bytes_of [] = []
bytes_of (n ∷ ns) = number_bytes n ++ bytes_of ns

-- The number that groups mean: seven bits of each, the lowest first.
abbrev pub group_value : List ℕ → ℕ
group_value [] = 0
group_value (b ∷ bs) = b % 128 + 128 * group_value bs

-- The bytes are the number n: one group to four, 128 added to each but the last, and in the shortest form, which does not
-- end in a group of 0 unless that is the only one.
pub record IsNumber (n : ℕ) (bytes : List ℕ) : Type 0 where
  pub marked : List ℕ
  pub last : ℕ
  pub parts : bytes ≡ marked ++ last ∷ []
  pub few : length marked ≤ 3
  pub each : All (λ b. (128 ≤ b) × (b < 256)) marked
  pub ends : last < 128
  pub shortest : last ≡ 0 → marked ≡ []
  pub value : group_value bytes ≡ n

-- Each number below 2 ^ 28 has just one such form, and no other number has one.
abbrev pub OneForm : Type 0
OneForm = (n : ℕ) (bytes : List ℕ) → IsNumber n bytes ↔ ((n < 2 ^ 28) × (bytes ≡ number_bytes n))

-- The bytes begin with the number n, which takes k of them.
pub record BeginsWith (n k : ℕ) (bytes : List ℕ) : Type 0 where
  pub small : n < 2 ^ 28
  pub size : k ≡ length (number_bytes n)
  pub parts : bytes ≡ number_bytes n ++ drop k bytes

-- The bytes begin with no number: the first one is cut off, or has more than four groups, or is not in its shortest form.
abbrev pub NoNumber : List ℕ → Type 0
NoNumber bytes = (n : ℕ) (rest : List ℕ) → n < 2 ^ 28 → bytes ≡ number_bytes n ++ rest → ⊥

-- What writing a number at the front of a buffer gives: its bytes stand there, as many as the answer says, and the rest is as
-- it was; or the buffer is as it was, the number having no form or the buffer being too short.
abbrev pub NumberWritten : ℕ → Option ℕ → List ℕ → List ℕ → Type 0
NumberWritten n (Some size) before after = (n < 2 ^ 28) × AtFront (number_bytes n) size before after
NumberWritten n None before after = (after ≡ before) × ((2 ^ 28 ≤ n) ⊎ (length before < length (number_bytes n)))
