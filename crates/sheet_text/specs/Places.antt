-- What stands before a place of a text, and what stands there.
use Rattle.std.specs.Prelude.{All, ◌≡◌, ℕ, ◌+◌, ◌≤◌, ◌⊎◌, List, [], ◌∷◌, ◌++◌, length, ◌≢◌}
use Rattle.sheet_text.specs.Grammar.{Allowed, words_of, lines_of}

-- Nothing, or bytes that end with a line end.
abbrev pub WholeLines : List ℕ → Type 0
WholeLines bs = (bs ≡ []) ⊎ ((front : List ℕ) × (bs ≡ front ++ 10 ∷ []))

-- What stands before a place of a text, of bytes that are allowed: the lines that are over there, where one without words does not count, and the words of the line that is open.
pub record Before (front : List ℕ) (lines : List (List (List ℕ))) (words : List (List ℕ)) : Type 0 where
  pub whole : List ℕ
  pub part : List ℕ
  pub allowed : All Allowed front
  pub parts : front ≡ whole ++ part
  pub ended : WholeLines whole
  pub inside : All (λ b. b ≢ 10) part
  pub whole_lines : lines ≡ lines_of whole
  pub part_words : words ≡ words_of part

-- A byte of a word, and one that parts words.
abbrev pub Inner : ℕ → Type 0
Inner b = (b ≢ 32) × (b ≢ 10)

abbrev pub Separator : ℕ → Type 0
Separator b = (b ≡ 32) ⊎ (b ≡ 10)

-- A word may begin after these bytes, and end before these.
abbrev pub BeginsAfter : List ℕ → Type 0
BeginsAfter front = (front ≡ []) ⊎ ((bs : List ℕ) × (b : ℕ) × Separator b × (front ≡ bs ++ b ∷ []))

abbrev pub EndsBefore : List ℕ → Type 0
EndsBefore [] = Unit {0}
EndsBefore (b ∷ bs) = Separator b

-- A word stands after the bytes `front` of the text t.
pub record WordAt (t front word : List ℕ) : Type 0 where
  pub rest : List ℕ
  pub text : t ≡ front ++ (word ++ rest)
  pub begins : BeginsAfter front
  pub ends : EndsBefore rest
  pub some : 1 ≤ length word
  pub inner : All Inner word
  pub allowed : All Allowed word

-- A line ends there: the text does, or a byte 10 follows.
abbrev pub LineEndAt : List ℕ → List ℕ → Type 0
LineEndAt t front = (t ≡ front) ⊎ ((rest : List ℕ) × (t ≡ front ++ 10 ∷ rest))

-- A word stands there whose first byte that is not allowed has the place p.
pub record ByteAt (t front : List ℕ) (p : ℕ) : Type 0 where
  pub begun : List ℕ
  pub byte : ℕ
  pub rest : List ℕ
  pub text : t ≡ front ++ (begun ++ byte ∷ rest)
  pub begins : BeginsAfter front
  pub inner : All Inner begun
  pub allowed : All Allowed begun
  pub bad : Allowed byte → ⊥
  pub place : p ≡ length front + length begun
