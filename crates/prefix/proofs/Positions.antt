-- The kinds of a prefix against its mask.
use Rattle.std.proofs.Common.{◌≡◌, ℕ, zero, suc, ◌+◌, ◌*◌, ◌/◌, ◌%◌, ◌^◌, ◌<◌, ◌≤◌, Bool, true, false, eqb, ◌⊎◌, List, [], ◌∷◌, length, take, Some, None, sym, refl, ap, ◌∙◌, ⊎_elim, mod-eq_of_lt, pow-suc, add-one, arith}
use lib.Count.{ones, ones_step}
use Rattle.std.proofs.lemmas.Nat.{pow_pos, mod-pow-add}
use Rattle.std.proofs.lemmas.List.{take_all}
use Rattle.std.proofs.lemmas.Bool.{cases_lt}
use Rattle.prefix.specs.Bits.{bit, mask_value}
use Rattle.prefix.specs.Kinds.{kind_at, some_report, is_report, report_count, reports_before}
use Rattle.prefix.specs.Prefixes.{kind_of, kinds_of}
use Rattle.prefix.specs.declared.kind.Kind.{Kind}
use Rattle.prefix.specs.declared.kind.Kind.TheVariants.{Report, Reply}
use Rattle.prefix.proofs.Masks.{bit_half, bit_first, bit_past, two_cases}

pub length-kinds : (n m : ℕ) → length (kinds_of n m) ≡ n
length-kinds zero m = refl
length-kinds (suc n) m = ap suc (length-kinds n (m / 2))

pub kind-inside : (n m i : ℕ) → i < n → kind_at (kinds_of n m) (suc i) ≡ Some (kind_of (bit m i))
kind-inside zero m i h = absurd (omega arith)
kind-inside (suc n) m zero h = ap (λ (b : Bool). Some (kind_of b)) (sym (bit_first m))
kind-inside (suc n) m (suc i) h = kind-inside n (m / 2) i (omega arith) ∙ ap (λ (b : Bool). Some (kind_of b)) (bit_half m i)

pub kind_past : (n m i : ℕ) → n ≤ i → kind_at (kinds_of n m) (suc i) ≡ None
kind_past zero m i h = refl
kind_past (suc n) m zero h = absurd (omega arith)
kind_past (suc n) m (suc i) h = kind_past n (m / 2) i (omega arith)

pub kind_outside : (n m k : ℕ) → (k ≡ 0) ⊎ (n < k) → kind_at (kinds_of n m) k ≡ None
kind_outside n m zero o = refl
kind_outside n m (suc i) o = ⊎_elim (λ e. absurd (omega arith)) (λ l. kind_past n m i (omega arith)) o

report_of : (b : Bool) → some_report (Some (kind_of b)) ≡ b
report_of true = refl
report_of false = refl

-- What the mask says of a position is whether a report stands there.
pub value_report : (n m k : ℕ) → m < 2 ^ n → mask_value m k ≡ is_report (kinds_of n m) k
value_report n m zero h = refl
value_report n m (suc i) h =
    ⊎_elim (λ (l : i < n). sym (ap some_report (kind-inside n m i l) ∙ report_of (bit m i)))
    (λ (l : n ≤ i). bit_past m n i h l ∙ sym (ap some_report (kind_past n m i l)))
    (cases_lt i n)

pub kind_from_report : (n m i : ℕ) (b : Bool) → i < n → b ≡ is_report (kinds_of n m) (suc i) → kind_at (kinds_of n m) (suc i) ≡ Some (kind_of b)
kind_from_report n m i b h e =
    let k = kind-inside n m i h in
    k ∙ ap (λ (x : Bool). Some (kind_of x)) (sym (e ∙ ap some_report k ∙ report_of (bit m i)))

count_first : (r : ℕ) (ks : List Kind) → r < 2 → report_count (kind_of (eqb r 1) ∷ ks) ≡ r + report_count ks
count_first r ks h = two_cases (λ r. report_count (kind_of (eqb r 1) ∷ ks) ≡ r + report_count ks) (omega arith) (omega arith) r h

pub ones_none : ones 0 ≡ 0
unfolding ones
ones_none = refl

-- The reports among the first positions, as the machine counts them.
pub count_front : (i n m : ℕ) → m < 2 ^ n → report_count (take i (kinds_of n m)) ≡ ones (m % 2 ^ i)
count_front zero n m h = let z : m % 1 ≡ 0 = omega arith in sym (ap ones z ∙ ones_none)
count_front (suc i) zero m h =
    let z : m ≡ 0 = omega arith in
    sym (ap (λ (x : ℕ). ones (x % 2 ^ suc i)) z ∙ ap ones (mod-eq_of_lt (pow_pos (suc i))) ∙ ones_none)
count_front (suc i) (suc n) m h =
    let split : m % 2 ^ suc i ≡ (m / 2 % 2 ^ i) * 2 + m % 2 = ap (λ (q : ℕ). m % 2 ^ q) (sym (add-one i)) ∙ mod-pow-add m i 1 in
    let low : m % 2 ^ suc i % 2 ≡ m % 2 = omega (arith, split) in
    let high : m % 2 ^ suc i / 2 ≡ m / 2 % 2 ^ i = omega (arith, split) in
    count_first (m % 2) (take i (kinds_of n (m / 2))) (omega arith)
    ∙ ap (λ (x : ℕ). m % 2 + x) (count_front i n (m / 2) (omega (arith, pow-suc 2 n)))
    ∙ ap (λ (x : ℕ). x + ones (m / 2 % 2 ^ i)) (sym low) ∙ ap (λ (x : ℕ). m % 2 ^ suc i % 2 + ones x) (sym high)
    ∙ sym (ones_step (m % 2 ^ suc i))

pub count-whole : (n m : ℕ) → m < 2 ^ n → report_count (kinds_of n m) ≡ ones m
count-whole n m h =
    ap report_count (sym (take_all n (kinds_of n m) (omega (arith, length-kinds n m)))) ∙ count_front n n m h ∙ ap ones (mod-eq_of_lt h)

pub count-take : (i : ℕ) (ks : List Kind) → report_count (take i ks) ≤ report_count ks
count-take zero [] = omega arith
count-take (suc i) [] = omega arith
count-take zero (q ∷ ks) = omega arith
count-take (suc i) (Report ∷ ks) = omega (arith, count-take i ks)
count-take (suc i) (Reply ∷ ks) = count-take i ks

pub before_le : (ks : List Kind) (k : ℕ) → reports_before ks k ≤ report_count ks
before_le ks zero = omega arith
before_le ks (suc i) = count-take i ks
