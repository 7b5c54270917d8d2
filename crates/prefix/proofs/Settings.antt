-- Settings and numbers correspond one to one.
use Rattle.std.proofs.Common.{◌≡◌, ℕ, zero, suc, ◌+◌, ◌-◌, ◌*◌, ◌%◌, ◌^◌, ◌<◌, ◌≤◌, Bool, true, false, cond, List, [], ◌∷◌, ◌++◌, length, sym, refl, ap, ◌∙◌, subst, ⊎_elim, pow-suc, pow_mono, add-one, arith, length-append}
use Rattle.std.proofs.lemmas.Bool.{cases_lt}
use Rattle.std.proofs.lemmas.Nat.{one_shl}
use lib.Count.{ones}
use Rattle.prefix.specs.Kinds.{report_count}
use Rattle.prefix.specs.Prefixes.{kinds_of}
use Rattle.prefix.specs.Settings.{number, Numbering}
use Rattle.prefix.proofs.Positions.{count-whole}

cond_le : (x : Bool) (p : ℕ) → cond x p 0 ≤ p
cond_le true p = omega arith
cond_le false p = omega arith

pub number-below : (v : List Bool) → number v < 2 ^ length v
number-below [] = omega arith
number-below (x ∷ v) = omega (arith, number-below v, pow-suc 2 (length v), cond_le x (2 ^ length v))

pub number-apart : (v w : List Bool) → length v ≡ length w → number v ≡ number w → v ≡ w
number-apart [] [] l e = refl
number-apart [] (y ∷ w) l e = absurd (omega arith)
number-apart (x ∷ v) [] l e = absurd (omega arith)
number-apart (true ∷ v) (true ∷ w) l e =
    let k : length v ≡ length w = omega arith in
    ap (λ t. true ∷ t) (number-apart v w k (omega (arith, ap (λ (z : ℕ). 2 ^ z) k)))
number-apart (false ∷ v) (false ∷ w) l e = ap (λ t. false ∷ t) (number-apart v w (omega arith) (omega arith))
number-apart (true ∷ v) (false ∷ w) l e =
    let k : length v ≡ length w = omega arith in absurd (omega (arith, ap (λ (z : ℕ). 2 ^ z) k, number-below w))
number-apart (false ∷ v) (true ∷ w) l e =
    let k : length v ≡ length w = omega arith in absurd (omega (arith, ap (λ (z : ℕ). 2 ^ z) k, number-below v))

-- One report more, the last: twice the number, and one more where it is on.
pub number_push : (v : List Bool) (x : Bool) → number (v ++ x ∷ []) ≡ 2 * number v + cond x 1 0
number_push [] x = omega arith
number_push (true ∷ v) x = omega (arith, number_push v x, ap (λ (n : ℕ). 2 ^ n) (length-append v (x ∷ []) ∙ add-one (length v)), pow-suc 2 (length v))
number_push (false ∷ v) x = omega (arith, number_push v x)

-- The setting of r reports with a number below 2 ^ r.
pub number-each : (r s : ℕ) → s < 2 ^ r → (v : List Bool) × (length v ≡ r) × (number v ≡ s)
number-each zero s h = ([], refl, omega arith)
number-each (suc r) s h =
    ⊎_elim (λ (l : s < 2 ^ r). let i = number-each r s l in (false ∷ i.0, ap suc i.1, omega (arith, i.2)))
    (λ (l : 2 ^ r ≤ s).
    let i = number-each r (s - 2 ^ r) (omega (arith, pow-suc 2 r)) in
    (true ∷ i.0, ap suc i.1, omega (arith, i.2, ap (λ (z : ℕ). 2 ^ z) i.1)))
    (cases_lt s (2 ^ r))

pub numbering : (r : ℕ) → Numbering r
numbering r = record {
  below = λ v e. subst (λ (n : ℕ). number v < 2 ^ n) e (number-below v);
  apart = λ v w e f h. number-apart v w (e ∙ sym f) h;
  each = number-each r;
}

-- The settings of at most 12 reports, as the machine shifts them.
pub few_settings : (r : ℕ) → r ≤ 12 → (1 * 2 ^ r) % 2 ^ 64 ≤ 4096
few_settings r h = omega (arith, one_shl r 64 (omega arith), pow_mono h)

pub settings_of : (n m : ℕ) → m < 2 ^ n → ones m ≤ 12 → (1 * 2 ^ ones m) % 2 ^ 64 ≡ 2 ^ report_count (kinds_of n m)
settings_of n m h few = one_shl (ones m) 64 (omega arith) ∙ ap (λ (r : ℕ). 2 ^ r) (sym (count-whole n m h))
