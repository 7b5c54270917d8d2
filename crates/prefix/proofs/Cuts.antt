-- The mask of the reports before a position.
use Rattle.std.proofs.Common.{◌≡◌, ℕ, zero, suc, ◌-◌, ◌%◌, ◌^◌, ◌<◌, ◌≤◌, min, true, Decides, sym, ap, ◌∙◌, subst, ⊎_elim, mod-eq_of_lt, pow_mono, arith}
use lib.Bits.{bit_and, and_mask}
use lib.Count.{ones}
use Rattle.std.proofs.lemmas.Bool.{cases_lt, false≢true}
use Rattle.prefix.specs.Bits.{bit, mask_value}
use Rattle.prefix.specs.Kinds.{is_report, reports_before}
use Rattle.prefix.specs.Prefixes.{kinds, kinds_of}
use Rattle.prefix.specs.declared.prefix.Prefix.{Prefix}
use Rattle.prefix.proofs.Masks.{bit_mod_in, bit_mod_out}
use Rattle.prefix.proofs.Positions.{ones_none, count_front, value_report}

-- How many they are.
pub count_before : (n m k : ℕ) → m < 2 ^ n → ones (m % 2 ^ (k - 1)) ≡ reports_before (kinds_of n m) k
count_before n m zero h = let z : m % 2 ^ (0 - 1) ≡ 0 = omega arith in ap ones z ∙ ones_none
count_before n m (suc i) h = let e : suc i - 1 ≡ i = omega arith in ap (λ (x : ℕ). ones (m % 2 ^ x)) e ∙ sym (count_front i n m h)

-- Where it is on.
pub before_decides : (p : Prefix) (k j : ℕ) → Decides (mask_value (p.reports % 2 ^ (k - 1)) j) ((is_report (kinds p) j ≡ true) × (j < k))
before_decides p k zero = (λ h. absurd (false≢true h), λ h. absurd (false≢true h.0))
before_decides p k (suc i) =
    let same : bit p.reports i ≡ is_report (kinds p) (suc i) = value_report p.length p.reports (suc i) p.ok.2 in
    ⊎_elim
    (λ (l : i < k - 1).
    let cut = bit_mod_in p.reports (k - 1) i l in
    (λ h. (sym same ∙ sym cut ∙ h, omega arith), λ h. cut ∙ same ∙ h.0))
    (λ (l : k - 1 ≤ i).
    (λ h. absurd (false≢true (sym (bit_mod_out p.reports (k - 1) i l) ∙ h)), λ h. let near = h.1 in absurd (omega arith)))
    (cases_lt i (k - 1))

-- The same as the machine cuts it.
pub reports_cut : (p : Prefix) (k first : ℕ) → first ≡ 2 ^ min (k - 1) 32 - 1 → bit_and p.reports first ≡ p.reports % 2 ^ (k - 1)
reports_cut p k first e = ap (bit_and p.reports) e ∙ and_mask p.reports (min (k - 1) 32) ∙ ⊎_elim far near (cases_lt 32 (k - 1))
  where
    small : (d : ℕ) → 32 ≤ d → p.reports < 2 ^ d
    small d h =
        let few = p.ok.1 in
        let low : p.length ≤ d = omega arith in
        let up : 2 ^ p.length ≤ 2 ^ d = pow_mono low in
        let fits = p.ok.2 in
        omega arith

    far : 32 < k - 1 → p.reports % 2 ^ min (k - 1) 32 ≡ p.reports % 2 ^ (k - 1)
    far l =
        let cut : min (k - 1) 32 ≡ 32 = omega arith in
        ap (λ (d : ℕ). p.reports % 2 ^ d) cut ∙ mod-eq_of_lt (small 32 (omega arith)) ∙ sym (mod-eq_of_lt (small (k - 1) (omega arith)))

    near : k - 1 ≤ 32 → p.reports % 2 ^ min (k - 1) 32 ≡ p.reports % 2 ^ (k - 1)
    near l = let cut : min (k - 1) 32 ≡ k - 1 = omega arith in ap (λ (d : ℕ). p.reports % 2 ^ d) cut

pub cut_decides : (p : Prefix) (k first j : ℕ) → first ≡ 2 ^ min (k - 1) 32 - 1
    → Decides (mask_value (bit_and p.reports first) j) ((is_report (kinds p) j ≡ true) × (j < k))
cut_decides p k first j e =
    subst (λ (m : ℕ). Decides (mask_value m j) ((is_report (kinds p) j ≡ true) × (j < k))) (sym (reports_cut p k first e)) (before_decides p k j)
