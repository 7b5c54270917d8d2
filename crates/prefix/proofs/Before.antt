-- The settings before positions, as masks give them.
use Rattle.std.proofs.Common.{◌≡◌, ℕ, zero, suc, ◌+◌, ◌-◌, ◌*◌, ◌/◌, ◌%◌, ◌^◌, ◌<◌, ◌≤◌, min, Bool, true, false, cond, eqb, ◌≢◌, List, [], ◌∷◌, ◌++◌, length, take, sym, refl, ap, ◌∙◌, subst, ⊎_elim, pow_mono, arith, div-one, length-append}
use lib.Bits.{bit_and, and_mask}
use Rattle.std.proofs.lemmas.Bool.{true≢false, cases_lt, cases_eq}
use Rattle.std.proofs.lemmas.Nat.{shr-shr, shr_below}
use Rattle.prefix.specs.Bits.{odd, bit, bits, mask_value, Changed}
use Rattle.prefix.specs.Kinds.{some_report, is_report, report_count, reports_before, report_values}
use Rattle.prefix.specs.Prefixes.{kinds, kinds_of}
use Rattle.prefix.specs.Settings.{number}
use Rattle.prefix.specs.Lines.{setting_before, SettingMask}
use Rattle.prefix.specs.declared.kind.Kind.{Kind}
use Rattle.prefix.specs.declared.kind.Kind.TheVariants.{Report, Reply}
use Rattle.prefix.specs.declared.prefix.Prefix.{Prefix}
use Rattle.prefix.proofs.Masks.{bit_half, bit_first, length-bits, bits_same, bit_past, two_cases}
use Rattle.prefix.proofs.Positions.{kind_past, count-whole, before_le}
use Rattle.prefix.proofs.Settings.{number-below, number_push}

values_none : (ks : List Kind) → report_values ks [] ≡ []
values_none [] = refl
values_none (q ∷ ks) = refl

pub length-values : (ks : List Kind) (w : List Bool) → length (report_values ks w) ≡ report_count (take (length w) ks)
length-values [] [] = refl
length-values [] (x ∷ w) = refl
length-values (q ∷ ks) [] = refl
length-values (Report ∷ ks) (x ∷ w) = ap suc (length-values ks w)
length-values (Reply ∷ ks) (x ∷ w) = length-values ks w

-- A setting before a position has a value for each report there.
pub setting_length : (p : Prefix) (k m : ℕ) → length (setting_before p k m) ≡ reports_before (kinds p) k
setting_length p zero m = ap length (values_none (kinds p))
setting_length p (suc i) m =
    let e : suc i - 1 ≡ i = omega arith in
    ap (λ (d : ℕ). length (report_values (kinds p) (bits d m))) e ∙ length-values (kinds p) (bits i m)
    ∙ ap (λ (d : ℕ). report_count (take d (kinds p))) (length-bits i m)

-- At a report one value more; at a reply, or past the last position, the same values.
pub report_values_push : (ks : List Kind) (i m : ℕ) → is_report ks (suc i) ≡ true → report_values ks (bits (suc i) m) ≡ report_values ks (bits i m) ++ bit m i ∷ []
report_values_push [] i m h = absurd (true≢false (sym h))
report_values_push (Reply ∷ ks) zero m h = absurd (true≢false (sym h))
report_values_push (Report ∷ ks) zero m h = ap (λ t. odd m ∷ t) (values_none ks) ∙ ap (λ (x : Bool). x ∷ []) (sym (bit_first m))
report_values_push (Reply ∷ ks) (suc i) m h =
    report_values_push ks i (m / 2) h ∙ ap (λ (x : Bool). report_values ks (bits i (m / 2)) ++ x ∷ []) (bit_half m i)
report_values_push (Report ∷ ks) (suc i) m h =
    ap (λ t. odd m ∷ t) (report_values_push ks i (m / 2) h ∙ ap (λ (x : Bool). report_values ks (bits i (m / 2)) ++ x ∷ []) (bit_half m i))

pub report_values_same : (ks : List Kind) (i m : ℕ) → is_report ks (suc i) ≡ false → report_values ks (bits (suc i) m) ≡ report_values ks (bits i m)
report_values_same [] i m h = refl
report_values_same (Report ∷ ks) zero m h = absurd (true≢false h)
report_values_same (Reply ∷ ks) zero m h = values_none ks
report_values_same (Reply ∷ ks) (suc i) m h = report_values_same ks i (m / 2) h
report_values_same (Report ∷ ks) (suc i) m h = ap (λ t. odd m ∷ t) (report_values_same ks i (m / 2) h)

-- Past the last position no value is added.
values_past : (n r d m : ℕ) → report_values (kinds_of n r) (bits (d + n) m) ≡ report_values (kinds_of n r) (bits n m)
values_past n r zero m = let e : zero + n ≡ n = omega arith in ap (λ (z : ℕ). report_values (kinds_of n r) (bits z m)) e
values_past n r (suc d) m =
    let e : suc d + n ≡ suc (d + n) = omega arith in
    let none : is_report (kinds_of n r) (suc (d + n)) ≡ false = ap some_report (kind_past n r (d + n) (omega arith)) in
    ap (λ (z : ℕ). report_values (kinds_of n r) (bits z m)) e ∙ report_values_same (kinds_of n r) (d + n) m none ∙ values_past n r d m

setting_past : (p : Prefix) (k m : ℕ) → p.length < k → setting_before p k m ≡ setting_before p (p.length + 1) m
setting_past p k m h =
    let e : k - 1 ≡ (k - 1 - p.length) + p.length = omega arith in
    let f : p.length ≡ p.length + 1 - 1 = omega arith in
    ap (λ (z : ℕ). report_values (kinds p) (bits z m)) e ∙ values_past p.length p.reports (k - 1 - p.length) m
    ∙ ap (λ (z : ℕ). report_values (kinds p) (bits z m)) f

setting_report : (p : Prefix) (k m : ℕ) → 1 ≤ k → is_report (kinds p) k ≡ true → setting_before p (k + 1) m ≡ setting_before p k m ++ mask_value m k ∷ []
setting_report p zero m h r = absurd (omega arith)
setting_report p (suc i) m h r =
    let e : suc i + 1 - 1 ≡ suc i = omega arith in
    let f : i ≡ suc i - 1 = omega arith in
    ap (λ (z : ℕ). report_values (kinds p) (bits z m)) e ∙ report_values_push (kinds p) i m r
    ∙ ap (λ (z : ℕ). report_values (kinds p) (bits z m) ++ bit m i ∷ []) f

setting_other : (p : Prefix) (k m : ℕ) → 1 ≤ k → is_report (kinds p) k ≡ false → setting_before p (k + 1) m ≡ setting_before p k m
setting_other p zero m h r = absurd (omega arith)
setting_other p (suc i) m h r =
    let e : suc i + 1 - 1 ≡ suc i = omega arith in
    let f : i ≡ suc i - 1 = omega arith in
    ap (λ (z : ℕ). report_values (kinds p) (bits z m)) e ∙ report_values_same (kinds p) i m r
    ∙ ap (λ (z : ℕ). report_values (kinds p) (bits z m)) f

-- At most twelve reports stand before a position.
before_few : (p : Prefix) (k : ℕ) → reports_before (kinds p) k ≤ 12
before_few p k = omega (arith, before_le (kinds p) k, count-whole p.length p.reports (omega arith))

module _ (p : Prefix) (m : ℕ) where
  pub setting_number_below : (k : ℕ) → number (setting_before p k m) < 2 ^ reports_before (kinds p) k
  setting_number_below k = subst (λ (r : ℕ). number (setting_before p k m) < 2 ^ r) (setting_length p k m) (number-below (setting_before p k m))

  pub number_small : (k : ℕ) → number (setting_before p k m) < 4096
  number_small k = omega (arith, setting_number_below k, pow_mono (before_few p k))

  -- The number of the setting before position k of a loop that ends at e.
  pub number_first : (e : ℕ) → number (setting_before p (min 1 e) m) ≡ 0
  number_first e =
      let z : min 1 e - 1 ≡ 0 = omega arith in
      ap (λ (d : ℕ). number (report_values (kinds p) (bits d m))) z ∙ ap number (values_none (kinds p))

  pub number_step : (k e : ℕ) → 1 ≤ k → k < e → is_report (kinds p) k ≡ true
      → number (setting_before p (min (k + 1) e) m) ≡ 2 * number (setting_before p (min k e) m) + cond (mask_value m k) 1 0
  number_step k e h l r =
      let a : min (k + 1) e ≡ k + 1 = omega arith in
      let b : k ≡ min k e = omega arith in
      ap (λ (z : ℕ). number (setting_before p z m)) a ∙ ap number (setting_report p k m h r)
      ∙ number_push (setting_before p k m) (mask_value m k)
      ∙ ap (λ (z : ℕ). 2 * number (setting_before p z m) + cond (mask_value m k) 1 0) b

  pub number_stay : (k e : ℕ) → 1 ≤ k → k < e → is_report (kinds p) k ≡ false
      → number (setting_before p (min (k + 1) e) m) ≡ number (setting_before p (min k e) m)
  number_stay k e h l r =
      let a : min (k + 1) e ≡ k + 1 = omega arith in
      let b : k ≡ min k e = omega arith in
      ap (λ (z : ℕ). number (setting_before p z m)) a ∙ ap number (setting_other p k m h r)
      ∙ ap (λ (z : ℕ). number (setting_before p z m)) b

  pub setting_end : (j k e : ℕ) → e ≡ min k (p.length + 1) → e ≤ j → setting_before p (min j e) m ≡ setting_before p k m
  setting_end j k e at h =
      let a : min j e ≡ min k (p.length + 1) = omega arith in
      ap (λ (z : ℕ). setting_before p z m) a
      ∙ ⊎_elim (λ (l : k < p.length + 1). let b : min k (p.length + 1) ≡ k = omega arith in ap (λ (z : ℕ). setting_before p z m) b)
      (λ (l : p.length + 1 ≤ k).
      let b : min k (p.length + 1) ≡ p.length + 1 = omega arith in
      ap (λ (z : ℕ). setting_before p z m) b ∙ sym (setting_past p k m (omega arith)))
      (cases_lt k (p.length + 1))

  pub number_end : (j k e : ℕ) → e ≡ min k (p.length + 1) → e ≤ j → number (setting_before p (min j e) m) ≡ number (setting_before p k m)
  number_end j k e at h = ap number (setting_end j k e at h)

  pub number_end_below : (j k e : ℕ) → e ≡ min k (p.length + 1) → e ≤ j → number (setting_before p (min j e) m) < 2 ^ reports_before (kinds p) k
  number_end_below j k e at h = omega (arith, number_end j k e at h, setting_number_below k)

  pub left_end : (j k e : ℕ) → e ≡ min k (p.length + 1) → e ≤ j → reports_before (kinds p) (min j e) ≡ reports_before (kinds p) k
  left_end j k e at h = sym (setting_length p (min j e) m) ∙ ap length (setting_end j k e at h) ∙ setting_length p k m

-- A later position has no fewer reports before it.
count_more : (i j : ℕ) (ks : List Kind) → i ≤ j → report_count (take i ks) ≤ report_count (take j ks)
count_more zero j ks h = omega arith
count_more (suc i) zero ks h = absurd (omega arith)
count_more (suc i) (suc j) [] h = omega arith
count_more (suc i) (suc j) (Report ∷ ks) h = omega (arith, count_more i j ks (omega arith))
count_more (suc i) (suc j) (Reply ∷ ks) h = count_more i j ks (omega arith)

before_more : (ks : List Kind) (j k : ℕ) → j ≤ k → reports_before ks j ≤ reports_before ks k
before_more ks zero k h = omega arith
before_more ks (suc i) zero h = absurd (omega arith)
before_more ks (suc i) (suc j) h = count_more i j ks (omega arith)

-- How the reports before a position grow, at position k of a loop that ends at e.
module _ (p : Prefix) (k e : ℕ) (some : 1 ≤ k) (within : k < e) where
  pub left_step : is_report (kinds p) k ≡ true → reports_before (kinds p) (min (k + 1) e) ≡ reports_before (kinds p) (min k e) + 1
  left_step r =
      let a : min (k + 1) e ≡ k + 1 = omega arith in
      let b : k ≡ min k e = omega arith in
      ap (λ (z : ℕ). reports_before (kinds p) z) a ∙ sym (setting_length p (k + 1) 0) ∙ ap length (setting_report p k 0 some r)
      ∙ length-append (setting_before p k 0) (mask_value 0 k ∷ [])
      ∙ ap (λ (z : ℕ). z + 1) (setting_length p k 0) ∙ ap (λ (z : ℕ). reports_before (kinds p) z + 1) b

  pub left_stay : is_report (kinds p) k ≡ false → reports_before (kinds p) (min (k + 1) e) ≡ reports_before (kinds p) (min k e)
  left_stay r =
      let a : min (k + 1) e ≡ k + 1 = omega arith in
      let b : k ≡ min k e = omega arith in
      ap (λ (z : ℕ). reports_before (kinds p) z) a ∙ sym (setting_length p (k + 1) 0) ∙ ap length (setting_other p k 0 some r)
      ∙ setting_length p k 0 ∙ ap (λ (z : ℕ). reports_before (kinds p) z) b

  pub left_room : (q : ℕ) → e ≤ q → is_report (kinds p) k ≡ true → reports_before (kinds p) (min k e) + 1 ≤ reports_before (kinds p) q
  left_room q h r = omega (arith, left_step r, before_more (kinds p) (min (k + 1) e) q (omega arith))

-- A setting's number from its first reports: twice theirs, and one more where the next is on.
number_halved : (s d : ℕ) → 2 * (s / 2 ^ (d + 1)) + cond (eqb (bit_and (s / 2 ^ d) 1) 1) 1 0 ≡ s / 2 ^ d
number_halved s d =
    let h : s / 2 ^ d / 2 ≡ s / 2 ^ (d + 1) = shr-shr s d 1 in
    let t : cond (eqb (s / 2 ^ d % 2) 1) 1 0 ≡ s / 2 ^ d % 2 = two_cases (λ r. cond (eqb r 1) 1 0 ≡ r) refl refl (s / 2 ^ d % 2) (omega arith) in
    omega (arith, h, ap (λ (x : ℕ). cond (eqb x 1) 1 0) (and_mask (s / 2 ^ d) 1) ∙ t)

-- A loop that gives the reports before q the setting of number s stands at k, with d of them left,
-- and ends at e.
pub record LineSoFar (p : Prefix) (q s e k d m : ℕ) : Type 0 where
  pub left : d + reports_before (kinds p) (min k e) ≡ reports_before (kinds p) q
  pub setting : number (setting_before p (min k e) m) ≡ s / 2 ^ d
  pub alone : (j : ℕ) → mask_value m j ≡ true → (is_report (kinds p) j ≡ true) × (j < q)

value_none : (j : ℕ) → mask_value 0 j ≡ false
value_none zero = refl
value_none (suc i) = bit_past 0 0 i (omega arith) (omega arith)

pub so_far_first : (p : Prefix) (q s e d m : ℕ) → m ≡ 0 → d ≡ reports_before (kinds p) q → s < 2 ^ d → LineSoFar p q s e 1 d m
so_far_first p q s e d m z l b =
    let first : min 1 e - 1 ≡ 0 = omega arith in
    let none : reports_before (kinds p) (min 1 e) ≡ 0 =
    sym (setting_length p (min 1 e) 0) ∙ ap (λ (i : ℕ). length (report_values (kinds p) (bits i 0))) first ∙ ap length (values_none (kinds p)) in
    let small : s < 2 ^ (0 + d) = subst (λ (i : ℕ). s < 2 ^ i) (omega arith) b in
    let over : 0 ≡ s / 2 ^ d = omega (arith, shr_below s 0 d small) in
    record {
      left = omega arith;
      setting = number_first p m e ∙ over;
      alone = λ j on. absurd (true≢false (sym on ∙ ap (λ (x : ℕ). mask_value x j) z ∙ value_none j));
    }

-- At a report the line gets the next value of the setting.
pub so_far_report : {p : Prefix} {q s e k d m m' : ℕ} → LineSoFar p q s e k d m → Changed m k (eqb (bit_and (s / 2 ^ (d - 1)) 1) 1) m'
    → 1 ≤ k → k < e → e ≡ min q (p.length + 1) → is_report (kinds p) k ≡ true → LineSoFar p q s e (k + 1) (d - 1) m'
so_far_report {p} {q} {s} {e} {k} {d} {m} {m'} f c some l at r =
    let down : d ≡ d - 1 + 1 = omega (arith, f.left, left_room p k e some l q (omega arith) r) in
    let same : setting_before p (min k e) m' ≡ setting_before p (min k e) m =
    ap (report_values (kinds p)) (bits_same (min k e - 1) m' m (λ i h. c.elsewhere (suc i) (λ n. absurd (omega arith)))) in
    record {
      left = omega (arith, f.left, left_step p k e some l r);
      setting = number_step p m' k e some l r
          ∙ ap (λ t. 2 * number t + cond (mask_value m' k) 1 0) same
          ∙ ap (λ (x : ℕ). 2 * x + cond (mask_value m' k) 1 0) (f.setting ∙ ap (λ (i : ℕ). s / 2 ^ i) down)
          ∙ ap (λ (x : Bool). 2 * (s / 2 ^ (d - 1 + 1)) + cond x 1 0) (c.here some (omega arith))
          ∙ number_halved s (d - 1);
      alone = on_at;
    }
  where
    on_at : (j : ℕ) → mask_value m' j ≡ true → (is_report (kinds p) j ≡ true) × (j < q)
    on_at j on =
        ⊎_elim (λ (n : j ≡ k). (ap (is_report (kinds p)) n ∙ r, omega arith)) (λ (n : j ≢ k). f.alone j (sym (c.elsewhere j n) ∙ on)) (cases_eq j k)

pub so_far_other : {p : Prefix} {q s e k d m : ℕ} → LineSoFar p q s e k d m → 1 ≤ k → k < e → is_report (kinds p) k ≡ false → LineSoFar p q s e (k + 1) d m
so_far_other {p} {q} {s} {e} {k} {d} {m} f some l r = record {
  left = omega (arith, f.left, left_stay p k e some l r);
  setting = number_stay p m k e some l r ∙ f.setting;
  alone = f.alone;
}

pub so_far_end : {p : Prefix} {q s e k d m : ℕ} → LineSoFar p q s e k d m → e ≡ min q (p.length + 1) → e ≤ k → SettingMask p q s m
so_far_end {p} {q} {s} {e} {k} {d} {m} f at h =
    let none : d ≡ 0 = omega (arith, f.left, left_end p m k q e at h) in
    record {
      setting = sym (number_end p m k q e at h) ∙ f.setting ∙ ap (λ (i : ℕ). s / 2 ^ i) none ∙ div-one s;
      alone = f.alone;
    }
