-- The numbers of settings, and of the first setting that has a point.
use Rattle.std.proofs.Common.{◌≡◌, ℕ, zero, suc, ◌+◌, ◌-◌, ◌*◌, ◌/◌, ◌%◌, ◌^◌, ◌<◌, ◌≤◌, Bool, true, false, List, [], ◌∷◌, ◌++◌, length, take, drop, replicate, Decides, nat_eq, sym, refl, ap, ◌∙◌, subst, mod-eq_of_lt, add-one, arith, length-append, length-drop}
use Rattle.std.proofs.Math.Nat.{add-mul, mul-div_left, mul-mod_left, mul-add-mod_self_right}
use Rattle.std.proofs.Math.Seq.{drop-nil, take-append_seam}
use Rattle.std.proofs.lemmas.Bool.{eqb-true, eq-eqb}
use Rattle.std.proofs.lemmas.List.{take-append-drop, take_all, length-replicate}
use Rattle.std.proofs.lemmas.Nat.{pow-add, pow_pos}
use Rattle.prefix.specs.Bits.{odd, bits}
use Rattle.prefix.specs.Kinds.{report_count, reports_before, report_values}
use Rattle.prefix.specs.Lines.{setting_before, SettingMask}
use Rattle.prefix.specs.Points.{Point}
use Rattle.prefix.specs.Prefixes.{kinds}
use Rattle.prefix.specs.Settings.{Setting, number}
use Rattle.prefix.specs.declared.kind.Kind.{Kind}
use Rattle.prefix.specs.declared.kind.Kind.TheVariants.{Report, Reply}
use Rattle.prefix.specs.declared.prefix.Prefix.{Prefix}
use Rattle.prefix.proofs.Before.{setting_length}
use Rattle.prefix.proofs.Masks.{length-bits}
use Rattle.prefix.proofs.Positions.{length-kinds, before_le}
use Rattle.prefix.proofs.Settings.{number-below, number-apart}
use Rattle.book.proofs.PlaceOrder.{later_is}
use Rattle.play.specs.Filling.{first_setting, first_number, FirstHas}

number_append : (v w : List Bool) → number (v ++ w) ≡ number v * 2 ^ length w + number w
number_append [] w = omega arith
number_append (true ∷ v) w =
    omega (arith, number_append v w, add-mul (2 ^ length v) (number v) (2 ^ length w), pow-add 2 (length v) (length w), ap (λ (i : ℕ). 2 ^ i) (length-append v w))
number_append (false ∷ v) w =
    omega (arith, number_append v w, add-mul 0 (number v) (2 ^ length w))

number_off : (n : ℕ) → number (replicate n false) ≡ 0
number_off zero = refl
number_off (suc n) = omega (arith, number_off n)

-- The values of the reports, of two parts of a line.
values_append : (ks : List Kind) (a b : List Bool) → report_values ks (a ++ b) ≡ report_values ks a ++ report_values (drop (length a) ks) b
values_append [] a b = ap (λ (l : List Kind). report_values l b) (sym (drop-nil (length a)))
values_append (q ∷ ks) [] b = refl
values_append (Report ∷ ks) (x ∷ a) b = ap (λ t. x ∷ t) (values_append ks a b)
values_append (Reply ∷ ks) (x ∷ a) b = values_append ks a b

pub take-bits : (i n m : ℕ) → i ≤ n → take i (bits n m) ≡ bits i m
take-bits zero n m h = refl
take-bits (suc i) zero m h = absurd (omega arith)
take-bits (suc i) (suc n) m h = ap (λ t. odd m ∷ t) (take-bits i n (m / 2) (omega arith))

-- A setting is the part before a position, and then the later reports.
module _ (p : Prefix) (k m : ℕ) (within : k ≤ p.length + 1) where
  abbrev pub whole : List Bool
  whole = setting_before p (p.length + 1) m

  abbrev pub later : List Bool
  later = report_values (drop (k - 1) (kinds p)) (drop (k - 1) (bits (p.length + 1 - 1) m))

  pub whole_is : whole ≡ setting_before p k m ++ later
  whole_is =
      let front : take (k - 1) (bits (p.length + 1 - 1) m) ≡ bits (k - 1) m = take-bits (k - 1) (p.length + 1 - 1) m (omega arith) in
      ap (report_values (kinds p)) (sym (take-append-drop (k - 1) (bits (p.length + 1 - 1) m)) ∙ ap (λ t. t ++ drop (k - 1) (bits (p.length + 1 - 1) m)) front)
      ∙ values_append (kinds p) (bits (k - 1) m) (drop (k - 1) (bits (p.length + 1 - 1) m))
      ∙ ap (λ (i : ℕ). setting_before p k m ++ report_values (drop i (kinds p)) (drop (k - 1) (bits (p.length + 1 - 1) m))) (length-bits (k - 1) m)

  pub length-whole : length whole ≡ report_count (kinds p)
  length-whole =
      setting_length p (p.length + 1) m ∙ ap (reports_before (kinds p)) (add-one p.length)
      ∙ ap report_count (take_all p.length (kinds p) (omega (arith, length-kinds p.length p.reports)))

  length-later : length later ≡ report_count (kinds p) - reports_before (kinds p) k
  length-later = omega (arith, length-whole, ap length whole_is, length-append (setting_before p k m) later, setting_length p k m)

  abbrev rest : ℕ
  rest = report_count (kinds p) - reports_before (kinds p) k

  later_below : number later < 2 ^ rest
  later_below = subst (λ (r : ℕ). number later < 2 ^ r) length-later (number-below later)

  number_whole : number whole ≡ number (setting_before p k m) * 2 ^ rest + number later
  number_whole = ap number whole_is ∙ number_append (setting_before p k m) later ∙ ap (λ (r : ℕ). number (setting_before p k m) * 2 ^ r + number later) length-later

pub first_is : (ks : List Kind) (k : ℕ) (v : List Bool) → first_number ks k v ≡ number v * 2 ^ (report_count ks - reports_before ks k)
first_is ks k v =
    let r : ℕ = report_count ks - reports_before ks k in
    number_append v (replicate r false) ∙ ap (λ (i : ℕ). number v * 2 ^ i + number (replicate r false)) (length-replicate {A = Bool} r false) ∙ omega (arith, number_off r)

module _ (ks : List Kind) (k : ℕ) (v : List Bool) (o : Point ks k v) where
  length-first : length (first_setting ks k v) ≡ report_count ks
  length-first =
      let r : ℕ = report_count ks - reports_before ks k in
      omega (arith, length-append v (replicate r false), length-replicate {A = Bool} r false, o.1, before_le ks k)

  -- The first setting that has a point has a number below that of all settings.
  pub first_below : first_number ks k v < 2 ^ report_count ks
  first_below = subst (λ (n : ℕ). first_number ks k v < 2 ^ n) length-first (number-below (first_setting ks k v))

  -- Another that has it has the same values and then more.
  first_least : (s : List Bool) → Setting ks s → take (length v) s ≡ v → first_number ks k v ≤ number s
  first_least s e same =
      let rest : List Bool = drop (length v) s in
      let split : number s ≡ number v * 2 ^ length rest + number rest =
      ap number (sym (take-append-drop (length v) s) ∙ ap (λ t. t ++ rest) same) ∙ number_append v rest in
      let long : length rest ≡ report_count ks - reports_before ks k = omega (arith, length-drop (length v) s, e, o.1) in
      omega (arith, first_is ks k v, split, ap (λ (i : ℕ). number v * 2 ^ i) long)

pub first_has : (ks : List Kind) → FirstHas ks
first_has ks = record {
  has = λ k v o. (length-first ks k v o, take-append_seam v (replicate (report_count ks - reports_before ks k) false));
  least = λ k v s o. first_least ks k v o s;
}

-- Setting s has the mask m, and at position k the point of that mask.
module _ (p : Prefix) (k s m : ℕ) (within : k ≤ p.length) (setting : SettingMask p (p.length + 1) s m) where
  abbrev here : List Bool
  here = setting_before p k m

  abbrev size : ℕ
  size = 2 ^ (report_count (kinds p) - reports_before (kinds p) k)

  inside : k ≤ p.length + 1
  inside = omega arith

  number_is : s ≡ number here * size + number (later p k m inside)
  number_is = sym setting.setting ∙ number_whole p k m inside

  -- It is the first to have that point, or comes after the first.
  pub first_at_most : first_number (kinds p) k here ≤ s
  first_at_most = omega (arith, first_is (kinds p) k here, number_is)

  rest_is : s % size ≡ number (later p k m inside)
  rest_is = ap (λ (i : ℕ). i % size) number_is ∙ mul-add-mod_self_right (number here) size (number (later p k m inside)) ∙ mod-eq_of_lt (later_below p k m inside)

  -- It is the first where its number is a multiple of how many settings the later reports have.
  pub first_decides : Decides (nat_eq (s % (2 ^ report_count (kinds p) / 2 ^ reports_before (kinds p) k)) 0) (first_number (kinds p) k here ≡ s)
  first_decides =
      let cut : s % (2 ^ report_count (kinds p) / 2 ^ reports_before (kinds p) k) ≡ number (later p k m inside) = ap (λ (i : ℕ). s % i) (later_is (kinds p) k) ∙ rest_is in
      (λ e. omega (arith, first_is (kinds p) k here, number_is, cut, eqb-true _ _ e), λ e. eq-eqb _ _ (omega (arith, first_is (kinds p) k here, number_is, cut)))

  -- No other point of the position is met first in it.
  pub first_only : (w : List Bool) → Point (kinds p) k w → first_number (kinds p) k w ≡ s → w ≡ here
  first_only w o e =
      let whole : number w * size ≡ number here * size + number (later p k m inside) = sym (first_is (kinds p) k w) ∙ e ∙ number_is in
      let none : number (later p k m inside) ≡ 0 = sym (mod-eq_of_lt (later_below p k m inside)) ∙ sym (mul-add-mod_self_right (number here) size (number (later p k m inside))) ∙ ap (λ (i : ℕ). i % size) (sym whole) ∙ mul-mod_left (number w) size in
      let same : number w * size ≡ number here * size = omega (arith, whole, none) in
      number-apart w here (o.1 ∙ sym (setting_length p k m)) (sym (mul-div_left (number w) (pow_pos _)) ∙ ap (λ (i : ℕ). i / size) same ∙ mul-div_left (number here) (pow_pos _))
