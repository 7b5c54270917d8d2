-- The mask that gives the reports a setting.
use Rattle.std.proofs.Common.{◌≡◌, ℕ, zero, suc, ◌+◌, ◌-◌, ◌*◌, ◌/◌, ◌%◌, ◌^◌, ◌<◌, Bool, true, false, cond, not, ◌||◌, eqb, List, [], ◌∷◌, length, take, sym, refl, ap, ◌∙◌, pow-suc, arith}
use mathlib.Core.Bool.{beq}
use Rattle.std.proofs.lemmas.Bool.{true≢false, false≢true, and_parts, and_from}
use Rattle.std.proofs.lemmas.Nat.{pow_pos}
use Rattle.prefix.specs.Bits.{odd, bit, bits}
use Rattle.prefix.specs.Kinds.{is_report, report_count, reports_before, report_values}
use Rattle.prefix.specs.declared.kind.Kind.{Kind}
use Rattle.prefix.specs.declared.kind.Kind.TheVariants.{Report, Reply}
use Rattle.prefix.proofs.Masks.{two_cases, bit_half, bit_first, bit_past, bits-apart}
use Rattle.book.specs.RowGuards.{as_wanted}
use Rattle.book_file.specs.Listing.{setting_mask}

not_on : (b : Bool) → (b ≡ true → ⊥) → b ≡ false
not_on true h = absurd (h refl)
not_on false h = refl

below_power : (m : ℕ) → m < 2 ^ m
below_power zero = omega arith
below_power (suc m) = omega (arith, pow-suc 2 m, below_power m)

bit_none : (i : ℕ) → bit 0 i ≡ false
bit_none i = bit_past 0 0 i (omega arith) (omega arith)

-- A mask that is off everywhere.
mask_off : (m : ℕ) → ((i : ℕ) → bit m i ≡ true → ⊥) → m ≡ 0
mask_off m h = bits-apart m m 0 (below_power m) (pow_pos m) (λ i l. not_on (bit m i) (h i) ∙ sym (bit_none i))

mask_none : (ks : List Kind) → setting_mask ks [] ≡ 0
mask_none [] = refl
mask_none (Report ∷ ks) = refl
mask_none (Reply ∷ ks) = omega (arith, mask_none ks)

-- The mask of a setting gives that setting.
pub values_of_mask : (ks : List Kind) (d : ℕ) (v : List Bool) → length v ≡ report_count (take d ks) → report_values ks (bits d (setting_mask ks v)) ≡ v
values_of_mask [] zero [] e = refl
values_of_mask [] (suc d) [] e = refl
values_of_mask [] zero (x ∷ v) e = absurd (omega arith)
values_of_mask [] (suc d) (x ∷ v) e = absurd (omega arith)
values_of_mask (q ∷ ks) zero [] e = refl
values_of_mask (q ∷ ks) zero (x ∷ v) e = absurd (omega arith)
values_of_mask (Reply ∷ ks) (suc d) v e =
    let half : 2 * setting_mask ks v / 2 ≡ setting_mask ks v = omega arith in
    ap (λ (m : ℕ). report_values ks (bits d m)) half ∙ values_of_mask ks d v e
values_of_mask (Report ∷ ks) (suc d) [] e = absurd (omega arith)
values_of_mask (Report ∷ ks) (suc d) (true ∷ v) e =
    let half : (1 + 2 * setting_mask ks v) / 2 ≡ setting_mask ks v = omega arith in
    let last : (1 + 2 * setting_mask ks v) % 2 ≡ 1 = omega arith in
    ap (λ (r : ℕ). eqb r 1 ∷ report_values ks (bits d ((1 + 2 * setting_mask ks v) / 2))) last
    ∙ ap (λ (m : ℕ). true ∷ report_values ks (bits d m)) half ∙ ap (λ t. true ∷ t) (values_of_mask ks d v (omega arith))
values_of_mask (Report ∷ ks) (suc d) (false ∷ v) e =
    let half : (0 + 2 * setting_mask ks v) / 2 ≡ setting_mask ks v = omega arith in
    let last : (0 + 2 * setting_mask ks v) % 2 ≡ 0 = omega arith in
    ap (λ (r : ℕ). eqb r 1 ∷ report_values ks (bits d ((0 + 2 * setting_mask ks v) / 2))) last
    ∙ ap (λ (m : ℕ). false ∷ report_values ks (bits d m)) half ∙ ap (λ t. false ∷ t) (values_of_mask ks d v (omega arith))

-- A mask that is on at reports of the first positions alone is the mask of the setting that it gives.
pub mask_of_values : (ks : List Kind) (d m : ℕ) → ((i : ℕ) → bit m i ≡ true → (is_report ks (suc i) ≡ true) × (i < d)) → m ≡ setting_mask ks (report_values ks (bits d m))
mask_of_values [] d m h = mask_off m (λ i e. false≢true (h i e).0)
mask_of_values (Report ∷ ks) zero m h = mask_off m (λ i e. let l = (h i e).1 in omega arith)
mask_of_values (Reply ∷ ks) zero m h = mask_off m (λ i e. let l = (h i e).1 in omega arith) ∙ sym (mask_none (Reply ∷ ks))
mask_of_values (Report ∷ ks) (suc d) m h =
    let half : m / 2 ≡ setting_mask ks (report_values ks (bits d (m / 2))) =
    mask_of_values ks d (m / 2) (λ i e. let r = h (suc i) (sym (bit_half m i) ∙ e) in let l = r.1 in (r.0, omega arith)) in
    let last : cond (odd m) 1 0 ≡ m % 2 = two_cases (λ r. cond (eqb r 1) 1 0 ≡ r) refl refl (m % 2) (omega arith) in
    omega (arith, half, last)
mask_of_values (Reply ∷ ks) (suc d) m h =
    let half : m / 2 ≡ setting_mask ks (report_values ks (bits d (m / 2))) =
    mask_of_values ks d (m / 2) (λ i e. let r = h (suc i) (sym (bit_half m i) ∙ e) in let l = r.1 in (r.0, omega arith)) in
    let off : odd m ≡ false = not_on (odd m) (λ e. false≢true (h 0 (bit_first m ∙ e)).0) in
    let low : m % 2 ≡ 0 = two_cases (λ r. eqb r 1 ≡ false → r ≡ 0) (λ _. refl) (λ e. absurd (true≢false e)) (m % 2) (omega arith) off in
    omega (arith, half, low)

-- Where the mask of a setting is on.
pub mask_on : (ks : List Kind) (d i : ℕ) (v : List Bool) → length v ≡ report_count (take d ks) → bit (setting_mask ks v) i ≡ true → (is_report ks (suc i) ≡ true) × (i < d)
mask_on [] d i v e h = absurd (false≢true (sym (bit_none i) ∙ h))
mask_on (q ∷ ks) zero i [] e h = absurd (false≢true (sym (bit_none i) ∙ ap (λ (m : ℕ). bit m i) (sym (mask_none (q ∷ ks))) ∙ h))
mask_on (q ∷ ks) zero i (x ∷ v) e h = absurd (omega arith)
mask_on (Reply ∷ ks) (suc d) zero v e h =
    let low : 2 * setting_mask ks v % 2 ≡ 0 = omega arith in
    absurd (false≢true (ap (λ (r : ℕ). eqb r 1) (sym low) ∙ sym (bit_first (2 * setting_mask ks v)) ∙ h))
mask_on (Reply ∷ ks) (suc d) (suc i) v e h =
    let half : 2 * setting_mask ks v / 2 ≡ setting_mask ks v = omega arith in
    let r = mask_on ks d i v e (ap (λ (m : ℕ). bit m i) (sym half) ∙ bit_half (2 * setting_mask ks v) i ∙ h) in
    let l = r.1 in
    (r.0, omega arith)
mask_on (Report ∷ ks) (suc d) i [] e h = absurd (omega arith)
mask_on (Report ∷ ks) (suc d) zero (x ∷ v) e h = (refl, omega arith)
mask_on (Report ∷ ks) (suc d) (suc i) (x ∷ v) e h =
    let half : (cond x 1 0 + 2 * setting_mask ks v) / 2 ≡ setting_mask ks v = omega (arith, cond_small x) in
    let r = mask_on ks d i v (omega arith) (ap (λ (m : ℕ). bit m i) (sym half) ∙ bit_half (cond x 1 0 + 2 * setting_mask ks v) i ∙ h) in
    let l = r.1 in
    (r.0, omega arith)
  where
    cond_small : (x : Bool) → cond x 1 0 < 2
    cond_small true = omega arith
    cond_small false = omega arith

-- So many values that are all on.
abbrev pub all_on : ℕ → List Bool
all_on zero = []
all_on (suc n) = true ∷ all_on n

-- A mask that is on at every report of the first positions gives them all on.
pub values_on : (ks : List Kind) (d m : ℕ) → ((i : ℕ) → i < d → is_report ks (suc i) ≡ true → bit m i ≡ true) → report_values ks (bits d m) ≡ all_on (report_count (take d ks))
values_on [] zero m h = refl
values_on [] (suc d) m h = refl
values_on (q ∷ ks) zero m h = refl
values_on (Reply ∷ ks) (suc d) m h = values_on ks d (m / 2) (λ i l r. bit_half m i ∙ h (suc i) (omega arith) r)
values_on (Report ∷ ks) (suc d) m h =
    ap (λ (x : Bool). x ∷ report_values ks (bits d (m / 2))) (sym (bit_first m) ∙ h zero (omega arith) refl)
    ∙ ap (λ t. true ∷ t) (values_on ks d (m / 2) (λ i l r. bit_half m i ∙ h (suc i) (omega arith) r))

-- Values are as they want themselves; where all are looked at, no others are.
beq_itself : (l x : Bool) → (not l || beq x x) ≡ true
beq_itself true true = refl
beq_itself true false = refl
beq_itself false x = refl

beq_same : (x y : Bool) → beq x y ≡ true → x ≡ y
beq_same true true h = refl
beq_same true false h = absurd (false≢true h)
beq_same false true h = absurd (false≢true h)
beq_same false false h = refl

pub wanted_itself : (ls v : List Bool) → as_wanted ls v v ≡ true
wanted_itself [] v = refl
wanted_itself (l ∷ ls) [] = refl
wanted_itself (l ∷ ls) (x ∷ v) = and_from (not l || beq x x) (as_wanted ls v v) (beq_itself l x) (wanted_itself ls v)

pub wanted_same : (n : ℕ) (v w : List Bool) → length v ≡ n → length w ≡ n → as_wanted (all_on n) v w ≡ true → w ≡ v
wanted_same zero [] [] e f h = refl
wanted_same zero (x ∷ v) w e f h = absurd (omega arith)
wanted_same zero [] (y ∷ w) e f h = absurd (omega arith)
wanted_same (suc n) [] w e f h = absurd (omega arith)
wanted_same (suc n) (x ∷ v) [] e f h = absurd (omega arith)
wanted_same (suc n) (x ∷ v) (y ∷ w) e f h =
    let both = and_parts (beq y x) (as_wanted (all_on n) v w) h in
    ap (λ (z : Bool). z ∷ w) (beq_same y x both.0) ∙ ap (λ t. x ∷ t) (wanted_same n v w (omega arith) (omega arith) both.1)

-- The reports before a position are those among the positions below it.
pub before_is : (ks : List Kind) (k : ℕ) → reports_before ks k ≡ report_count (take (k - 1) ks)
before_is ks zero = let z : 0 ≡ 0 - 1 = omega arith in ap (λ (d : ℕ). report_count (take d ks)) z
before_is ks (suc i) = let z : i ≡ suc i - 1 = omega arith in ap (λ (d : ℕ). report_count (take d ks)) z
