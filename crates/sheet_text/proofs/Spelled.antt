-- The words that are numbers: each is what `decimal` writes of its value.
use Rattle.std.proofs.lemmas.Bool.Decides.{nat_tests}
use Rattle.std.proofs.Common.{◌≡◌, ℕ, zero, suc, ◌+◌, ◌-◌, ◌*◌, ◌^◌, ◌<◌, Bool, true, false, cond, ◌&&◌, eqb, ltb, ◌⊎◌, List, [], ◌∷◌, length, get_or, Some, None, decimal, Option, sym, refl, ap, ◌∙◌, inl, inr, ⊎_elim, arith, rules}
use Rattle.std.proofs.lemmas.Fmt.{decimal_nonempty, length-decimal-le, first_decimal, digits_decimal, digits_value-decimal, decimal-digits_value, decimal_digit}
use Rattle.std.proofs.lemmas.Str.Parse.{IsNumeralModel, numerals_by_fold, digits_value_short}
use Rattle.std.proofs.lemmas.Bool.{cond-true, cond-false, cases_Bool, ltb-false, and_cases, eqb-false, eqb-true, le-ltb}
use Rattle.std.specs.Int.{IsInRange}
use Rattle.sheet_text.specs.Words.{digits_on, natural_of, negated, unsigned, numeral_of}
use Rattle.sheet_text.specs.declared.word.Number.{Number}
use Rattle.sheet_text.proofs.Cutting.{natural_of_is}

abbrev Digital : List ℕ → Type 0
Digital [] = Unit {0}
Digital (c ∷ cs) = IsInRange 48 57 c × Digital cs

abbrev value_on : ℕ → List ℕ → ℕ
value_on v [] = v
value_on v (c ∷ cs) = value_on (v * 10 + (c - 48)) cs

own : IsNumeralModel Digital (value_on 0)
own = numerals_by_fold Digital (search rules) value_on (search rules)

pub none_some : {X : Type 0} (x : X) → ◌≡◌ {A = Option X} None (Some x) → ⊥
none_some x e = cc e

-- A test whose yes gives nothing was no where something came.
past_test : {X : Type 0} (b : Bool) (o : Option X) (x : X) → cond b None o ≡ Some x → (b ≡ false) × (o ≡ Some x)
past_test true o x e = absurd (none_some x e)
past_test false o x e = (refl, e)

digits_some : (bs : List ℕ) (v : ℕ) → Digital bs → digits_on v bs ≡ Some (value_on v bs)
digits_some [] v d = refl
digits_some (b ∷ bs) v d = cond-false _ _ _ (le-ltb b 48 d.0.0) ∙ cond-false _ _ _ (le-ltb 57 b d.0.1) ∙ digits_some bs (v * 10 + (b - 48)) d.1

digits_back : (bs : List ℕ) (v x : ℕ) → digits_on v bs ≡ Some x → Digital bs × (x ≡ value_on v bs)
digits_back [] v x e = (tt, let z : v ≡ x = cc in sym z)
digits_back (b ∷ bs) v x e =
    let low = past_test (ltb b 48) _ x e in
    let high = past_test (ltb 57 b) _ x low.1 in
    let rest = digits_back bs (v * 10 + (b - 48)) x high.1 in
    (((ltb-false b 48 low.0, ltb-false 57 b high.0), rest.0), rest.1)

million : (v : ℕ) → v < 1000000 → v < 2 ^ 64
million v h = omega arith

pub natural-decimal : (v : ℕ) → v < 1000000 → natural_of (decimal v) ≡ Some v
natural-decimal v h =
    let big = million v h in
    natural_of_is (decimal v) (decimal_nonempty v big) (length-decimal-le 6 v (omega arith) h big) (front v big)
    ∙ digits_some (decimal v) 0 (digits_decimal own v big) ∙ ap Some (digits_value-decimal own v big)
  where
    front : (v : ℕ) → v < 2 ^ 64 → get_or (decimal v) 0 0 ≡ 48 → 1 < length (decimal v) → ⊥
    front zero big e l = omega (arith, ap length (decimal_digit 0 (omega arith)))
    front (suc k) big e l = omega (arith, first_decimal (suc k) (omega arith) big)

pub natural_back : (w : List ℕ) (v : ℕ) → natural_of w ≡ Some v → (w ≡ decimal v) × (v < 1000000)
natural_back [] v e = absurd (none_some v e)
natural_back (b ∷ bs) v e =
    let long = past_test (ltb 6 (length (b ∷ bs))) _ v e in
    let led = past_test (eqb b 48 && ltb 1 (length (b ∷ bs))) _ v long.1 in
    let read = digits_back (b ∷ bs) 0 v led.1 in
    let few : value_on 0 (b ∷ bs) < 10 ^ 6 = digits_value_short own (b ∷ bs) 6 read.0 (ltb-false 6 (length (b ∷ bs)) long.0) in
    let same : decimal (value_on 0 (b ∷ bs)) ≡ b ∷ bs =
    decimal-digits_value own (b ∷ bs) read.0 (omega arith)
    (λ z. ⊎_elim (λ f. absurd (eqb-false b 48 f z)) (λ (f : ltb 1 (length (b ∷ bs)) ≡ false). omega (arith, ltb-false 1 (length (b ∷ bs)) f)) (and_cases (eqb b 48) (ltb 1 (length (b ∷ bs))) led.0)) (million _ few) in
    (sym same ∙ ap decimal (sym read.1), omega (arith, read.1))

-- A number without a minus, and one with it.
abbrev pub plain : ℕ → Number
plain v = record { value = v; negative = false }

abbrev pub minus : ℕ → Number
minus v = record { value = v; negative = true }

pub numeral_plain : (w : List ℕ) (v : ℕ) → natural_of w ≡ Some v → numeral_of w ≡ Some (plain v)
unfolding numeral_of
numeral_plain [] v e = absurd (none_some v e)
numeral_plain (b ∷ bs) v e = grind (arith, nat_tests)

pub numeral_minus : (w : List ℕ) (v : ℕ) → natural_of w ≡ Some v → (v ≡ 0 → ⊥) → numeral_of (45 ∷ w) ≡ Some (minus v)
unfolding numeral_of
numeral_minus w v e ne = grind (arith, nat_tests)

negated_back : (o : Option ℕ) (n : Number) → negated o ≡ Some n → (v : ℕ) × (o ≡ Some v) × (v ≡ 0 → ⊥) × (n ≡ minus v)
negated_back None n e = absurd (none_some n e)
negated_back (Some v) n e = grind (arith, nat_tests)

unsigned_back : (o : Option ℕ) (n : Number) → unsigned o ≡ Some n → (v : ℕ) × (o ≡ Some v) × (n ≡ plain v)
unsigned_back None n e = absurd (none_some n e)
unsigned_back (Some v) n e = grind (arith, nat_tests)

-- A word that is a number is its decimals, or a minus and its decimals.
pub numeral_back : (w : List ℕ) (n : Number) → numeral_of w ≡ Some n
    → ((v : ℕ) × (w ≡ decimal v) × (n ≡ plain v)) ⊎ ((v : ℕ) × (w ≡ 45 ∷ decimal v) × (v ≡ 0 → ⊥) × (n ≡ minus v))
unfolding numeral_of
numeral_back [] n e = absurd (none_some n e)
numeral_back (b ∷ bs) n e =
    ⊎_elim
    (λ (t : eqb b 45 ≡ true).
    let p = negated_back (natural_of bs) n (sym (cond-true (eqb b 45) (negated (natural_of bs)) (unsigned (natural_of (b ∷ bs))) t) ∙ e) in
    inr (p.0, (λ i. eqb-true b 45 t i ∷ (natural_back bs p.0 p.1).0 i), p.2, p.3))
    (λ (f : eqb b 45 ≡ false).
    let p = unsigned_back (natural_of (b ∷ bs)) n (sym (cond-false (eqb b 45) (negated (natural_of bs)) (unsigned (natural_of (b ∷ bs))) f) ∙ e) in
    inl (p.0, (natural_back (b ∷ bs) p.0 p.1).0, p.2))
    (cases_Bool (eqb b 45))
