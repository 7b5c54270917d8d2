-- What single words do to the reader, as numbers and as letters.
use Rattle.std.proofs.lemmas.Bool.Decides.{nat_tests}
use Rattle.std.proofs.Common.{◌≡◌, ℕ, ◌<◌, Bool, true, false, ◌⊎◌, List, ◌∷◌, Some, None, Ok, Err, codes, decimal, Option, Result, sym, refl, ap, ◌∙◌, inl, inr, ⊎_elim, arith}
use Rattle.std.proofs.lemmas.Fmt.{decimal_digit}
use Rattle.std.proofs.lemmas.Bool.{cond-true, cond-false, cases_Bool}
use Rattle.prefix.specs.declared.kind.Kind.{Kind}
use Rattle.prefix.specs.declared.kind.Kind.TheVariants.{Report, Reply}
use Rattle.sheet.specs.declared.form.Form.{Form}
use Rattle.sheet.specs.declared.form.Form.TheVariants.{Cnf, Dnf}
use Rattle.sheet_text.specs.Grammar.{form_word, kind_word}
use Rattle.sheet_text.specs.FirstWords.{first_word}
use Rattle.sheet_text.specs.Wanted.{after, form_of, natural_in}
use Rattle.sheet_text.specs.Words.{Token, letters, number, line_end, numeral_of, sort_word, sorted}
use Rattle.faults.specs.declared.sheet.SheetFault.{SheetFault}
use Rattle.faults.specs.declared.sheet.SheetFault.TheVariants as fault
use Rattle.sheet_text.specs.declared.first.First.{First}
use Rattle.sheet_text.specs.declared.first.First.TheVariants as first
use Rattle.sheet_text.specs.declared.word.Number.{Number}
use Rattle.sheet_text.proofs.Spelled.{natural-decimal, numeral_plain, numeral_minus, numeral_back, plain, minus}
use Rattle.sheet_text.proofs.Steps.{err_ok}

-- A word is a number or not.
pub sort_cases : (w : List ℕ) (p : ℕ) → ((n : Number) × (numeral_of w ≡ Some n) × (sort_word w p ≡ number n p)) ⊎ ((numeral_of w ≡ None) × (sort_word w p ≡ letters w p))
sort_cases w p = by (numeral_of w) refl
  where
    by : (o : Option Number) → numeral_of w ≡ o → ((n : Number) × (numeral_of w ≡ Some n) × (sort_word w p ≡ number n p)) ⊎ ((numeral_of w ≡ None) × (sort_word w p ≡ letters w p))
    by (Some n) e = inl (n, e, ap (sorted w p) e)
    by None e = inr (e, ap (sorted w p) e)

pub sort_decimal : (v p : ℕ) → v < 1000000 → sort_word (decimal v) p ≡ number (plain v) p
sort_decimal v p h = ap (sorted (decimal v) p) (numeral_plain (decimal v) v (natural-decimal v h))

pub sort_minus : (v p : ℕ) → v < 1000000 → (v ≡ 0 → ⊥) → sort_word (45 ∷ decimal v) p ≡ number (minus v) p
sort_minus v p h ne = ap (sorted (45 ∷ decimal v) p) (numeral_minus (decimal v) v (natural-decimal v h) ne)

pub zero_word : decimal 0 ≡ codes "0"
zero_word = decimal_digit 0 (omega arith)

pub sort_zero : (p : ℕ) → sort_word (codes "0") p ≡ number (plain 0) p
sort_zero p = ap (λ (t : List ℕ). sort_word t p) (sym zero_word) ∙ sort_decimal 0 p (omega arith)

-- The letters that begin a line.
pub sort_c : (p : ℕ) → sort_word (codes "c") p ≡ letters (codes "c") p
unfolding numeral_of
sort_c p = refl

pub sort_p : (p : ℕ) → sort_word (codes "p") p ≡ letters (codes "p") p
unfolding numeral_of
sort_p p = refl

pub sort_kind : (k : Kind) (p : ℕ) → sort_word (kind_word k) p ≡ letters (kind_word k) p
unfolding numeral_of
sort_kind Report p = refl
sort_kind Reply p = refl

pub sort_form : (f : Form) (p : ℕ) → sort_word (form_word f) p ≡ letters (form_word f) p
unfolding numeral_of
sort_form Cnf p = refl
sort_form Dnf p = refl

pub form_is : (f : Form) → form_of (form_word f) ≡ Some f
form_is Cnf = refl
form_is Dnf = refl

-- What a first word that decides a line is.
abbrev Begins : First → List ℕ → Type 0
Begins first.Comment w = w ≡ codes "c"
Begins first.Header w = w ≡ codes "p"
Begins (first.Quantifier k) w = w ≡ kind_word k
Begins first.Number w = ⊥
Begins first.Letters w = Unit {0}
Begins first.Other w = Unit {0}

pub begins_with : (w : List ℕ) (f : First) → first_word w ≡ f → Begins f w
begins_with w f e = grind (arith, nat_tests)

-- The word that is a number without a minus.
plain_not_minus : (v x : ℕ) → plain v ≡ minus x → ⊥
plain_not_minus v x e = grind (arith, nat_tests)

pub plain_word : (w : List ℕ) (p v q : ℕ) → sort_word w p ≡ number (plain v) q → w ≡ decimal v
plain_word w p v q e =
    ⊎_elim
    (λ (s : (n : Number) × (numeral_of w ≡ Some n) × (sort_word w p ≡ number n p)).
    let same : s.0 ≡ plain v = let f : number s.0 p ≡ number (plain v) q = sym s.2 ∙ e in cc f in
    ⊎_elim (λ b. b.1 ∙ ap decimal (sym (ap (λ (n : Number). n.value) (sym same ∙ b.2)))) (λ b. absurd (plain_not_minus v b.0 (sym same ∙ b.3))) (numeral_back w s.0 s.1))
    (λ (s : (numeral_of w ≡ None) × (sort_word w p ≡ letters w p)). absurd (letters-number w p (plain v) q (sym s.1 ∙ e)))
    (sort_cases w p)
  where
    letters-number : (t : List ℕ) (p : ℕ) (n : Number) (q : ℕ) → letters t p ≡ number n q → ⊥
    letters-number t p n q e = cc e

-- What came of a value that was wanted.
pub wanted_back : {A B : Type 0} (o : Result A SheetFault) (go : A → Result B SheetFault) (u : B) → after o go ≡ Ok u → (x : A) × (o ≡ Ok x) × (go x ≡ Ok u)
wanted_back (Ok x) go u e = (x, refl, e)
wanted_back (Err f) go u e = absurd (err_ok f u e)

-- Where a number without a minus is wanted and nothing is wrong, one came.
pub natural_back : {B : Type 0} (s : Token) (go : ℕ → Result B SheetFault) (u : B) → after (natural_in s) go ≡ Ok u → (v : ℕ) × (p : ℕ) × (s ≡ number (plain v) p) × (go v ≡ Ok u)
natural_back (letters t p) go u e = absurd (err_ok (fault.NoNumber p) u e)
natural_back (number n p) go u e =
    ⊎_elim (λ (t : n.negative ≡ true). absurd (err_ok (fault.NoNumber p) u (sym (ap (λ o. after o go) (cond-true n.negative (Err (fault.NoNumber p)) (Ok n.value) t)) ∙ e)))
    (λ (f : n.negative ≡ false). (n.value, p, ap (λ (b : Bool). number (record { value = n.value; negative = b }) p) f, sym (ap (λ o. after o go) (cond-false n.negative (Err (fault.NoNumber p)) (Ok n.value) f)) ∙ e))
    (cases_Bool n.negative)
natural_back (line_end p) go u e = absurd (err_ok (fault.NoNumber p) u e)
