-- The loop over the words of a text: what is read so far, and what is left.
use Rattle.std.proofs.Common.{◌≡◌, ℕ, suc, List, [], ◌∷◌, length, Ok, Err, Result, sym, refl, ap, ◌∙◌, subst}
use Rattle.sheet.specs.declared.literal.Literal.{Literal}
use Rattle.sheet.specs.declared.rule.Rule.{Rule}
use Rattle.sheet_text.specs.Tables.{MadeOf}
use Rattle.sheet_text.specs.Lexing.{stream, Drew}
use Rattle.sheet_text.specs.Machine.{step}
use Rattle.sheet_text.specs.Reading.{Progress, begin, given, advance, onward, run, finished, whole, ending, read_through}
use Rattle.sheet_text.specs.Drafts.{Stands, Advanced, Passed}
use Rattle.sheet_text.specs.Words.{Token, token}
use Rattle.sheet_text.specs.Cuts.{Tokens, stop, next, tokens}
use Rattle.faults.specs.declared.sheet.SheetFault.{SheetFault}
use Rattle.faults.specs.declared.sheet.SheetFault.TheVariants as fault
use Rattle.faults.specs.declared.text.TextFault.{TextFault}
use Rattle.faults.specs.declared.text.TextFault.TheVariants.{Byte}
use Rattle.sheet_text.specs.declared.draft.Draft.{Draft}
use Rattle.sheet_text.specs.declared.lexer.Lexer.{Lexer}
use Rattle.sheet_text.specs.declared.state.State.{State}
use Rattle.sheet_text.specs.declared.word.Word.{Word}
use Rattle.sheet_text.proofs.Steps.{err_ok}

abbrev pub progress : State → List Literal → List (List Literal) → Progress
progress m ls done = record { reader = m; literals = ls; rules = done }

-- One word more.
pub run_turn : (s u : Progress) (ts rest : Tokens) (w : Token) → ts ≡ next w rest → given s (step s.reader w) ≡ Ok u → run s ts ≡ run u rest
unfolding run
run_turn s u ts rest w e f = ap (run s) e ∙ ap (λ o. onward o (λ v. run v rest)) f

pub run_over : (s : Progress) (ts : Tokens) → ts ≡ stop → run s ts ≡ Ok s
unfolding run
run_over s ts e = ap (run s) e

pub run_fault : (s : Progress) (ts rest : Tokens) (w : Token) (f : SheetFault) → ts ≡ next w rest → given s (step s.reader w) ≡ Err f → run s ts ≡ Err f
unfolding run
run_fault s ts rest w f e g = ap (run s) e ∙ ap (λ o. onward o (λ v. run v rest)) g

run-bad : (s : Progress) (ts rest : Tokens) (f : TextFault) → Drew ts (Err f) rest → run s ts ≡ Err (fault.Text f)
unfolding run
run-bad s ts rest (Byte p) e = ap (run s) e

pub finished_err : (p : ℕ) (s : Progress) (f : SheetFault) → Err f ≡ finished p s.reader.section s.reader → ending p (Ok s) ≡ Err f
finished_err p s f e = ap (whole s) (sym e)

pub finished_ok : (p : ℕ) (s : Progress) (x : Unit {0}) → Ok x ≡ finished p s.reader.section s.reader → ending p (Ok s) ≡ Ok s
finished_ok p s x e = ap (whole s) (sym e)

made_length : (lss : List (List Literal)) (rs : List Rule) → MadeOf lss rs → length rs ≡ length lss
made_length [] [] h = refl
made_length [] (r ∷ rs) h = absurd h
made_length (ls ∷ lss) [] h = absurd h
made_length (ls ∷ lss) (r ∷ rs) h = ap suc (made_length lss rs h.1)

-- A draft has as many rules as are over.
pub stands_size : (s : Progress) (d : Draft) → Stands s d → length d.rules.items ≡ length s.rules
stands_size s d h = made_length s.rules d.rules.items h.rules

-- The words of t up to where l stands gave the draft, and those left give what the whole text gives.
pub record Going (t : List ℕ) (l : Lexer) (d : Draft) : Type 0 where
  pub so_far : Progress
  pub stands : Stands so_far d
  pub rest : run so_far (stream l) ≡ run begin (tokens t)

-- The reader has counted them.
pub going_counted : (t : List ℕ) (l : Lexer) (d : Draft) → Going t l d → length d.rules.items ≡ d.reader.state.read
going_counted t l d g =
    let s = g.so_far in
    stands_size s d g.stands ∙ sym (ap (λ (m : State). m.read) g.stands.reader ∙ g.stands.count)

advanced_ok : (o : Result Progress SheetFault) (x : Unit {0}) (d : Draft) → Advanced o (Ok x) d → (s : Progress) × (o ≡ Ok s) × Stands s d
advanced_ok (Ok s) x d h = (s, refl, h.1)
advanced_ok (Err f) x d h = absurd (err_ok f x (sym h))

advanced_err : (o : Result Progress SheetFault) (f : SheetFault) (d : Draft) → Advanced o (Err f) d → o ≡ Err f
advanced_err (Ok s) f d h = absurd (err_ok f tt h.0)
advanced_err (Err g) f d h = let e : g ≡ f = cc h in ap Err e

module _ (t : List ℕ) (l k : Lexer) (d : Draft) (g : Going t l d) where
  pub going_bad : (f : TextFault) → Drew (stream l) (Err f) (stream k) → Err (fault.Text f) ≡ read_through t
  unfolding read_through
  going_bad f e = ap (ending (length t)) (sym (run-bad g.so_far (stream l) (stream k) f e) ∙ g.rest)

  module _ (w : Word) (after : Draft) (e : stream l ≡ next (token w) (stream k)) where
    pub going_fault : (f : SheetFault) → ((s : Progress) → Stands s d → Advanced (advance s (token w)) (Err f) after) → Err f ≡ read_through t
    unfolding read_through
    going_fault f took = ap (ending (length t)) (sym (run_fault g.so_far (stream l) (stream k) (token w) f e (advanced_err _ f after (took g.so_far g.stands))) ∙ g.rest)

    pub going_on : (x : Unit {0}) → ((s : Progress) → Stands s d → Advanced (advance s (token w)) (Ok x) after) → Going t k after
    going_on x took =
        let a = advanced_ok _ x after (took g.so_far g.stands) in
        record { so_far = a.0; stands = a.2; rest = sym (run_turn g.so_far a.0 (stream l) (stream k) (token w) e a.1) ∙ g.rest }

  -- At the end of the text.
  module _ (over : stream l ≡ stop) where
    through : ending (length t) (Ok g.so_far) ≡ read_through t
    unfolding read_through
    through = ap (ending (length t)) (sym (run_over g.so_far (stream l) over) ∙ g.rest)

    pub going_unfinished : (f : SheetFault) → Err f ≡ finished (length t) d.reader.state.section d.reader.state → Err f ≡ read_through t
    going_unfinished f e = sym (finished_err (length t) g.so_far f (e ∙ ap (λ (m : State). finished (length t) m.section m) g.stands.reader)) ∙ through

    pub going_over : (x : Unit {0}) → Ok x ≡ finished (length t) d.reader.state.section d.reader.state → Passed (read_through t) (Ok tt) d
    going_over x e =
        subst (λ (r : Result Progress SheetFault). Passed r (Ok tt) d) (sym (finished_ok (length t) g.so_far x (e ∙ ap (λ (m : State). finished (length t) m.section m) g.stands.reader)) ∙ through) g.stands

-- A fault that the text has is what was to be found.
pub passed_fault : (t : List ℕ) (f : SheetFault) (r : Result (Unit {0}) SheetFault) (d : Draft) → r ≡ Err f → Err f ≡ read_through t → Passed (read_through t) r d
passed_fault t f r d is e = subst (λ (r : Result (Unit {0}) SheetFault). Passed (read_through t) r d) (sym is) (subst (λ (o : Result Progress SheetFault). Passed o (Err f) d) e refl)
