-- What a word does to a draft.
use Rattle.std.proofs.lemmas.Bool.Decides.{nat_tests}
use Rattle.std.proofs.Common.{◌≡◌, ℕ, ◌+◌, ◌-◌, ◌<◌, Bool, true, false, List, [], ◌∷◌, ◌++◌, length, is_some, Some, None, Ok, Err, Option, Result, sym, refl, ap, ◌∙◌, subst, arith}
use Rattle.std.proofs.lemmas.List.{length_push}
use Rattle.std.proofs.lemmas.Bool.{cond-true, cond-false}
use Rattle.sheet.specs.Literals.{Nameable, Joined, Made, lookup}
use Rattle.sheet.specs.declared.literal.Literal.{Literal}
use Rattle.sheet.specs.declared.rule.Rule.{Rule}
use Rattle.sheet.proofs.Collected.{made_more}
use Rattle.sheet_text.specs.Drafts.{Stands, Advanced}
use Rattle.sheet_text.specs.Keeping.{Gave}
use Rattle.sheet_text.specs.Machine.{step}
use Rattle.sheet_text.specs.Reading.{Progress, collected, advance}
use Rattle.sheet_text.specs.Tables.{MadeOf}
use Rattle.sheet_text.specs.Words.{Token}
use Rattle.faults.specs.declared.sheet.SheetFault.{SheetFault}
use Rattle.faults.specs.declared.sheet.SheetFault.TheVariants as fault
use Rattle.sheet_text.specs.declared.draft.Draft.{Draft}
use Rattle.sheet_text.specs.declared.state.State.{State}
use Rattle.sheet_text.specs.declared.taken.Taken.{Taken}
use Rattle.sheet_text.specs.declared.taken.Taken.TheVariants as taken
use Rattle.sheet_text.proofs.Given.{step_after}
use Rattle.sheet_text.proofs.Opened.{gave_ok}
use Rattle.sheet_text.proofs.Steps.{step_sound}

made_push : (lss : List (List Literal)) (rs : List Rule) (ls : List Literal) (r : Rule) → MadeOf lss rs → Made ls r → MadeOf (lss ++ ls ∷ []) (rs ++ r ∷ [])
made_push [] [] ls r h m = (m, tt)
made_push [] (x ∷ rs) ls r h m = absurd h
made_push (l ∷ lss) [] ls r h m = absurd h
made_push (l ∷ lss) (x ∷ rs) ls r h m = (h.0, made_push lss rs ls r h.1 m)

-- A rule more that is over was counted, and there is room for it.
pub counted : (d : Draft) (w : Token) (n : State) → Gave (step d.reader.state w) (Ok (Some taken.Rule)) n → (n.read ≡ d.reader.state.read + 1) × (n.read - 1 < 256)
counted d w n g =
    let s = gave_ok (step d.reader.state w) (Some taken.Rule) n g in
    let after = step_sound d.reader.state w n (Some taken.Rule) d.reader.sound s in
    let more = step_after d.reader.state w n (Some taken.Rule) d.reader.sound s in
    (more, omega (arith, after.read, after.few))

module _ (s : Progress) (d : Draft) (w : Token) (h : Stands s d) where
  -- What the word gave, by what is read.
  gave : (x : Option Taken) (n : State) → Gave (step d.reader.state w) (Ok x) n → advance s w ≡ collected s n x
  gave x n g = grind (arith, nat_tests)

  pub drafted_fault : (f : SheetFault) (n : State) (after : Draft) (r : Result (Unit {0}) SheetFault) → r ≡ Err f → Gave (step d.reader.state w) (Err f) n → Advanced (advance s w) r after
  drafted_fault f n after r e g = grind (arith, nat_tests)

  -- Where a literal stands: at a position that a rule can have.
  module _ (l : Literal) (q : ℕ) where
    pub drafted_literal : (after : Draft) → Joined d.rule l after.rule → after.rules.items ≡ d.rules.items → Gave (step d.reader.state w) (Ok (Some (taken.Literal l q))) after.reader.state → Advanced (advance s w) (Ok tt) after
    drafted_literal after j rules g =
        let n = after.reader.state in
        let read = step_after d.reader.state w n (Some (taken.Literal l q)) d.reader.sound (gave_ok (step d.reader.state w) (Some (taken.Literal l q)) n g) in
        let free : is_some (lookup s.literals l.position) ≡ false = ap is_some (sym (h.made.wanted l.position) ∙ j.nameable.1) in
        subst (λ o. Advanced o (Ok tt) after) (sym (gave (Some (taken.Literal l q)) n g ∙ cond-false _ _ _ free)) (
          refl,
          record {
            reader = refl;
            made = made_more s.literals l d.rule after.rule h.made j;
            count = read.0 ∙ ap (λ (m : State). m.read) h.reader ∙ h.count;
            rules = subst (λ (rs : List Rule). MadeOf s.rules rs) (sym rules) h.rules;
          },
        )

    pub drafted_repeated : (n : State) (after : Draft) (r : Result (Unit {0}) SheetFault) → r ≡ Err (fault.Repeated q) → Gave (step d.reader.state w) (Ok (Some (taken.Literal l q))) n → (Nameable d.rule l → ⊥) → Advanced (advance s w) r after
    drafted_repeated n after r e g unnamed =
        let range = (step_after d.reader.state w n (Some (taken.Literal l q)) d.reader.sound (gave_ok (step d.reader.state w) (Some (taken.Literal l q)) n g)).1 in
        let named : is_some (lookup s.literals l.position) ≡ true = taken_at (lookup s.literals l.position) (λ e. unnamed (range, h.made.wanted l.position ∙ e)) in
        subst (λ o. Advanced o r after) (sym (gave (Some (taken.Literal l q)) n g ∙ cond-true _ _ _ named)) e
      where
        taken_at : (o : Option Bool) → (o ≡ None → ⊥) → is_some o ≡ true
        taken_at None ne = absurd (ne refl)
        taken_at (Some b) ne = refl

  pub drafted_rule : (after : Draft) → after.rules.items ≡ d.rules.items ++ d.rule ∷ [] → Made [] after.rule → Gave (step d.reader.state w) (Ok (Some taken.Rule)) after.reader.state
      → Advanced (advance s w) (Ok tt) after
  drafted_rule after rules none g =
      let n = after.reader.state in
      let c = counted d w n g in
      let k = length s.rules in
      let was : d.reader.state.read ≡ k = ap (λ (m : State). m.read) h.reader ∙ h.count in
      let more : length (s.rules ++ s.literals ∷ []) ≡ k + 1 = length_push s.rules s.literals in
      subst (λ o. Advanced o (Ok tt) after) (sym (gave (Some taken.Rule) n g)) (
        refl,
        record {
          reader = refl;
          made = none;
          count = omega (arith, c.0, more);
          rules = subst (λ (rs : List Rule). MadeOf (s.rules ++ s.literals ∷ []) rs) (sym rules) (made_push s.rules d.rules.items s.literals d.rule h.rules h.made);
        },
      )
