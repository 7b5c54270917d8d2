use Rattle.std.proofs.Common.{◌≡◌, ◌+◌, false, List, ◌∷◌, ◌++◌, get_or, take, drop, sym, ap, ◌∙◌, subst}
use Rattle.std.proofs.lemmas.List.{take-append-drop, take_more, drop_more}
use Rattle.sheet.specs.Literals.{Distinct, Made}
use Rattle.sheet.specs.declared.literal.Literal.{Literal}
use Rattle.sheet.proofs.Collected.{made_more, made_next}
use Rattle.sheet.proofs.rule.Rule.of.Goals as goal

abbrev zeros : Literal
zeros = record { position = 0; wanted = false }

pub returns-in_err-rule : goal.returns-in_err-rule
returns-in_err-rule c = rw c.from_residual.ensures (λ d.
    let ls = c.args.literals.now in
    let i = c.loop-literal.literal-index in
    let parts : ls ≡ take i ls ++ get_or ls i zeros ∷ drop (i + 1) ls =
    sym (take-append-drop i ls) ∙ ap (λ t. take i ls ++ t) (drop_more ls i zeros c.loop-literal-test.true) in
    c.in_err-rule.ensures
    (made_next (take i ls) (get_or ls i zeros) (drop (i + 1) ls) c.loop-literal.rule c.loop-literal.invariant (subst Distinct parts d)))

pub loop-literal-preserved : goal.loop-literal-preserved
loop-literal-preserved c =
    let ls = c.args.literals.now in
    let i = c.loop-literal.literal-index in
    subst (λ (t : List Literal). Made t c.in_ok-rule.rule) (sym (take_more ls i zeros c.loop-literal-test.true))
    (made_more (take i ls) (get_or ls i zeros) c.loop-literal.rule c.in_ok-rule.rule c.loop-literal.invariant c.in_ok-rule.ensures)
