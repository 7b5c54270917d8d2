use Rattle.std.proofs.Common.{◌≡◌, drop}
use Rattle.prefix.specs.Lines.{values_within}
use Rattle.sheet.specs.Rules.{terms_broken}
use Rattle.sheet.proofs.term.TermsNormalForm.broken.Given as goal

-- The rules that are left give the answer.
abbrev pub invariant-loop-rule : goal.invariant-loop-rule
invariant-loop-rule l =
    let u = values_within l.n l.part in
    terms_broken l.n l.rules u ≡ terms_broken l.n (drop l.rule-index l.rules) u
