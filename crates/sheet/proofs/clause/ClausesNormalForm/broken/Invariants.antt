use Rattle.std.proofs.Common.{◌≡◌, drop}
use Rattle.prefix.specs.Lines.{values_within}
use Rattle.sheet.specs.Rules.{clauses_broken}
use Rattle.sheet.proofs.clause.ClausesNormalForm.broken.Given as goal

-- The rules that are left give the answer.
abbrev pub invariant-loop-rule : goal.invariant-loop-rule
invariant-loop-rule l =
    let u = values_within l.n l.part in
    clauses_broken l.n l.rules u ≡ clauses_broken l.n (drop l.rule-index l.rules) u
