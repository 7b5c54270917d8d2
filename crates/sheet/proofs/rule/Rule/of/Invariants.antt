use Rattle.std.proofs.Common.{take}
use Rattle.sheet.specs.Literals.{Made}
use Rattle.sheet.proofs.rule.Rule.of.Given as goal

-- The rule is that of the literals so far.
abbrev pub invariant-loop-literal : goal.invariant-loop-literal
invariant-loop-literal l = Made (take l.literal-index l.literals) l.rule
