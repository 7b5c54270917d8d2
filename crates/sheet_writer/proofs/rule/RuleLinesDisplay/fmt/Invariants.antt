use Rattle.std.proofs.Common.{take}
use Rattle.std.specs.Fmt.{HasWritten, IsPlainFormatter}
use Rattle.sheet_writer.proofs.Ruled.{rules_text}
use Rattle.sheet_writer.proofs.rule.RuleLinesDisplay.fmt.Given as goal

-- The lines of the rules so far.
abbrev pub invariant-loop-rule : goal.invariant-loop-rule
invariant-loop-rule g l =
    IsPlainFormatter l.fn.f → HasWritten g.W.Write.write_str_gives l.fn.f (rules_text l.length (take l.rule-index l.rule-items)) l.f
