use Rattle.std.proofs.Common.{◌++◌, take, codes, decimal}
use Rattle.std.specs.List.{flat_map}
use Rattle.std.specs.Fmt.{HasWritten, IsPlainFormatter}
use Rattle.jobs.specs.Settling.{choice_line}
use Rattle.jobs.proofs.settling.SettlementDisplay.fmt.Given as goal

-- The count, and the lines of the choices so far.
abbrev pub invariant-loop-choice : goal.invariant-loop-choice
invariant-loop-choice g l =
    IsPlainFormatter l.fn.f → HasWritten g.W.Write.write_str_gives l.fn.f ((codes "policies " ++ decimal l.self.policies.value) ++ flat_map choice_line (take l.choice-index l.choice-items)) l.f
