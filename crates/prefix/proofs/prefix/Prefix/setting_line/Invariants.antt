use Rattle.prefix.proofs.Before.{LineSoFar}
use Rattle.prefix.proofs.prefix.Prefix.setting_line.Given as goal

abbrev pub invariant-loop-earlier : goal.invariant-loop-earlier
invariant-loop-earlier l = LineSoFar l.self l.position l.number l.earlier-end l.earlier l.left l.line.mask
