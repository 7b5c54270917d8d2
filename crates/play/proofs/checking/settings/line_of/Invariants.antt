use Rattle.play.specs.CheckSteps.{CheckedTo}
use Rattle.play.proofs.checking.settings.line_of.Given as goal

abbrev pub invariant-loop-position : goal.invariant-loop-position
invariant-loop-position g l = CheckedTo (g.B.Book.guards l.book) l.prefix l.initial.line.mask l.position l.line.mask
