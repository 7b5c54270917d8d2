use Rattle.prefix.specs.Prefixes.{kinds}
use Rattle.play.proofs.Verdicts.{NoneBelow}
use Rattle.play.proofs.checking.settings.check_settings.Given as goal

abbrev pub invariant-loop-number : goal.invariant-loop-number
invariant-loop-number g l = NoneBelow (g.F.Sheet.kept l.sheet) (g.B.Book.guards l.book) (kinds l.prefix) l.number
