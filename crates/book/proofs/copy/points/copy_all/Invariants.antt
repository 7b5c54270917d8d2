use Rattle.std.proofs.Common.{◌≡◌, true}
use Rattle.prefix.specs.Prefixes.{kinds}
use Rattle.book.specs.CopySteps.{CopiedTo}
use Rattle.book.proofs.copy.points.copy_all.Given as goal

abbrev pub invariant-loop-position : goal.invariant-loop-position
invariant-loop-position g l =
    (g.F.Book.prefix l.to ≡ l.prefix) × (g.F.FillableBook.room l.to ≡ true)
    × (g.F.FillableBook.unaltered l.to ≡ g.F.FillableBook.unaltered l.initial.to)
    × CopiedTo (kinds l.prefix) (g.B.Book.guards l.from) l.position 0 (g.F.Book.guards l.to)
