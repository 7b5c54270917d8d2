use Rattle.std.proofs.Common.{◌≡◌, true}
use Rattle.prefix.specs.Prefixes.{kinds}
use Rattle.book.specs.CopySteps.{CopiedTo}
use Rattle.book.proofs.copy.points.copy_at.Given as goal

abbrev pub invariant-loop-number : goal.invariant-loop-number
invariant-loop-number g l =
    (g.F.Book.prefix l.to ≡ l.prefix) × (g.F.FillableBook.room l.to ≡ true)
    × (g.F.FillableBook.unaltered l.to ≡ g.F.FillableBook.unaltered l.initial.to)
    × CopiedTo (kinds l.prefix) (g.B.Book.guards l.from) l.position l.number (g.F.Book.guards l.to)
