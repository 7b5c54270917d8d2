use Rattle.std.proofs.Common.{◌≡◌, true}
use Rattle.prefix.specs.Policies.{Policy}
use Rattle.prefix.specs.Prefixes.{kinds}
use Rattle.play.specs.Filling.{AddsOne}
use Rattle.play.specs.Searching.{OnWhereItCanWin}
use Rattle.play.specs.Steps.{StillReady, FilledTo}
use Rattle.play.specs.LineTo.{LineTo}
use Rattle.play.proofs.searching.filling.take_setting.Given as goal

abbrev pub invariant-loop-position : goal.invariant-loop-position
invariant-loop-position g l =
    (g.B.Book.prefix l.book ≡ l.prefix) × (g.B.FillableBook.room l.book ≡ true) × (g.B.FillableBook.unaltered l.book ≡ g.B.FillableBook.unaltered l.initial.book)
    × StillReady l.initial.stack.cells.now l.stack.cells.now × (l.stack.cells.ghost_name ≡ l.initial.stack.cells.ghost_name)
    × ((p : Policy) (start : g.row.B.Denot) → OnWhereItCanWin (g.F.Sheet.kept l.sheet) (kinds l.prefix) p
    → FilledTo (AddsOne g.B.FillableBook.Adds g.B.Book.guards (kinds l.prefix)) (kinds l.prefix) p l.number 1 start l.initial.book (g.B.Book.guards l.initial.book)
    → FilledTo (AddsOne g.B.FillableBook.Adds g.B.Book.guards (kinds l.prefix)) (kinds l.prefix) p l.number l.position start l.book (g.B.Book.guards l.book) × LineTo l.prefix p l.initial.line.mask l.position l.line.mask)
