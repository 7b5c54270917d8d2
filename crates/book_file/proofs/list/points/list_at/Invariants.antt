use Rattle.std.proofs.Common.{◌+◌, ◌*◌, ◌≤◌, List}
use Rattle.book.specs.declared.row.Row.{Row}
use Rattle.book_file.specs.ListSteps.{place, ListedTo}
use Rattle.book_file.proofs.list.points.list_at.Given as goal

abbrev pub invariant-loop-number : goal.invariant-loop-number
invariant-loop-number g l = record {
  few : l.listed ≤ 8192 * l.position + 2 * l.number;
  listed : (start : List Row) → ListedTo l.prefix (g.B.Book.guards l.book) (place l.position 0 0) start l.initial.table l.initial.listed
      → ListedTo l.prefix (g.B.Book.guards l.book) (place l.position l.number 0) start l.table l.listed;
}
