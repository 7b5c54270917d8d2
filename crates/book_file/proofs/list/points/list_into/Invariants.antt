use Rattle.std.proofs.Common.{◌*◌, ◌≤◌}
use Rattle.book_file.specs.ListSteps.{place, ListedTo}
use Rattle.book_file.proofs.list.points.list_into.Given as goal

abbrev pub invariant-loop-position : goal.invariant-loop-position
invariant-loop-position g l = record {
  few : l.listed ≤ 8192 * l.position;
  listed : ListedTo l.prefix (g.B.Book.guards l.book) (place l.position 0 0) l.initial.table l.table l.listed;
}
