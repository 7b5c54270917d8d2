use Rattle.std.proofs.Common.{◌≡◌}
use Rattle.book_file.specs.Steps.{RowsTaken}
use Rattle.book_file.proofs.read.read_into.Given as goal

-- The rows so far are taken.
abbrev pub invariant-loop-index : goal.invariant-loop-index
invariant-loop-index l =
    (l.cursor.file.now ≡ l.fn.file)
    × RowsTaken l.reading.prefix l.reading.rows l.fn.file l.index l.cursor.place l.fn.table l.table
