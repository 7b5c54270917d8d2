use Rattle.std.proofs.Common.{◌≡◌, ◌+◌, ◌*◌, ◌≤◌, length}
use Rattle.book_file.specs.Numbers.{bytes_of}
use Rattle.book_file.proofs.Rows.{numbers_to}
use Rattle.book_file.proofs.write.file_size.Given as goal

-- The size of the numbers so far, of which each takes four bytes at most.
abbrev pub invariant-loop-row : goal.invariant-loop-row
invariant-loop-row l =
    (l.size ≡ length (bytes_of (numbers_to l.fn.prefix (length l.rows) l.rows l.row-index)))
    × (l.size ≤ 16 + 16 * l.row-index)
