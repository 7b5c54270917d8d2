use Rattle.std.proofs.Common.{◌≡◌, length}
use Rattle.book_file.specs.Numbers.{bytes_of}
use Rattle.book_file.specs.Steps.{with_at}
use Rattle.book_file.proofs.Rows.{numbers_to}
use Rattle.book_file.proofs.write.put_file.Given as goal

-- The numbers so far stand in the buffer.
abbrev pub invariant-loop-row : goal.invariant-loop-row
invariant-loop-row l =
    (l.place ≡ length (bytes_of (numbers_to l.fn.prefix (length l.rows) l.rows l.row-index)))
    × (l.buffer ≡ with_at 0 (bytes_of (numbers_to l.fn.prefix (length l.rows) l.rows l.row-index)) l.fn.buffer)
