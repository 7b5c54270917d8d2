use Rattle.std.proofs.Common.{◌≡◌, ◌+◌, length, take}
use Rattle.book_file.specs.Numbers.{bytes_of}
use Rattle.book_file.specs.Steps.{with_at}
use Rattle.book_file.proofs.write.numbers.put_numbers.Given as goal

-- The numbers so far stand in the buffer.
abbrev pub invariant-loop-number : goal.invariant-loop-number
invariant-loop-number l =
    (l.place ≡ l.start + length (bytes_of (take l.number-index l.numbers)))
    × (l.buffer ≡ with_at l.start (bytes_of (take l.number-index l.numbers)) l.initial.buffer)
