use Rattle.std.proofs.Common.{◌≡◌, ◌≤◌, ◌*◌, length, take}
use Rattle.book_file.specs.Numbers.{bytes_of}
use Rattle.book_file.proofs.write.numbers.size_of.Given as goal

-- The size of the numbers so far, of which each takes four bytes at most.
abbrev pub invariant-loop-number : goal.invariant-loop-number
invariant-loop-number l = (l.size ≡ length (bytes_of (take l.number-index l.numbers))) × (l.size ≤ 4 * l.number-index)
