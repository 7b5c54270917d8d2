use Rattle.book_file.proofs.Grouping.{GroupsRead}
use Rattle.book_file.proofs.number.first_number.Given as goal

-- The groups so far are marked, and their value is known.
abbrev pub invariant-loop-index : goal.invariant-loop-index
invariant-loop-index l = GroupsRead l.bytes l.index l.value
