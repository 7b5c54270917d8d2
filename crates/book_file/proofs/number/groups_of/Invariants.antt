use Rattle.book_file.proofs.Grouping.{GroupsSoFar}
use Rattle.book_file.proofs.number.groups_of.Given as goal

-- The groups so far, and those of the rest after them.
abbrev pub invariant-loop-rest : goal.invariant-loop-rest
invariant-loop-rest l = GroupsSoFar l.groups.items l.rest l.fn.value

abbrev pub decreases-loop-rest : goal.decreases-loop-rest
decreases-loop-rest l = l.rest
