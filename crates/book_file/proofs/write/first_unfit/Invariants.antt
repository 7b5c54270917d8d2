use Rattle.std.proofs.Common.{All, ◌≤◌, take}
use Rattle.book.specs.Rows.{WellMade}
use Rattle.book_file.proofs.write.first_unfit.Given as goal

-- The rows so far are fit.
abbrev pub invariant-loop-index : goal.invariant-loop-index
invariant-loop-index l = All (WellMade l.fn.prefix) (take l.index l.rows) × (l.index ≤ 65535)
