use Rattle.std.proofs.Common.{◌≡◌, ℕ, ◌<◌, true}
use Rattle.prefix.specs.Bits.{mask_value}
use Rattle.book.proofs.row.Row.agrees.Given as goal

-- Every position so far that is looked at has the value wanted.
abbrev pub invariant-loop-position : goal.invariant-loop-position
invariant-loop-position l =
    (k : ℕ) → k < l.position → mask_value l.self.looked_at k ≡ true → mask_value l.line.mask k ≡ mask_value l.self.wanted_on k
