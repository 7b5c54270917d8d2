use Rattle.std.specs.Option.{is_some}
use Rattle.prefix.specs.Bits.{bits}
use Rattle.prefix.specs.Prefixes.{kinds}
use Rattle.worth.proofs.Climb.{deep}
use Rattle.worth.proofs.Turns.{left}
use Rattle.worth.proofs.Holding.{Holds}
use Rattle.worth.proofs.tree.walk_from.Given as goal

abbrev pub invariant-loop-known : goal.invariant-loop-known
invariant-loop-known g l =
    let j = g.S.Scale.joins in
    let kept = g.F.Sheet.kept l.sheet in
    let ks = kinds l.prefix in
    Holds j kept ks l.from.length (deep j kept ks l.from.length (bits l.from.length l.from.line.mask)) l.part.length l.part.line.mask l.cells l.known

abbrev pub decreases-loop-known : goal.decreases-loop-known
decreases-loop-known g l = left (kinds l.prefix) l.part.length l.part.line.mask (is_some l.known)
