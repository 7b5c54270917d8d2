use Rattle.std.proofs.Common.{◌≡◌, ◌-◌, ◌*◌, ◌≤◌}
use Rattle.prefix.specs.Prefixes.{kinds}
use Rattle.prefix.specs.Points.{points_at, sum_to}
use Rattle.prefix.proofs.prefix.Prefix.point_count.Given as goal

abbrev pub invariant-loop-position : goal.invariant-loop-position
invariant-loop-position l = (l.points ≡ sum_to (points_at (kinds l.self)) (l.position - 1)) × (l.points ≤ 4096 * (l.position - 1))
