use Rattle.std.proofs.Common.{◌≡◌, ap, arith}
use Rattle.prefix.specs.Prefixes.{kinds}
use Rattle.prefix.specs.Points.{points_at, sum_to}
use Rattle.prefix.proofs.MostPoints.{most_points}
use Rattle.prefix.proofs.Points.{sum_next, points_all}
use Rattle.prefix.proofs.prefix.Prefix.point_count.Goals as goal

pub loop-position-preserved : goal.loop-position-preserved
loop-position-preserved c = grind (arith, sum_next)

pub returns-2-clause-value : goal.returns-2-clause-value
returns-2-clause-value c =
    let p = c.args.self in
    let k = c.loop-position.position in
    let last : k ≡ p.length = omega arith in
    omega (arith, sum_next (points_at (kinds p)) k, ap (sum_to (points_at (kinds p))) last, points_all p.length p.reports)

pub returns-2-clause-few : goal.returns-2-clause-few
returns-2-clause-few c = omega (arith, returns-2-clause-value c, most_points c.args.self)
