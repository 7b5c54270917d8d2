use Rattle.std.proofs.Common.{◌≡◌, ℕ, subst, arith}
use Rattle.prefix.specs.Points.{points_at}
use Rattle.prefix.specs.Prefixes.{kinds}
use Rattle.book_file.specs.ListSteps.{place, ListedTo}
use Rattle.book_file.proofs.ListedSteps.{position_listed}
use Rattle.book_file.proofs.list.points.list_at.Goals as goal

pub returns-clause-listed : goal.returns-clause-listed
returns-clause-listed g c start h =
    let p = c.args.prefix in
    let k = c.args.position in
    let guards = g.B.Book.guards c.args.book.now in
    let all : c.loop-number.number ≡ points_at (kinds p) k = omega arith in
    position_listed p guards k c.loop-number.listed start c.loop-number.table (omega arith)
    (subst (λ (s : ℕ). ListedTo p guards (place k s 0) start c.loop-number.table c.loop-number.listed) all (c.loop-number.invariant.listed start h))
