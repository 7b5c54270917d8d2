use Rattle.std.proofs.Common.{◌≡◌, ℕ, ◌+◌, length, subst, arith}
use Rattle.prefix.specs.Prefixes.{kinds}
use Rattle.prefix.proofs.Positions.{length-kinds}
use Rattle.book.specs.CopySteps.{CopiedTo}
use Rattle.book.proofs.Copies.{all_copied}
use Rattle.book.proofs.copy.points.copy_all.Goals as goal

pub returns-2-clause-same : goal.returns-2-clause-same
returns-2-clause-same g c =
    let p = c.args.prefix in
    let last : c.loop-position.position + 1 ≡ length (kinds p) + 1 = omega (arith, length-kinds p.length p.reports) in
    all_copied (kinds p) (g.B.Book.guards c.args.from.now) (g.F.Book.guards c.copy_at.new.to)
    (subst (λ (k : ℕ). CopiedTo (kinds p) (g.B.Book.guards c.args.from.now) k 0 (g.F.Book.guards c.copy_at.new.to)) last c.copy_at.ensures.copied)
