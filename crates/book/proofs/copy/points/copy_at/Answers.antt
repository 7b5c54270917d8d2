use Rattle.std.proofs.Common.{◌≡◌, ℕ, true, ◌∙◌, subst, rules, arith}
use Rattle.prefix.specs.Kinds.{is_reply}
use Rattle.prefix.specs.Lines.{setting_before, SettingMask}
use Rattle.prefix.specs.Points.{points_at}
use Rattle.prefix.specs.Prefixes.{kinds}
use Rattle.prefix.proofs.Replies.{point_of}
use Rattle.book.specs.CopySteps.{CopiedTo, PointCopied}
use Rattle.book.proofs.Copies.{point_copied, position_copied}
use Rattle.book.proofs.copy.points.copy_at.Goals as goal

pub loop-number-preserved : goal.loop-number-preserved
loop-number-preserved g c =
    let p = c.args.prefix in
    let k = c.args.position in
    let i = c.loop-number.invariant in
    let setting : SettingMask p k c.loop-number.number c.unwrap-line.result.mask = search rules in
    let reply : is_reply (kinds p) k ≡ true = grind arith in (
      c.copy_point.ensures.prefix ∙ i.0,
      c.copy_point.ensures.room ∙ i.1,
      c.copy_point.ensures.memory ∙ i.2,
      point_copied (kinds p) (g.B.Book.guards c.args.from.now) k c.loop-number.number (setting_before p k c.unwrap-line.result.mask) (g.F.Book.guards c.loop-number.to) (g.F.Book.guards c.copy_point.new.to)
          (point_of p k c.unwrap-line.result.mask reply) setting.setting i.3
          (subst (λ z. PointCopied (kinds z) (g.B.Book.guards c.args.from.now) k (setting_before z k c.unwrap-line.result.mask) (g.F.Book.guards c.loop-number.to) (g.F.Book.guards c.copy_point.new.to)) i.0 c.copy_point.ensures.copied),
    )

pub returns-clause-copied : goal.returns-clause-copied
returns-clause-copied g c =
    let all : c.loop-number.number ≡ points_at (kinds c.args.prefix) c.args.position = omega arith in
    position_copied (kinds c.args.prefix) (g.B.Book.guards c.args.from.now) c.args.position (g.F.Book.guards c.loop-number.to)
    (subst (λ (s : ℕ). CopiedTo (kinds c.args.prefix) (g.B.Book.guards c.args.from.now) c.args.position s (g.F.Book.guards c.loop-number.to)) all c.loop-number.invariant.3)
