use Rattle.std.proofs.Common.{◌∙◌, subst}
use Rattle.prefix.specs.Prefixes.{kinds}
use Rattle.prefix.specs.Lines.{setting_before}
use Rattle.prefix.proofs.Replies.{point_of}
use Rattle.book.specs.declared.side.Side.TheVariants.{On, Off}
use Rattle.book.specs.CopySteps.{GuardCopied}
use Rattle.book.proofs.Copies.{both_copied, answer_at}
use Rattle.book.proofs.copy.points.copy_point.Goals as goal

pub returns-clause-copied : goal.returns-clause-copied
returns-clause-copied g c =
    let q = g.F.Book.prefix c.args.to.now in
    let k = c.args.position in
    let m = c.args.line.mask in
    let h = g.B.Book.guards c.args.from.now in
    both_copied (kinds q) h c.on-on.result c.off-off.result k (setting_before q k m) _ _ _ (point_of q k m c.requires.reply)
    (c.on-on.ensures ∙ answer_at _ q h On k m c.requires.prefixes c.requires.reply)
    (c.off-off.ensures ∙ answer_at _ q h Off k m c.requires.prefixes c.requires.reply)
    c.copy_guard.ensures.copied
    (subst (λ z. GuardCopied (kinds z) c.off-off.result Off k (setting_before z k m) (g.F.Book.guards c.copy_guard.new.to) (g.F.Book.guards c.copy_guard-2.new.to)) c.copy_guard.ensures.prefix c.copy_guard-2.ensures.copied)
