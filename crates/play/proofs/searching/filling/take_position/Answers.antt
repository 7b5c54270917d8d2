use Rattle.std.proofs.Common.{◌≡◌, true, false, sym, ◌∙◌}
use Rattle.prefix.specs.Kinds.{is_reply}
use Rattle.prefix.specs.Prefixes.{kinds}
use Rattle.play.specs.Filling.{AddsOne}
use Rattle.play.proofs.LineTo.{report_else, line_past_report, line_past_reply}
use Rattle.play.proofs.PastPosition.{past_report}
use Rattle.play.proofs.searching.filling.take_position.Goals as goal

pub returns-then-not-is_reply-clause-passed : goal.returns-then-not-is_reply-clause-passed
returns-then-not-is_reply-clause-passed g c p start a h setting so_far f =
    let q = c.args.prefix in
    let j = c.args.step.position in
    let none : is_reply (kinds q) j ≡ false = sym c.is_reply.ensures ∙ c.if-not-is_reply.true in
    let in_it = c.requires.within in (
      past_report (AddsOne g.B.FillableBook.Adds g.B.Book.guards (kinds q)) q p c.args.step.number j start c.args.book.now (g.B.Book.guards c.args.book.now) none f,
      line_past_report q p a j c.args.step.line.mask in_it.0 (report_else q j in_it.0 in_it.1 none) so_far,
    )

pub returns-clause-passed : goal.returns-clause-passed
returns-clause-passed g c p start a h setting so_far f =
    let q = c.args.prefix in
    let j = c.args.step.position in
    let reply : is_reply (kinds q) j ≡ true = sym c.is_reply.ensures ∙ c.if-not-is_reply.false in
    let past = c.reply_value-on.ensures.passed p start a h setting so_far f in
    (past.0, line_past_reply q p a j c.args.step.line.mask c.with.result.mask c.reply_value-on.result c.requires.within.1 reply c.with.ensures past.1 so_far)
