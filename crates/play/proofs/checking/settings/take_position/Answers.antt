use Rattle.std.proofs.Common.{◌≡◌, true, sym, ap, ◌∙◌, subst, Err}
use Rattle.std.proofs.lemmas.Result.{err_from_is_err_and}
use Rattle.prefix.specs.Kinds.{is_reply}
use Rattle.prefix.specs.Lines.{setting_before}
use Rattle.prefix.specs.Prefixes.{kinds}
use Rattle.prefix.specs.declared.prefix.Prefix.{Prefix}
use Rattle.book.specs.declared.side.Side.TheVariants.{On}
use Rattle.play.specs.Checking.{OneYes}
use Rattle.play.specs.CheckSteps.{BothSay}
use Rattle.play.proofs.CheckedTo.{checked_past_report, checked_past_reply, stopped}
use Rattle.play.proofs.checking.settings.take_position.Goals as goal

pub returns-then-not-is_reply : goal.returns-then-not-is_reply
returns-then-not-is_reply g c a setting so_far =
    let within = c.requires.within in
    checked_past_report (g.B.Book.guards c.args.book.now) c.args.prefix a c.args.position c.args.line.mask within.0 within.1 (sym c.is_reply.ensures ∙ c.if-not-is_reply.true) so_far

pub returns-in_err-on : goal.returns-in_err-on
returns-in_err-on g c a setting so_far =
    let q = c.args.prefix in
    let j = c.args.position in
    let m = c.args.line.mask in
    let g' = g.B.Book.guards c.args.book.now in
    let reply : is_reply (kinds q) j ≡ true = sym c.is_reply.ensures ∙ c.if-not-is_reply.false in
    let err = err_from_is_err_and c.from_residual.result c.from_residual.ensures.1 in
    let both = subst (λ (p : Prefix). BothSay g' j (setting_before p j m) c.args.number c.in_err-on.field-0.0) c.requires.prefixes c.in_err-on.ensures in
    rw (err.1 ∙ ap Err err.2) (λ kept. stopped g' q a kept c.in_err-on.field-0.0 c.args.number j m setting.setting c.requires.within.1 reply so_far both)

pub returns : goal.returns
returns g c a setting so_far =
    let q = c.args.prefix in
    let j = c.args.position in
    let m = c.args.line.mask in
    let same : g.B.Book.prefix c.args.book.now ≡ q = c.requires.prefixes in
    let reply : is_reply (kinds q) j ≡ true = sym c.is_reply.ensures ∙ c.if-not-is_reply.false in
    let said = c.in_ok-on.ensures in
    checked_past_reply (g.B.Book.guards c.args.book.now) q a j m c.with.result.mask c.in_ok-on.on c.requires.within.1 reply c.with.ensures
    (said.0 ∙ ap (λ (p : Prefix). g.B.Book.guards c.args.book.now On j (setting_before p j m)) same)
    (subst (λ (p : Prefix). OneYes (g.B.Book.guards c.args.book.now) j (setting_before p j m)) same said.1)
    so_far
