use Rattle.std.proofs.Common.{Ok, Err, sym, ap, ◌∙◌, subst}
use Rattle.std.proofs.lemmas.Result.{err_from_is_err_and}
use Rattle.prefix.specs.declared.kind.Kind.TheVariants as kind
use Rattle.play.specs.Chains.{reply_answer, Link}
use Rattle.play.specs.declared.call.Call.TheVariants.{Reply}
use Rattle.play.proofs.Chains.{reply_made}
use Rattle.play.proofs.Turns.{turn_room, link_replied, link_reply_refused}
use Rattle.play.proofs.round.Round.reply.Goals as goal

pub add-requires : goal.add-requires
add-requires g c = turn_room (g.B.Book.prefix c.args.self.now.book.now) kind.Reply c.args.self.now.so_far.length c.args.self.now.so_far.line.mask (sym c.check_turn.ensures ∙ c.in_ok-check_turn.was)

pub returns-in_err-check_turn : goal.returns-in_err-check_turn
returns-in_err-check_turn g c =
    let r = c.args.self.now in
    let err = err_from_is_err_and c.from_residual.result c.from_residual.ensures.1 in
    let refused = link_reply_refused g.B.Book.prefix g.B.Book.guards r c.in_err-check_turn.field-0.0 (sym c.check_turn.ensures ∙ c.in_err-check_turn.was) in
    let link = subst (λ a. Link g.B.Book.prefix g.B.Book.guards r Reply (reply_answer a) r) (sym (err.1 ∙ ap Err err.2)) refused in
    record { link = link; made = reply_made g.B.Book.prefix g.B.Book.guards r r c.from_residual.result link }

pub returns : goal.returns
returns g c =
    let e = c.add.ensures in
    let link = link_replied g.B.Book.prefix g.B.Book.guards c.args.self.now c.add.new.self e.sheet e.book c.on-on.result (sym c.check_turn.ensures ∙ c.in_ok-check_turn.was) c.on-on.ensures e.values in
    record { link = link; made = reply_made g.B.Book.prefix g.B.Book.guards c.args.self.now c.add.new.self (Ok c.on-on.result) link }
