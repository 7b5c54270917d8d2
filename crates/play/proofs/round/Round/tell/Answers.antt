use Rattle.std.proofs.Common.{Ok, Err, sym, ap, ◌∙◌, subst}
use Rattle.std.proofs.lemmas.Result.{err_from_is_err_and}
use Rattle.prefix.specs.declared.kind.Kind.TheVariants.{Report}
use Rattle.play.specs.Chains.{tell_answer, Link}
use Rattle.play.specs.declared.call.Call.TheVariants.{Tell}
use Rattle.play.proofs.Chains.{tell_made}
use Rattle.play.proofs.Turns.{turn_room, link_told, link_told_refused}
use Rattle.play.proofs.round.Round.tell.Goals as goal

pub add-requires : goal.add-requires
add-requires g c = turn_room (g.B.Book.prefix c.args.self.now.book.now) Report c.args.self.now.so_far.length c.args.self.now.so_far.line.mask (sym c.check_turn.ensures ∙ c.in_ok-check_turn.was)

pub returns-in_err-check_turn : goal.returns-in_err-check_turn
returns-in_err-check_turn g c =
    let r = c.args.self.now in
    let err = err_from_is_err_and c.from_residual.result c.from_residual.ensures.1 in
    let refused = link_told_refused g.B.Book.prefix g.B.Book.guards r c.args.value c.in_err-check_turn.field-0.0 (sym c.check_turn.ensures ∙ c.in_err-check_turn.was) in
    let link = subst (λ a. Link g.B.Book.prefix g.B.Book.guards r (Tell c.args.value) (tell_answer a) r) (sym (err.1 ∙ ap Err err.2)) refused in
    record { link = link; made = tell_made g.B.Book.prefix g.B.Book.guards r r c.args.value c.from_residual.result link }

pub returns : goal.returns
returns g c =
    let e = c.add.ensures in
    let link = link_told g.B.Book.prefix g.B.Book.guards c.args.self.now c.add.new.self e.sheet e.book c.args.value (sym c.check_turn.ensures ∙ c.in_ok-check_turn.was) e.values in
    record { link = link; made = tell_made g.B.Book.prefix g.B.Book.guards c.args.self.now c.add.new.self c.args.value (Ok tt) link }
