use Rattle.std.proofs.Common.{Ok, Err, refl}
use Rattle.play.specs.declared.round_fault.RoundFault.TheVariants.{BackTooFar}
use Rattle.play.proofs.Chains.{back_made}
use Rattle.play.proofs.Turns.{link_back, link_back_refused}
use Rattle.play.proofs.round.Round.back.Goals as goal

pub returns-then-length-self : goal.returns-then-length-self
returns-then-length-self g c =
    let r = c.args.self.now in
    let link = link_back_refused g.B.Book.prefix g.B.Book.guards r c.args.length c.if-length-self.true in
    record { link = link; made = back_made g.B.Book.prefix g.B.Book.guards r r c.args.length (Err BackTooFar) link }

pub returns : goal.returns
returns g c =
    let link = link_back g.B.Book.prefix g.B.Book.guards c.args.self.now _ refl refl c.args.length c.if-length-self.false refl in
    record { link = link; made = back_made g.B.Book.prefix g.B.Book.guards c.args.self.now _ c.args.length (Ok tt) link }
