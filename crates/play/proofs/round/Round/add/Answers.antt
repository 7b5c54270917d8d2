use Rattle.play.proofs.Turns.{one_value_more}
use Rattle.play.proofs.round.Round.add.Goals as goal

pub returns-clause-values : goal.returns-clause-values
returns-clause-values g c =
    let d = c.args.self.now.so_far.length in
    one_value_more d c.args.self.now.so_far.line.mask c.with-self.result.mask c.args.value c.requires c.with-self.ensures
