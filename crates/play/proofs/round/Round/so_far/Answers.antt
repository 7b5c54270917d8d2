use Rattle.std.proofs.Common.{sym}
use Rattle.prefix.proofs.Masks.{length-bits}
use Rattle.play.proofs.round.Round.so_far.Goals as goal

pub returns-clause-length : goal.returns-clause-length
returns-clause-length g c = sym (length-bits c.args.self.now.so_far.length c.args.self.now.so_far.line.mask)
