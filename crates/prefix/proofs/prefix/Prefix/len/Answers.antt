use Rattle.std.proofs.Common.{sym}
use Rattle.prefix.proofs.Positions.{length-kinds}
use Rattle.prefix.proofs.prefix.Prefix.len.Goals as goal

pub returns-clause-kinds : goal.returns-clause-kinds
returns-clause-kinds c = sym (length-kinds c.args.self.length c.args.self.reports)
