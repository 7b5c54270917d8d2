use Rattle.book_file.proofs.Deciding.{decided}
use Rattle.book_file.proofs.ReadSteps.{reads_back}
use Rattle.book_file.proofs.read.read_rows.Goals as goal

pub returns-clause-decided : goal.returns-clause-decided
returns-clause-decided c = decided c.args.file.now

pub returns-clause-back : goal.returns-clause-back
returns-clause-back c = reads_back c.args.file.now c.read_checked.result c.args.table.now c.read_checked.new.table c.read_checked.ensures
