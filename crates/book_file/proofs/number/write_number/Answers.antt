use Rattle.book_file.proofs.Grouping.{one_form}
use Rattle.book_file.proofs.number.write_number.Goals as goal

pub returns-clause-form : goal.returns-clause-form
returns-clause-form c = one_form
