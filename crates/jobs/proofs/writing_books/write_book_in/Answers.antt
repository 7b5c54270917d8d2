use Rattle.jobs.specs.WritingBooks.{BookWritten}
use Rattle.jobs.specs.declared.fault.JobFault.TheVariants.{Sheet}
use Rattle.jobs.proofs.BookFiles.{written_on}
use Rattle.jobs.proofs.OnSheets.{own_fault, fault_kept}
use Rattle.jobs.proofs.writing_books.write_book_in.Goals as goal

pub returns-in_err-reading : goal.returns-in_err-reading
returns-in_err-reading c =
    let of = c.from_residual.ensures in
    fault_kept (BookWritten c.args.text.now) (Sheet c.in_err-reading.field-0.0) c.from_residual.result of.0 of.1
    (own_fault c.args.text.now c.in_err-reading.field-0.0 c.args.table.now c.read_sheet.new.table c.in_err-reading.ensures.meant c.requires.table)

pub returns : goal.returns
returns c =
    written_on c.args.text.now c.in_ok-reading.reading c.args.table.now c.read_sheet.new.table c.searched_file_of.result c.in_ok-reading.ensures.meant c.searched_file_of.ensures
