use Rattle.book_file.specs.Refusing.{HasFault}
use Rattle.jobs.specs.Passing.{Judges, OtherPrefix, Passed}
use Rattle.jobs.specs.declared.fault.JobFault.TheVariants.{Sheet, Book, Check}
use Rattle.jobs.proofs.BookFiles.{own_file_fault, judges, other_prefix}
use Rattle.jobs.proofs.OnSheets.{own_fault, on_sheet, fault_kept}
use Rattle.jobs.proofs.passing.pass_in.Goals as goal

pub returns-in_err-sheet : goal.returns-in_err-sheet
returns-in_err-sheet c =
    let of = c.from_residual.ensures in
    fault_kept (Passed c.args.text.now c.args.file.now) (Sheet c.in_err-sheet.field-0.0) c.from_residual.result of.0 of.1
    (own_fault c.args.text.now c.in_err-sheet.field-0.0 c.args.rules.now c.read_sheet.new.table c.in_err-sheet.ensures.meant c.requires.rules)

pub returns-in_err-book : goal.returns-in_err-book
returns-in_err-book c =
    let of = c.from_residual-in_err-book.ensures in
    fault_kept (Passed c.args.text.now c.args.file.now) (Book c.in_err-book.field-0.0) c.from_residual-in_err-book.result of.0 of.1
    (on_sheet c.args.text.now c.in_ok-sheet.sheet c.args.rules.now c.read_sheet.new.table (λ kept p. HasFault c.args.file.now c.in_err-book.field-0.0) c.in_ok-sheet.ensures.meant
    (own_file_fault c.args.file.now c.in_err-book.field-0.0 c.args.rows.now c.read_rows.new.table c.in_err-book.ensures.read c.requires.rows))

pub returns-in_err-checked : goal.returns-in_err-checked
returns-in_err-checked c =
    let of = c.from_residual-in_err-checked.ensures in
    fault_kept (Passed c.args.text.now c.args.file.now) (Check c.in_err-checked.field-0.0) c.from_residual-in_err-checked.result of.0 of.1
    (on_sheet c.args.text.now c.in_ok-sheet.sheet c.args.rules.now c.read_sheet.new.table (λ kept p. OtherPrefix p c.args.file.now c.in_err-checked.field-0.0) c.in_ok-sheet.ensures.meant
    (other_prefix c.args.file.now c.in_ok-book.book c.args.rows.now c.read_rows.new.table c.in_ok-book.ensures.read c.in_ok-sheet.sheet.prefix c.new-rows.result.prefix c.new-rows.result.rows.now
    c.new-rows.ensures.prefix c.new-rows.ensures.rows c.in_err-checked.field-0.0 c.in_err-checked.ensures))

pub returns : goal.returns
returns c =
    on_sheet c.args.text.now c.in_ok-sheet.sheet c.args.rules.now c.read_sheet.new.table (λ kept p. Judges kept p c.args.file.now (record { prefix = c.in_ok-sheet.sheet.prefix; checked = c.in_ok-checked.checked }))
    c.in_ok-sheet.ensures.meant
    (judges c.args.file.now c.in_ok-book.book c.args.rows.now c.read_rows.new.table c.in_ok-book.ensures.read c.in_ok-sheet.sheet.prefix c.new-rows.result.prefix c.new-rows.result.rows.now
    c.new-rows.ensures.prefix c.new-rows.ensures.rows _ c.in_ok-checked.checked c.in_ok-checked.ensures)
