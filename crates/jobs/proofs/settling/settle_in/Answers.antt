use Rattle.jobs.proofs.OnSheets.{own_fault, on_sheet, fault_kept}
use Rattle.jobs.specs.Settling.{Settles, Settled}
use Rattle.jobs.specs.declared.fault.JobFault.TheVariants.{Sheet}
use Rattle.jobs.proofs.settling.settle_in.Goals as goal

pub returns : goal.returns
returns c =
    on_sheet c.args.text.now c.in_ok-reading.reading c.args.table.now c.read_sheet.new.table (λ kept p. Settles kept p c.in_ok-settle_rules.field-0)
    c.in_ok-reading.ensures.meant c.in_ok-settle_rules.ensures

pub returns-in_err-reading : goal.returns-in_err-reading
returns-in_err-reading c =
    let of = c.from_residual.ensures in
    fault_kept (Settled c.args.text.now) (Sheet c.in_err-reading.field-0.0) c.from_residual.result of.0 of.1
    (own_fault c.args.text.now c.in_err-reading.field-0.0 c.args.table.now c.read_sheet.new.table c.in_err-reading.ensures.meant c.requires.table)
