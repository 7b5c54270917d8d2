use Rattle.sheet_text.proofs.Answering.{meant}
use Rattle.sheet_text.proofs.EachOnce.{each-named}
use Rattle.sheet_text.proofs.Refusals.{refused_exactly, decided}
use Rattle.sheet_text.proofs.TextReads.{read_exactly}
use Rattle.sheet_text.proofs.read.read_sheet.Goals as goal

pub returns-clause-grammar : goal.returns-clause-grammar
returns-clause-grammar c = read_exactly c.args.text.now

pub returns-clause-faults : goal.returns-clause-faults
returns-clause-faults c = refused_exactly c.args.text.now

pub returns-clause-named : goal.returns-clause-named
returns-clause-named c = each-named c.args.text.now

pub returns-clause-meant : goal.returns-clause-meant
returns-clause-meant c = meant c.args.text.now c.read_into.result c.args.table.now c.read_into.new.table c.read_into.ensures

pub returns-clause-decided : goal.returns-clause-decided
returns-clause-decided c = decided c.args.text.now
