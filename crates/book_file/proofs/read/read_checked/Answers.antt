use Rattle.std.proofs.Common.{refl, inr}
use Rattle.book_file.proofs.ReadSteps.{second_pass, longer}
use Rattle.book_file.proofs.read.read_checked.Goals as goal

pub returns-then-reading-table : goal.returns-then-reading-table
returns-then-reading-table c =
    let first = c.in_ok-reading.ensures in
    (refl, inr (refl, longer c.args.file.now c.in_ok-reading.reading c.args.table.now (first.0, first.1, first.2.counted) c.if-reading-table.true))

pub returns : goal.returns
returns c =
    let first = c.in_ok-reading.ensures in
    second_pass c.args.file.now c.in_ok-reading.reading c.args.table.now (first.0, first.1, first.2.counted) c.read_into-2.result c.read_into-2.new.table c.if-reading-table.false c.read_into-2.ensures
