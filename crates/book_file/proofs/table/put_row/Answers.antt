use Rattle.std.proofs.Common.{arith}
use Rattle.book_file.proofs.TableRows.{row_written}
use Rattle.book_file.proofs.table.put_row.Goals as goal

pub returns-then-index-table : goal.returns-then-index-table
returns-then-index-table c start rows h = row_written start rows c.args.table.now c.args.index h c.args.row (omega arith)
