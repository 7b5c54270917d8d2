use Rattle.std.proofs.Common.{arith}
use Rattle.book_file.proofs.Listings.{one_listing, listing_made, listing_keeps, listed_into}
use Rattle.book_file.proofs.list.list_rows.Goals as goal

pub returns-clause-answer : goal.returns-clause-answer
returns-clause-answer g c =
    listed_into (g.B.Book.prefix c.args.book.now) (g.B.Book.guards c.args.book.now) _ c.args.table.now c.list_into-count.new.table c.list_into.new.table c.list_into-count.result c.list_into.result c.list_into-count.ensures c.list_into.ensures (omega arith)

-- Whether the table is refused or not.
pub returns-then-count-table-clause-one : goal.returns-then-count-table-clause-one
returns-then-count-table-clause-one g c = one_listing (g.B.Book.prefix c.args.book.now) (g.B.Book.guards c.args.book.now)

pub returns-then-count-table-clause-made : goal.returns-then-count-table-clause-made
returns-then-count-table-clause-made g c = listing_made (g.B.Book.prefix c.args.book.now) (g.B.Book.guards c.args.book.now)

pub returns-then-count-table-clause-guards : goal.returns-then-count-table-clause-guards
returns-then-count-table-clause-guards g c = listing_keeps (g.B.Book.prefix c.args.book.now) (g.B.Book.guards c.args.book.now)

pub returns-clause-one : goal.returns-clause-one
returns-clause-one g c = one_listing (g.B.Book.prefix c.args.book.now) (g.B.Book.guards c.args.book.now)

pub returns-clause-made : goal.returns-clause-made
returns-clause-made g c = listing_made (g.B.Book.prefix c.args.book.now) (g.B.Book.guards c.args.book.now)

pub returns-clause-guards : goal.returns-clause-guards
returns-clause-guards g c = listing_keeps (g.B.Book.prefix c.args.book.now) (g.B.Book.guards c.args.book.now)
