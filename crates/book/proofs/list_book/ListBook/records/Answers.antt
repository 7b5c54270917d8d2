use Rattle.prefix.specs.Prefixes.{kinds}
use Rattle.book.proofs.RecordKeeping.{one_a_point}
use Rattle.book.proofs.list_book.ListBook.records.Goals as goal

pub returns-clause-one : goal.returns-clause-one
returns-clause-one c = let b = c.args.self.now in one_a_point (kinds b.prefix) b.records.now b.count b.within b.points b.apart
