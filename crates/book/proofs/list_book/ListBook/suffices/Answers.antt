use Rattle.std.proofs.Common.{ℕ, length, nat_le, ap}
use Rattle.book.proofs.list_book.ListBook.suffices.Goals as goal

pub returns : goal.returns
returns c = ap (λ (n : ℕ). nat_le n (length c.args.self.now.records.now)) c.point_count.ensures.value
