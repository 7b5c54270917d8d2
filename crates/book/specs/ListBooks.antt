-- The records of a list book.
use Rattle.std.specs.Prelude.{◌≡◌, List, take}
use Rattle.book.specs.declared.record.Record.{Record}
use Rattle.book.specs.declared.list_book.ListBook.{ListBook}

-- The first `count` records of its memory, in the order in which their points were first added.
abbrev pub records_of : ListBook → List Record
records_of b = take b.count b.records.now

-- All of them stand where a search puts them, so that each is found at once.
abbrev pub AllInOrder : ListBook → Type 0
AllInOrder b = b.in_order ≡ b.count
