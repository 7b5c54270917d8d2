use Rattle.std.proofs.Common.{◌≡◌}
use Rattle.prefix.specs.Prefixes.{kinds}
use Rattle.book.specs.Tables.{words_before, with_zeros}
use Rattle.book.proofs.table_book.blocks.clear_blocks.Given as goal

abbrev pub invariant-loop-position : goal.invariant-loop-position
invariant-loop-position l = l.words ≡ with_zeros 0 (words_before (kinds l.prefix) l.position) l.initial.words
