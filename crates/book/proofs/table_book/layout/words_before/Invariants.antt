use Rattle.std.proofs.Common.{◌≡◌, ◌-◌, ◌*◌, ◌≤◌, max}
use Rattle.prefix.specs.Prefixes.{kinds}
use Rattle.book.specs.Tables.{words_before}
use Rattle.book.proofs.table_book.layout.words_before.Given as goal

abbrev pub invariant-loop-earlier : goal.invariant-loop-earlier
invariant-loop-earlier l = (l.words ≡ words_before (kinds l.prefix) l.earlier) × (l.words ≤ 128 * (l.earlier - 1)) × (l.earlier ≤ max 1 l.earlier-end)
