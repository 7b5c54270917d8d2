use Rattle.std.proofs.Common.{All, ◌∷◌, length, get_or, sym, ap, ◌∙◌, subst, arith}
use Rattle.std.proofs.lemmas.List.{take_all}
use Rattle.std.proofs.lemmas.List.Elements.{All-get_or}
use Rattle.book.specs.Rows.{WellMade}
use Rattle.book_file.specs.Files.{rows_numbers}
use Rattle.book_file.specs.Numbers.{bytes_of}
use Rattle.book_file.proofs.Rows.{Small, no_row, header_small, row_small, position_within, length_next}
use Rattle.book_file.proofs.write.file_size.Goals as goal

pub size_of-size-requires-clause-small : goal.size_of-size-requires-clause-small
size_of-size-requires-clause-small c = subst (All Small) (sym c.header_numbers.ensures) (header_small c.args.prefix (length c.args.rows.now) c.requires.few)

pub loop-row-init : goal.loop-row-init
loop-row-init c = (c.size_of-size.ensures.value ∙ ap (λ ns. length (bytes_of ns)) c.header_numbers.ensures, omega (arith, c.size_of-size.ensures.few))

-- The row is well made.
made : (c : goal.After-row-1) → WellMade c.args.prefix (get_or c.args.rows.now c.loop-row.row-index no_row)
made c = All-get_or (WellMade c.args.prefix) c.args.rows.now c.loop-row.row-index no_row (omega arith) c.requires.made

pub row_numbers-requires : goal.row_numbers-requires
row_numbers-requires c = position_within c.args.prefix _ (made c)

pub size_of-size-requires-in-loop-row-clause-small : goal.size_of-size-requires-in-loop-row-clause-small
size_of-size-requires-in-loop-row-clause-small c =
    subst (All Small) (sym c.row_numbers.ensures) (row_small c.args.prefix (get_or c.args.rows.now c.loop-row.row-index no_row) (All-get_or (WellMade c.args.prefix) c.args.rows.now c.loop-row.row-index no_row (omega arith) c.requires.made))

pub overflow_add-size : goal.overflow_add-size
overflow_add-size c = omega (arith, c.loop-row.invariant.1, c.size_of-size-in-loop-row.ensures.few, c.requires.few)

pub loop-row-preserved : goal.loop-row-preserved
loop-row-preserved c =
    let p = c.args.prefix in
    let rows = c.args.rows.now in (
      omega (arith, c.loop-row.invariant.0, c.size_of-size-in-loop-row.ensures.value, ap (λ ns. length (bytes_of ns)) c.row_numbers.ensures, length_next p (length rows) rows c.loop-row.row-index (omega arith)),
      omega (arith, c.loop-row.invariant.1, c.size_of-size-in-loop-row.ensures.few),
    )

pub returns : goal.returns
returns c =
    let p = c.args.prefix in
    let rows = c.args.rows.now in
    c.loop-row.invariant.0 ∙ ap (λ rs. length (bytes_of (p.length ∷ p.reports ∷ length rows ∷ rows_numbers rs))) (take_all c.loop-row.row-index rows (omega arith))
