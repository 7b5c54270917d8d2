use Rattle.std.proofs.Common.{All, ◌≡◌, ℕ, List, ◌+◌, ◌≤◌, ◌∷◌, length, get_or, sym, ap, ◌∙◌, subst, arith}
use Rattle.std.proofs.lemmas.List.{take_all}
use Rattle.std.proofs.lemmas.List.Elements.{All-get_or}
use Rattle.book.specs.Rows.{WellMade}
use Rattle.book_file.specs.Files.{row_numbers, rows_numbers}
use Rattle.book_file.specs.Numbers.{bytes_of}
use Rattle.book_file.specs.Steps.{with_at}
use Rattle.book_file.proofs.Putting.{put_next}
use Rattle.book_file.proofs.Rows.{Small, no_row, header_small, row_small, position_within, numbers_to, to_next, length_next, length_to}
use Rattle.book_file.proofs.write.put_file.Goals as goal

pub put_numbers-place-requires-clause-small : goal.put_numbers-place-requires-clause-small
put_numbers-place-requires-clause-small c = subst (All Small) (sym c.header_numbers.ensures) (header_small c.args.prefix (length c.args.rows.now) c.requires.fit.few)

pub put_numbers-place-requires-clause-room : goal.put_numbers-place-requires-clause-room
put_numbers-place-requires-clause-room c =
    omega (arith, ap (λ ns. length (bytes_of ns)) c.header_numbers.ensures, length_to c.args.prefix (length c.args.rows.now) c.args.rows.now 0, c.requires.room)

pub loop-row-init : goal.loop-row-init
loop-row-init c = (
  omega (arith, c.put_numbers-place.ensures.place, ap (λ ns. length (bytes_of ns)) c.header_numbers.ensures),
  c.put_numbers-place.ensures.buffer ∙ ap (λ ns. with_at 0 (bytes_of ns) c.args.buffer.now) c.header_numbers.ensures,
)

pub row_numbers-requires : goal.row_numbers-requires
row_numbers-requires c =
    position_within c.args.prefix (get_or c.args.rows.now c.loop-row.row-index no_row) (All-get_or (WellMade c.args.prefix) c.args.rows.now c.loop-row.row-index no_row (omega arith) c.requires.fit.made)

pub put_numbers-place-requires-in-loop-row-clause-small : goal.put_numbers-place-requires-in-loop-row-clause-small
put_numbers-place-requires-in-loop-row-clause-small c =
    subst (All Small) (sym c.row_numbers.ensures) (row_small c.args.prefix (get_or c.args.rows.now c.loop-row.row-index no_row) (All-get_or (WellMade c.args.prefix) c.args.rows.now c.loop-row.row-index no_row (omega arith) c.requires.fit.made))

pub put_numbers-place-requires-in-loop-row-clause-room : goal.put_numbers-place-requires-in-loop-row-clause-room
put_numbers-place-requires-in-loop-row-clause-room c =
    let p = c.args.prefix in
    let rows = c.args.rows.now in
    let i = c.loop-row.row-index in
    omega (arith, c.loop-row.invariant.0, ap (λ ns. length (bytes_of ns)) c.row_numbers.ensures, length_next p (length rows) rows i (omega arith), length_to p (length rows) rows (i + 1), c.requires.room)

pub loop-row-preserved : goal.loop-row-preserved
loop-row-preserved c =
    let p = c.args.prefix in
    let rows = c.args.rows.now in
    let i = c.loop-row.row-index in
    let row = row_numbers (get_or rows i no_row) in
    let before = bytes_of (numbers_to p (length rows) rows i) in
    let fits : 0 + length before ≤ length c.args.buffer.now = omega (arith, length_to p (length rows) rows i, c.requires.room) in
    let put = c.put_numbers-place-in-loop-row.ensures in
    let at : c.loop-row.place ≡ 0 + length before = omega (arith, c.loop-row.invariant.0) in (
      omega (arith, put.place, c.loop-row.invariant.0, ap (λ ns. length (bytes_of ns)) c.row_numbers.ensures, length_next p (length rows) rows i (omega arith)),
      put.buffer
          ∙ (λ j. with_at (at j) (bytes_of (c.row_numbers.ensures j)) (c.loop-row.invariant.1 j))
          ∙ put_next 0 before c.args.buffer.now fits (bytes_of row)
          ∙ ap (λ (xs : List ℕ). with_at 0 xs c.args.buffer.now) (sym (to_next p (length rows) rows i (omega arith))),
    )

pub returns : goal.returns
returns c =
    let p = c.args.prefix in
    let rows = c.args.rows.now in
    c.loop-row.invariant.1 ∙ ap (λ rs. with_at 0 (bytes_of (p.length ∷ p.reports ∷ length rows ∷ rows_numbers rs)) c.args.buffer.now) (take_all c.loop-row.row-index rows (omega arith))
