use Rattle.std.proofs.Common.{All, ◌+◌, take, drop, get_or, sym, subst, inl, inr, arith}
use Rattle.std.proofs.lemmas.Bool.Decides.{not_from_Decides}
use Rattle.std.proofs.lemmas.List.{take_all, take_more, length-take-le}
use Rattle.std.proofs.lemmas.List.Elements.{All-push}
use Rattle.book.specs.Rows.{WellMade}
use Rattle.book_file.proofs.Putting.{split_at}
use Rattle.book_file.proofs.Rows.{no_row}
use Rattle.book_file.proofs.write.first_unfit.Goals as goal
use Rattle.book_file.proofs.write.first_unfit.Goals.{then-index-ge-MOST_ROWS-via-then-index-ge-MOST_ROWS, then-index-ge-MOST_ROWS-via-else-index-ge-MOST_ROWS+then-not-is_well_made}

pub returns-then-index-ge-MOST_ROWS : goal.returns-then-index-ge-MOST_ROWS
returns-then-index-ge-MOST_ROWS c =
    let rows = c.args.rows.now in
    let i = c.loop-index.index in
    record {
      front = take i rows;
      row = get_or rows i no_row;
      rest = drop (i + 1) rows;
      parts = split_at rows i no_row (omega arith);
      index = length-take-le i rows (omega arith);
      fit = record { made = c.loop-index.invariant.0; few = omega (arith, c.loop-index.invariant.1, length-take-le i rows (omega arith)) };
      unfit = elim c.then-index-ge-MOST_ROWS.branch [
        | then-index-ge-MOST_ROWS-via-then-index-ge-MOST_ROWS w ↦ inl (omega (arith, c.loop-index.invariant.1, w.if-index-ge-MOST_ROWS.true))
        | then-index-ge-MOST_ROWS-via-else-index-ge-MOST_ROWS+then-not-is_well_made w ↦ inr (not_from_Decides w.is_well_made.result w.is_well_made.ensures.meaning w.if-not-is_well_made.true)
      ];
    }

pub loop-index-preserved : goal.loop-index-preserved
loop-index-preserved c =
    let rows = c.args.rows.now in
    let i = c.loop-index.index in (
      subst (All (WellMade c.args.prefix)) (sym (take_more rows i no_row (omega arith)))
          (All-push (WellMade c.args.prefix) (take i rows) (get_or rows i no_row) c.loop-index.invariant.0 (c.is_well_made.ensures.meaning.0 c.if-not-is_well_made.false)),
      omega arith,
    )

pub returns : goal.returns
returns c =
    let rows = c.args.rows.now in
    let all = take_all c.loop-index.index rows (omega arith) in
    record { made = subst (All (WellMade c.args.prefix)) all c.loop-index.invariant.0; few = omega (arith, c.loop-index.invariant.1) }
