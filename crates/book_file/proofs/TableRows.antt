-- Rows written into a table one after another.
use Rattle.std.proofs.Common.{◌≡◌, ℕ, suc, ◌+◌, ◌<◌, ◌≤◌, List, [], ◌∷◌, ◌++◌, length, get_or, set, take, drop, sym, refl, ap, ◌∙◌, append_assoc, add-one, arith, length-append, length-drop}
use Rattle.std.proofs.lemmas.List.{take_all, drop_all, length-take, take-append-le}
use Rattle.std.proofs.Math.Seq.{drop-cons, set-append_seam}
use Rattle.book.specs.declared.row.Row.{Row}
use Rattle.book_file.specs.Steps.{InTable}

module _ (start rows table : List Row) (listed : ℕ) (h : InTable start rows table listed) where
  pub table_length : length table ≡ length start
  table_length =
      ap length h.written ∙ length-append (take (length start) rows) (drop (length rows) start)
      ∙ (let a = length-take (length start) rows in let b = length-drop (length rows) start in omega arith)

  pushed_length : (row : Row) → length (rows ++ row ∷ []) ≡ suc (length rows)
  pushed_length row = length-append rows (row ∷ []) ∙ add-one (length rows)

  -- Where the table still has a place.
  pub row_written : (row : Row) → listed < length table → InTable start (rows ++ row ∷ []) (set table listed row) (listed + 1)
  row_written row l = record { counted = omega (arith, h.counted, pushed_length row); written = at_place }
    where
      inside : length rows < length start
      inside = omega (arith, table_length, h.counted)

      front : table ≡ rows ++ (get_or start (length rows) row ∷ drop (suc (length rows)) start)
      front =
          h.written ∙ ap (λ (t : List Row). t ++ drop (length rows) start) (take_all (length start) rows (omega (arith, inside)))
          ∙ ap (λ (t : List Row). rows ++ t) (drop-cons start (length rows) row inside)

      kept : take (length start) (rows ++ row ∷ []) ≡ rows ++ row ∷ []
      kept = take_all (length start) (rows ++ row ∷ []) (omega (arith, inside, pushed_length row))

      at_place : set table listed row ≡ take (length start) (rows ++ row ∷ []) ++ drop (length (rows ++ row ∷ [])) start
      at_place =
          ap (λ (i : ℕ). set table i row) h.counted ∙ ap (λ (t : List Row). set t (length rows) row) front
          ∙ set-append_seam rows (get_or start (length rows) row) (drop (suc (length rows)) start) row
          ∙ sym (append_assoc rows (row ∷ []) (drop (suc (length rows)) start))
          ∙ ap (λ (n : ℕ). (rows ++ row ∷ []) ++ drop n start) (sym (pushed_length row))
          ∙ ap (λ (t : List Row). t ++ drop (length (rows ++ row ∷ [])) start) (sym kept)

  -- Where it has none.
  pub row_past : (row : Row) → length table ≤ listed → InTable start (rows ++ row ∷ []) table (listed + 1)
  row_past row l = record { counted = omega (arith, h.counted, pushed_length row); written = as_it_was }
    where
      outside : length start ≤ length rows
      outside = omega (arith, table_length, h.counted)

      as_it_was : table ≡ take (length start) (rows ++ row ∷ []) ++ drop (length (rows ++ row ∷ [])) start
      as_it_was =
          h.written ∙ ap (λ (t : List Row). t ++ drop (length rows) start) (sym (take-append-le (length start) rows (row ∷ []) outside))
          ∙ ap (λ (t : List Row). take (length start) (rows ++ row ∷ []) ++ t)
          (drop_all (length rows) start outside ∙ sym (drop_all (length (rows ++ row ∷ [])) start (omega (arith, outside, pushed_length row))))

  -- A table that has a place for each row.
  pub table_whole : length rows ≤ length start → table ≡ rows ++ drop listed start
  table_whole l =
      h.written ∙ ap (λ (t : List Row). t ++ drop (length rows) start) (take_all (length start) rows l)
      ∙ ap (λ (n : ℕ). rows ++ drop n start) (sym h.counted)

pub table_first : (start : List Row) → InTable start [] start 0
table_first start = record { counted = refl; written = sym (none (length start)) }
  where
    none : (n : ℕ) → take n [] ++ drop 0 start ≡ start
    none n = ap (λ (t : List Row). t ++ start) (take_all n [] (omega arith))
