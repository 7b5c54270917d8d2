-- A file read row by row.
use Rattle.std.proofs.Common.{◌≡◌, ℕ, ◌+◌, ◌<◌, ◌≤◌, List, [], ◌∷◌, ◌++◌, length, drop, None, Ok, Err, Result, refl, sym, ap, ◌∙◌, subst, ⊎_elim, arith, length-drop}
use Rattle.std.proofs.lemmas.List.{append-nil, drop_all}
use Rattle.std.proofs.lemmas.List.Elements.{All-nil, All-push}
use Rattle.prefix.specs.declared.prefix.Prefix.{Prefix}
use Rattle.book.specs.Rows.{WellMade}
use Rattle.book.specs.declared.row.Row.{Row}
use Rattle.book_file.specs.declared.fault.BookFault.{BookFault}
use Rattle.book_file.specs.declared.fault.BookFault.TheVariants.{ExtraBytes, TableTooShort}
use Rattle.book_file.specs.declared.reading.Reading.{Reading}
use Rattle.book_file.specs.Files.{row_numbers, rows_numbers, file_numbers, Says}
use Rattle.book_file.specs.Fields.{Allowed, Begun}
use Rattle.book_file.specs.Numbers.{bytes_of}
use Rattle.book_file.specs.Reading.{Longer, Read, ReadsBack}
use Rattle.book_file.specs.Refusing.{WrongThere, HasFault}
use Rattle.book_file.specs.Steps.{Stand, InTable, RowFault, RowsTaken, ReadInto}
use Rattle.book_file.proofs.Beginning.{header_begun, rows_begun, file_over}
use Rattle.book_file.proofs.Deciding.{decided}
use Rattle.book_file.proofs.Rows.{rows_push}
use Rattle.book_file.proofs.Standing.{stand_append, fault_after, fault_in_row}
use Rattle.book_file.proofs.TableRows.{table_first, table_whole}

-- The numbers before the rows are taken, and no row yet.
pub rows_none : (p : Prefix) (all : ℕ) (file : List ℕ) (to : ℕ) (start : List Row) → Stand file (p.length ∷ p.reports ∷ all ∷ []) 0 to → RowsTaken p all file 0 to start start
rows_none p all file to start stand = record { rows = []; made = All-nil (WellMade p); stand = stand; held = table_first start }

module _ (p : Prefix) (all : ℕ) (file : List ℕ) (i at : ℕ) (start table : List Row) (taken : RowsTaken p all file i at start table) where
  abbrev numbers : List ℕ
  numbers = p.length ∷ p.reports ∷ all ∷ rows_numbers taken.rows

  -- One row more.
  pub row_more : (r : Row) (to : ℕ) (after : List Row) → WellMade p r → Stand file (row_numbers r) at to → InTable start (taken.rows ++ r ∷ []) after (i + 1) → RowsTaken p all file (i + 1) to start after
  row_more r to after made stand held = record {
    rows = taken.rows ++ r ∷ [];
    made = All-push (WellMade p) taken.rows r taken.made made;
    stand = subst (λ (ns : List ℕ). Stand file (p.length ∷ p.reports ∷ all ∷ ns) 0 to) (sym (rows_push taken.rows r)) (stand_append file numbers (row_numbers r) 0 at to taken.stand stand);
    held = held;
  }

  module _ (few : all ≤ 65535) where
    so_far : length taken.rows ≤ all → Begun numbers
    so_far l = rows_begun p all [] taken.rows (omega arith) (header_begun p all few) taken.made

    -- The next row has a fault.
    pub fault_next : (f : BookFault) → i < all → RowFault p i file at f → HasFault file f
    fault_next f l fault =
        let count : i ≡ length taken.rows = taken.held.counted in
        fault_in_row p all at taken.rows file f (omega arith) (so_far (omega arith)) taken.stand (subst (λ (k : ℕ). RowFault p k file at f) count fault)

    module _ (whole : i ≡ all) where
      all_counted : all ≡ length taken.rows
      all_counted = sym whole ∙ taken.held.counted

      stands : Stand file (file_numbers p taken.rows) 0 at
      stands = subst (λ (n : ℕ). Stand file (p.length ∷ p.reports ∷ n ∷ rows_numbers taken.rows) 0 at) all_counted taken.stand

      -- Bytes are left after the last row.
      pub fault_left : (f : BookFault) → at < length file → f ≡ ExtraBytes at → HasFault file f
      fault_left f l e =
          let ns = file_numbers p taken.rows in
          let begun : Begun ns = subst (λ (n : ℕ). Begun (p.length ∷ p.reports ∷ n ∷ rows_numbers taken.rows)) all_counted (so_far (omega (arith, all_counted))) in
          let some : drop at file ≡ [] → ⊥ = λ none. absurd (let a = ap length none in let b = length-drop at file in omega arith) in
          let wrong : WrongThere None (Allowed ns) at (drop at file) (ExtraBytes at) = (refl, some) in
          fault_after file ns at f begun stands
          (subst (λ o. WrongThere o (Allowed ns) at (drop at file) f) (sym (file_over p taken.rows)) (subst (WrongThere None (Allowed ns) at (drop at file)) (sym e) wrong))

      -- Nothing is left.
      pub says_all : length file ≤ at → Says file p taken.rows
      says_all l = record {
        bytes = stands.parts ∙ ap (λ (bs : List ℕ). bytes_of (file_numbers p taken.rows) ++ bs) (drop_all at file l) ∙ append-nil (bytes_of (file_numbers p taken.rows));
        fit = record { made = taken.made; few = omega (arith, all_counted) };
      }

-- The rows were counted once, and then put into the table.
module _ (file : List ℕ) (r : Reading) (start : List Row) (says : (rows : List Row) × Says file r.prefix rows × (r.rows ≡ length rows)) where
  pub second_pass : (result : Result Reading BookFault) (table : List Row) → r.rows ≤ length start → ReadInto file result start table → Read file result start table
  second_pass (Ok q) table room into =
      let one = (decided file).one_book r.prefix q.prefix says.0 into.0 says.1 into.1 in
      let few : length into.0 ≤ length start = omega (arith, says.2, ap length one.1) in (
        into.0,
        into.1,
        record {
          count = into.2.counted;
          room = omega (arith, into.2.counted, few);
          all = table_whole start into.0 table q.rows into.2 few;
        },
      )
  second_pass (Err f) table room into = absurd ((decided file).not_both r.prefix says.0 f says.1 into)

  pub longer : length start < r.rows → Longer file start
  longer l = record { prefix = r.prefix; rows = says.0; says = says.1; short = omega (arith, says.2) }

-- What reading gives is fixed by what the file says.
pub reads_back : (file : List ℕ) (result : Result Reading BookFault) (start table : List Row) → Read file result start table → ReadsBack file result start table
reads_back file (Ok r) start table read p rows says room =
    let one = (decided file).one_book p r.prefix rows read.0 says read.1 in
    let count : r.rows ≡ length rows = read.2.count ∙ sym (ap length one.1) in (
      (λ i. Ok (record { prefix = sym one.0 i; rows = count i })),
      record { count = refl; room = room; all = read.2.all ∙ (λ i. sym one.1 i ++ drop (count i) start) },
    )
reads_back file (Err f) start table read p rows says room =
    absurd (⊎_elim
    (λ (h : HasFault file f). (decided file).not_both p rows f says h)
    (λ (h : (f ≡ TableTooShort) × Longer file start).
    let one = (decided file).one_book p h.1.prefix rows h.1.rows says h.1.says in
    let l = h.1.short in
    let e : length rows ≡ length h.1.rows = ap length one.1 in
    absurd (omega arith))
    read.1)
