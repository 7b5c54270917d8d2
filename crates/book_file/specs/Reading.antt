-- What reading a book's file into a table gives.
use Rattle.std.specs.Prelude.{◌≡◌, ℕ, ◌<◌, ◌≤◌, ◌⊎◌, List, length, Ok, Err, Result}
use Rattle.prefix.specs.declared.prefix.Prefix.{Prefix}
use Rattle.book.specs.declared.row.Row.{Row}
use Rattle.book_file.specs.declared.fault.BookFault.{BookFault}
use Rattle.book_file.specs.declared.fault.BookFault.TheVariants.{TableTooShort}
use Rattle.book_file.specs.declared.reading.Reading.{Reading}
use Rattle.book_file.specs.Files.{Says}
use Rattle.book_file.specs.Fronts.{AtFront}
use Rattle.book_file.specs.Refusing.{HasFault}

-- A file that is longer than the table is for.
pub record Longer (file : List ℕ) (before : List Row) : Type 0 where
  pub prefix : Prefix
  pub rows : List Row
  pub says : Says file prefix rows
  pub short : length before < length rows

-- The rows that the file says stand in the table. Or the table is as it was: the file has a fault, or it says more rows than
-- the table has places for.
abbrev pub Read : List ℕ → Result Reading BookFault → List Row → List Row → Type 0
Read file (Ok r) before after = (rows : List Row) × Says file r.prefix rows × AtFront rows r.rows before after
Read file (Err f) before after = (after ≡ before) × (HasFault file f ⊎ ((f ≡ TableTooShort) × Longer file before))

-- A file that says rows for which the table has places is read.
abbrev pub ReadsBack : List ℕ → Result Reading BookFault → List Row → List Row → Type 0
ReadsBack file result before after = (p : Prefix) (rows : List Row) → Says file p rows → length rows ≤ length before
    → (result ≡ Ok (record { prefix = p; rows = length rows })) × AtFront rows (length rows) before after
