-- What writing rows into a buffer gives.
use Rattle.std.specs.Prelude.{◌≡◌, ℕ, ◌<◌, ◌⊎◌, List, ◌∷◌, ◌++◌, length, take, Ok, Err, Result}
use Rattle.prefix.specs.declared.prefix.Prefix.{Prefix}
use Rattle.book.specs.Rows.{WellMade}
use Rattle.book.specs.declared.row.Row.{Row}
use Rattle.book_file.specs.declared.write_fault.WriteFault.{WriteFault}
use Rattle.book_file.specs.declared.write_fault.WriteFault.TheVariants as fault
use Rattle.book_file.specs.Files.{Fit, Says, file_bytes}
use Rattle.book_file.specs.Fronts.{AtFront}

-- The row of index i is the first that no file may have: it is not well made, or 65,535 rows stand before it.
pub record FirstUnfit (p : Prefix) (rows : List Row) (i : ℕ) : Type 0 where
  pub front : List Row
  pub row : Row
  pub rest : List Row
  pub parts : rows ≡ front ++ row ∷ rest
  pub index : length front ≡ i
  pub fit : Fit p front
  pub unfit : (i ≡ 65535) ⊎ (WellMade p row → ⊥)

-- The bytes of the file stand at the front of the buffer. Or the buffer is as it was: a row is unfit, or the buffer is
-- shorter than the file.
abbrev pub Written : Prefix → List Row → Result ℕ WriteFault → List ℕ → List ℕ → Type 0
Written p rows (Ok n) before after = Fit p rows × AtFront (file_bytes p rows) n before after
Written p rows (Err (fault.Row i)) before after = (after ≡ before) × FirstUnfit p rows i
Written p rows (Err fault.BufferTooShort) before after = (after ≡ before) × Fit p rows × (length before < length (file_bytes p rows))

-- What was written says the rows that it was written of.
abbrev pub SaysWritten : Prefix → List Row → Result ℕ WriteFault → List ℕ → Type 0
SaysWritten p rows (Ok n) after = Says (take n after) p rows
SaysWritten p rows (Err f) after = Unit {0}
