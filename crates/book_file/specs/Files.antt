-- A book's file: which bytes say which rows.
use Rattle.std.specs.Prelude.{All, ◌≡◌, ℕ, ◌≤◌, List, [], ◌∷◌, ◌++◌, length}
use Rattle.prefix.specs.declared.prefix.Prefix.{Prefix}
use Rattle.book.specs.Rows.{WellMade}
use Rattle.book.specs.declared.row.Row.{Row}
use Rattle.book.specs.declared.side.Side.{Side}
use Rattle.book.specs.declared.side.Side.TheVariants.{On, Off}
use Rattle.book_file.specs.Numbers.{bytes_of}

abbrev pub side_number : Side → ℕ
side_number On = 1
side_number Off = 0

-- The numbers of a row: its position, its side, and the masks of the reports that it looks at and of those that it wants on.
abbrev pub row_numbers : Row → List ℕ
row_numbers r = r.position ∷ side_number r.side ∷ r.looked_at ∷ r.wanted_on ∷ []

abbrev pub rows_numbers : List Row → List ℕ
rows_numbers [] = []
rows_numbers (r ∷ rows) = row_numbers r ++ rows_numbers rows

-- The numbers of a file: how many positions, the mask of the reports, how many rows, and the rows.
abbrev pub file_numbers : Prefix → List Row → List ℕ
file_numbers p rows = p.length ∷ p.reports ∷ length rows ∷ rows_numbers rows

-- The bytes of a file.
abbrev pub file_bytes : Prefix → List Row → List ℕ
file_bytes p rows = bytes_of (file_numbers p rows)

-- Rows that a file may have: each well made, and at most 65,535.
pub record Fit (p : Prefix) (rows : List Row) : Type 0 where
  pub made : All (WellMade p) rows
  pub few : length rows ≤ 65535

-- The bytes say these rows over this prefix.
pub record Says (file : List ℕ) (p : Prefix) (rows : List Row) : Type 0 where
  pub bytes : file ≡ file_bytes p rows
  pub fit : Fit p rows
