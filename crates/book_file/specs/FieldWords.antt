-- The words for a field.
use Rattle.std.specs.Prelude.{ℕ, List, ◌++◌, codes, decimal}
use Rattle.book_file.specs.declared.field.Field.{Field}
use Rattle.book_file.specs.declared.field.Field.TheVariants.{Length, Reports, RowCount, Position, Side, LookedAt, WantedOn}

-- A row is named by its index, counted from 0.
abbrev pub field_text : Field → List ℕ
field_text Length = codes "the number of positions"
field_text Reports = codes "the mask of reports"
field_text RowCount = codes "the number of rows"
field_text (Position i) = codes "the position of row " ++ (decimal i ++ codes " (from 0)")
field_text (Side i) = codes "the side of row " ++ (decimal i ++ codes " (from 0)")
field_text (LookedAt i) = codes "the reports looked at by row " ++ (decimal i ++ codes " (from 0)")
field_text (WantedOn i) = codes "the reports wanted on by row " ++ (decimal i ++ codes " (from 0)")
