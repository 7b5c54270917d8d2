-- What inner calls state.
use Rattle.std.specs.Prelude.{All, ◌≡◌, ℕ, ◌+◌, ◌<◌, ◌≤◌, ◌^◌, List, [], ◌∷◌, ◌++◌, length, take, drop, Some, Ok, Err, Result}
use Rattle.prefix.specs.Limits.{Limits}
use Rattle.prefix.specs.declared.prefix.Prefix.{Prefix}
use Rattle.book.specs.Rows.{WellMade}
use Rattle.book.specs.declared.row.Row.{Row}
use Rattle.book.specs.declared.side.Side.{Side}
use Rattle.book_file.specs.declared.fault.BookFault.{BookFault}
use Rattle.book_file.specs.declared.fault.BookFault.TheVariants.{ExtraBytes}
use Rattle.book_file.specs.declared.field.Field.{Field}
use Rattle.book_file.specs.declared.field.Field.TheVariants as field
use Rattle.book_file.specs.declared.reading.Reading.{Reading}
use Rattle.book_file.specs.Numbers.{bytes_of}
use Rattle.book_file.specs.Files.{side_number, row_numbers, rows_numbers, Says}
use Rattle.book_file.specs.Fields.{next_in_rows, AllowedInRows, EachAfter}
use Rattle.book_file.specs.Refusing.{HasFault, WrongThere}

-- A list with xs in place of what stood from a place on.
abbrev pub with_at : {A : Type 0} → ℕ → List A → List A → List A
with_at at xs old = take at old ++ (xs ++ drop (at + length xs) old)

-- The rows, `listed` of them, are written at the front of the table as far as it reaches; the rest is as at the start.
pub record InTable (start rows table : List Row) (listed : ℕ) : Type 0 where
  pub counted : listed ≡ length rows
  pub written : table ≡ take (length start) rows ++ drop (length rows) start

-- In a file the numbers ns stand from one place to another.
pub record Stand (file ns : List ℕ) (at to : ℕ) : Type 0 where
  pub parts : drop at file ≡ bytes_of ns ++ drop to file
  pub place : to ≡ at + length (bytes_of ns)

-- A number is taken from a file, one that the field may have; or what is wrong there.
abbrev pub FieldTaken : Field → (ℕ → Type 0) → List ℕ → ℕ → Result ℕ BookFault → ℕ → Type 0
FieldTaken field Allows file at (Ok n) to = (n < 2 ^ 28) × Allows n × Stand file (n ∷ []) at to
FieldTaken field Allows file at (Err f) to = WrongThere (Some field) Allows at (drop at file) f

-- After some numbers of a row, over n positions with the reports of the mask m, another is as it should be.
abbrev pub FollowsInRow : ℕ → ℕ → List ℕ → ℕ → Type 0
FollowsInRow n m before x = (x < 2 ^ 28) × AllowedInRows n m before x

-- What is wrong in the i-th row, which begins at a place: some of its numbers are as they should be, and then one is not.
pub record RowFault (p : Prefix) (i : ℕ) (file : List ℕ) (at : ℕ) (fault : BookFault) : Type 0 where
  pub numbers : List ℕ
  pub to : ℕ
  pub part : length numbers ≤ 3
  pub begun : EachAfter (FollowsInRow p.length p.reports) numbers
  pub stand : Stand file numbers at to
  pub wrong : WrongThere (next_in_rows 1 i numbers) (AllowedInRows p.length p.reports numbers) to (drop to file) fault

-- The i-th row is taken.
abbrev pub RowTaken : Prefix → ℕ → List ℕ → ℕ → Result Row BookFault → ℕ → Type 0
RowTaken p i file at (Ok r) to = WellMade p r × Stand file (row_numbers r) at to
RowTaken p i file at (Err f) to = RowFault p i file at f

-- The mask of reports is taken, over n positions.
abbrev pub PrefixTaken : ℕ → List ℕ → ℕ → Result Prefix BookFault → ℕ → Type 0
PrefixTaken n file at (Ok p) to = (p.length ≡ n) × Stand file (p.reports ∷ []) at to
PrefixTaken n file at (Err f) to = WrongThere (Some field.Reports) (Limits n) at (drop at file) f

-- The numbers before the rows are taken.
abbrev pub HeaderTaken : List ℕ → Result Reading BookFault → ℕ → Type 0
HeaderTaken file (Ok r) to = (r.rows ≤ 65535) × Stand file (r.prefix.length ∷ r.prefix.reports ∷ r.rows ∷ []) 0 to
HeaderTaken file (Err f) to = HasFault file f

-- The first i rows are taken, of `all` that are to come, and stand in a table as far as it reaches.
pub record RowsTaken (p : Prefix) (all : ℕ) (file : List ℕ) (i to : ℕ) (start table : List Row) : Type 0 where
  pub rows : List Row
  pub made : All (WellMade p) rows
  pub stand : Stand file (p.length ∷ p.reports ∷ all ∷ rows_numbers rows) 0 to
  pub held : InTable start rows table i

-- A whole file is read, and its rows stand in a table as far as it reaches; or the file has a fault.
abbrev pub ReadInto : List ℕ → Result Reading BookFault → List Row → List Row → Type 0
ReadInto file (Ok r) start table = (rows : List Row) × Says file r.prefix rows × InTable start rows table r.rows
ReadInto file (Err f) start table = HasFault file f

-- A side is taken.
abbrev pub SideTaken : ℕ → List ℕ → ℕ → Result Side BookFault → ℕ → Type 0
SideTaken i file at (Ok s) to = Stand file (side_number s ∷ []) at to
SideTaken i file at (Err f) to = WrongThere (Some (field.Side i)) (λ x. x ≤ 1) at (drop at file) f

-- Nothing is left of a file.
abbrev pub Ended : List ℕ → ℕ → Result (Unit {0}) BookFault → Type 0
Ended file at (Ok u) = length file ≤ at
Ended file at (Err f) = (at < length file) × (f ≡ ExtraBytes at)
