-- A book's guards listed as rows.
use Rattle.std.specs.Prelude.{◌≡◌, ℕ, ◌+◌, ◌-◌, ◌*◌, ◌%◌, ◌^◌, ◌<◌, Bool, true, cond, ◌⊎◌, List, [], ◌∷◌, length, All, AllPairs, Contains}
use Rattle.prefix.specs.Lines.{setting_before}
use Rattle.prefix.specs.Points.{Point}
use Rattle.prefix.specs.Prefixes.{kinds}
use Rattle.prefix.specs.Settings.{number}
use Rattle.prefix.specs.declared.kind.Kind.{Kind}
use Rattle.prefix.specs.declared.kind.Kind.TheVariants.{Report, Reply}
use Rattle.prefix.specs.declared.prefix.Prefix.{Prefix}
use Rattle.book.specs.Guards.{Guards, SameGuards}
use Rattle.book.specs.RowGuards.{row_guards}
use Rattle.book.specs.Rows.{WellMade}
use Rattle.book.specs.declared.row.Row.{Row}
use Rattle.book.specs.declared.side.Side.{Side}
use Rattle.book.specs.declared.side.Side.TheVariants.{On, Off}
use Rattle.book_file.specs.Fronts.{AtFront}

-- The mask that gives the reports among the kinds, in order, the values v; off at every reply, and where v has ended.
abbrev pub setting_mask : List Kind → List Bool → ℕ
setting_mask [] v = 0
setting_mask (Reply ∷ ks) v = 2 * setting_mask ks v
setting_mask (Report ∷ ks) [] = 0
setting_mask (Report ∷ ks) (x ∷ v) = cond x 1 0 + 2 * setting_mask ks v

-- The row of the guard of a side at a point: it looks at every report before the reply, and wants what the setting says.
abbrev pub row_of : Prefix → Side → ℕ → List Bool → Row
row_of p side k v = record { position = k; side = side; looked_at = p.reports % 2 ^ (k - 1); wanted_on = setting_mask (kinds p) v }

-- The number of the setting that a row wants.
abbrev pub wanted_number : Prefix → Row → ℕ
wanted_number p r = number (setting_before p r.position r.wanted_on)

-- By position, then by the setting's number, then on before off.
abbrev pub ListedBefore : Prefix → Row → Row → Type 0
ListedBefore p a b =
    (a.position < b.position)
    ⊎ ((a.position ≡ b.position) × ((wanted_number p a < wanted_number p b) ⊎ ((wanted_number p a ≡ wanted_number p b) × (a.side ≡ On) × (b.side ≡ Off))))

-- The rows that a book of prefix p with guards g is listed as: one for each guard that is yes, nothing else, and in order.
pub record Listed (p : Prefix) (g : Guards) (rows : List Row) : Type 0 where
  pub each : (side : Side) (k : ℕ) (v : List Bool) → Point (kinds p) k v → g side k v ≡ true → Contains rows (row_of p side k v)
  pub only : All (λ r. (side : Side) × (k : ℕ) × (v : List Bool) × Point (kinds p) k v × (g side k v ≡ true) × (r ≡ row_of p side k v)) rows
  pub order : AllPairs (ListedBefore p) rows

-- The book was listed into a table: its rows stand at the front, `count` of them, and the rest is as it was.
abbrev pub ListedInto : Prefix → Guards → List Row → List Row → ℕ → Type 0
ListedInto p g old new count = (rows : List Row) × Listed p g rows × AtFront rows count old new

-- The book has more rows than the table has places, and the table is as it was.
pub record TooShort (p : Prefix) (g : Guards) (old new : List Row) : Type 0 where
  pub rows : List Row
  pub listed : Listed p g rows
  pub more : length old < length rows
  pub same : new ≡ old

-- The book has no two listings.
abbrev pub OneListing : Prefix → Guards → Type 0
OneListing p g = (xs ys : List Row) → Listed p g xs → Listed p g ys → xs ≡ ys

-- Each row of a listing is well made.
abbrev pub ListingWellMade : Prefix → Guards → Type 0
ListingWellMade p g = (rows : List Row) → Listed p g rows → All (WellMade p) rows

-- The rows of a listing, as a book of rows, have the book's guards at every point.
abbrev pub ListingKeepsGuards : Prefix → Guards → Type 0
ListingKeepsGuards p g = (rows : List Row) → Listed p g rows → SameGuards (kinds p) g (row_guards p rows)
