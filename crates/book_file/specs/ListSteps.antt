-- How far a listing has come, as inner calls state it.
use Rattle.std.specs.Prelude.{◌≡◌, ℕ, ◌+◌, ◌*◌, ◌<◌, Bool, true, List, All, AllPairs, Contains}
use Rattle.prefix.specs.Points.{Point}
use Rattle.prefix.specs.Prefixes.{kinds}
use Rattle.prefix.specs.Settings.{number}
use Rattle.prefix.specs.declared.prefix.Prefix.{Prefix}
use Rattle.book.specs.Guards.{Guards}
use Rattle.book.specs.declared.row.Row.{Row}
use Rattle.book.specs.declared.side.Side.{Side}
use Rattle.book.specs.declared.side.Side.TheVariants.{On, Off}
use Rattle.book_file.specs.Listing.{row_of, ListedBefore, Listed}
use Rattle.book_file.specs.Steps.{InTable}

-- The order of the sides.
abbrev pub side_place : Side → ℕ
side_place On = 0
side_place Off = 1

-- A place for each position, setting and side, in the order of the rows: no position has more than 4096 settings.
abbrev pub place : ℕ → ℕ → ℕ → ℕ
place k s t = 2 * (4096 * k + s) + t

abbrev pub guard_place : Side → ℕ → List Bool → ℕ
guard_place side k v = place k (number v) (side_place side)

-- The rows of the guards that are yes and have a place before `end`, each once and in order.
pub record ListsTo (p : Prefix) (g : Guards) (end : ℕ) (rows : List Row) : Type 0 where
  pub each : (side : Side) (k : ℕ) (v : List Bool) → Point (kinds p) k v → g side k v ≡ true → guard_place side k v < end → Contains rows (row_of p side k v)
  pub only : All (λ r. (side : Side) × (k : ℕ) × (v : List Bool) × Point (kinds p) k v × (g side k v ≡ true) × (guard_place side k v < end) × (r ≡ row_of p side k v)) rows
  pub order : AllPairs (ListedBefore p) rows

-- The table has the rows of the guards before `end`.
pub record ListedTo (p : Prefix) (g : Guards) (end : ℕ) (start table : List Row) (listed : ℕ) : Type 0 where
  pub rows : List Row
  pub lists : ListsTo p g end rows
  pub held : InTable start rows table listed

-- It has those of all guards.
pub record AllListed (p : Prefix) (g : Guards) (start table : List Row) (listed : ℕ) : Type 0 where
  pub rows : List Row
  pub lists : Listed p g rows
  pub held : InTable start rows table listed
