-- What a search gives.
use Rattle.std.specs.Prelude.{◌≡◌, ℕ, Bool, List}
use Rattle.prefix.specs.Points.{Point}
use Rattle.prefix.specs.Policies.{Policy, Wins}
use Rattle.prefix.specs.declared.kind.Kind.{Kind}
use Rattle.book.specs.Guards.{Guards, Means}
use Rattle.book.specs.declared.side.Side.{Side}
use Rattle.play.specs.Filling.{Guard, guard_of, Run, MetBefore}
use Rattle.play.specs.Listing.{Lists}
use Rattle.play.specs.Searching.{OnWhereItCanWin}

-- A policy is the one that a search finds: it wins, and is on exactly where on can still win; any other that is so says the
-- same at every point.
pub record Searched (kept : List Bool → Bool) (ks : List Kind) (p : Policy) : Type 0 where
  pub wins : Wins kept ks p
  pub on : OnWhereItCanWin kept ks p
  pub only : (q : Policy) → OnWhereItCanWin kept ks q → (k : ℕ) (v : List Bool) → Point ks k v → q k v ≡ p k v

-- A book was cleared, and then the guards of a policy were added, that of each point once, in the order in which points are met.
pub record Filled {B : Type 0} (Clears : B → B → Type 0) (Adds : B → Side → ℕ → List Bool → B → Type 0) (ks : List Kind) (p : Policy) (before after : B) : Type 0 where
  pub cleared : B
  pub clears : Clears before cleared
  pub guards : List Guard
  pub each_once : Lists (Point ks) (guard_of p) (MetBefore ks) guards
  pub adds : Run Adds cleared guards after

-- What a search makes of a book whose guards are g afterwards.
pub record Found {B : Type 0} (Clears : B → B → Type 0) (Adds : B → Side → ℕ → List Bool → B → Type 0) (kept : List Bool → Bool) (ks : List Kind) (before after : B) (g : Guards) : Type 0 where
  pub policy : Policy
  pub means : Means ks g policy
  pub searched : Searched kept ks policy
  pub filled : Filled Clears Adds ks policy before after
