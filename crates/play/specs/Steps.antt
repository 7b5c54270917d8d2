-- How far a search has come, as inner calls state it.
use Rattle.std.specs.Prelude.{◌≡◌, ℕ, ◌≤◌, Bool, true, not, ◌&&◌, ◌||◌, List, length, ◌==◌, nat_lt}
use Rattle.prefix.specs.Points.{Point}
use Rattle.prefix.specs.Policies.{Policy}
use Rattle.prefix.specs.declared.kind.Kind.{Kind}
use Rattle.worth.specs.Scales.{yes_no}
use Rattle.worth.specs.Worth.{AllLost}
use Rattle.book.specs.Guards.{Guards}
use Rattle.book.specs.declared.side.Side.{Side}
use Rattle.book.specs.declared.side.Side.TheVariants.{On, Off}
use Rattle.play.specs.Filling.{Guard, guard_of, Run, first_number, MetBefore}
use Rattle.play.specs.Listing.{Lists}

-- A stack has at least n cells, and all are lost.
abbrev pub Ready : ℕ → List Bool → Type 0
Ready n cells = (n ≤ length cells) × AllLost yes_no cells

-- It has as many as before, and all are lost.
abbrev pub StillReady : List Bool → List Bool → Type 0
StillReady before after = (length after ≡ length before) × AllLost yes_no after

-- Whether the point (k, v) is met before position j of setting s.
abbrev pub met : List Kind → ℕ → ℕ → ℕ → List Bool → Bool
met ks s j k v = nat_lt (first_number ks k v) s || ((first_number ks k v == s) && nat_lt k j)

-- What the guard of a side says where a policy gives a value.
abbrev pub says : Bool → Side → Bool
says x On = x
says x Off = not x

-- The guards are those of the policy p at the points met before position j of setting s, and no elsewhere.
abbrev pub GuardsTo : List Kind → Policy → ℕ → ℕ → Guards → Type 0
GuardsTo ks p s j g = (side : Side) (k : ℕ) (v : List Bool) → Point ks k v → g side k v ≡ (met ks s j k v && says (p k v) side)

-- The guards of the policy p at those points were added, each once, in the order in which they are met.
pub record AddedTo {B : Type 0} (Adds : B → Side → ℕ → List Bool → B → Type 0) (ks : List Kind) (p : Policy) (s j : ℕ) (start now : B) : Type 0 where
  pub guards : List Guard
  pub each_once : Lists (λ k v. Point ks k v × (met ks s j k v ≡ true)) (guard_of p) (MetBefore ks) guards
  pub adds : Run Adds start guards now

-- Both, of a book that was `start` before the first guard, is `now`, and has the guards g.
abbrev pub FilledTo : {B : Type 0} → (B → Side → ℕ → List Bool → B → Type 0) → List Kind → Policy → ℕ → ℕ → B → B → Guards → Type 0
FilledTo Adds ks p s j start now g = GuardsTo ks p s j g × AddedTo Adds ks p s j start now
