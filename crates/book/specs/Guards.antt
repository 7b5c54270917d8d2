-- What a book means: at each point two guards, each yes or no.
use Rattle.std.specs.Prelude.{◌≡◌, ℕ, Bool, true, false, not, ◌&&◌, List}
use Rattle.prefix.specs.Kinds.{is_reply}
use Rattle.prefix.specs.Lines.{setting_before}
use Rattle.prefix.specs.Points.{Point}
use Rattle.prefix.specs.Policies.{Policy}
use Rattle.prefix.specs.Prefixes.{kinds}
use Rattle.prefix.specs.declared.kind.Kind.{Kind}
use Rattle.prefix.specs.declared.prefix.Prefix.{Prefix}
use Rattle.book.specs.declared.side.Side.{Side}
use Rattle.book.specs.declared.side.Side.TheVariants.{On, Off}

-- Whether two sides are the same.
abbrev pub same_side : Side → Side → Bool
same_side On On = true
same_side On Off = false
same_side Off On = false
same_side Off Off = true

-- For each side, whether its guard is yes at a point. What they say elsewhere, where there is no point, does not matter.
abbrev pub Guards : Type 0
Guards = Side → ℕ → List Bool → Bool

-- What the question for a side answers, put with a position and a mask of values: its guard at the point there, and no where no reply stands.
abbrev pub answer : Prefix → Guards → Side → ℕ → ℕ → Bool
answer p g side k m = is_reply (kinds p) k && g side k (setting_before p k m)

-- Every guard is no.
abbrev pub AllNo : List Kind → Guards → Type 0
AllNo ks g = (side : Side) (k : ℕ) (v : List Bool) → Point ks k v → g side k v ≡ false

-- Two books' guards are the same at every point.
abbrev pub SameGuards : List Kind → Guards → Guards → Type 0
SameGuards ks g h = (side : Side) (k : ℕ) (v : List Bool) → Point ks k v → h side k v ≡ g side k v

-- Whether a book of prefix p, with room or without, can add a guard at position k: it has room, and a reply stands there.
abbrev pub can_add : Bool → Prefix → ℕ → Bool
can_add room p k = room && is_reply (kinds p) k

-- The guards g' are the guards g with that of one side yes at one point.
pub record Added (ks : List Kind) (g : Guards) (side : Side) (k : ℕ) (v : List Bool) (g' : Guards) : Type 0 where
  pub here : g' side k v ≡ true
  pub elsewhere : (s : Side) (j : ℕ) (w : List Bool) → Point ks j w → ((s ≡ side) × (j ≡ k) × (w ≡ v) → ⊥) → g' s j w ≡ g s j w

-- The guards mean a policy: at every point exactly one of the two is yes, the on-guard where the policy says on.
pub record Means (ks : List Kind) (g : Guards) (policy : Policy) : Type 0 where
  pub on : (k : ℕ) (v : List Bool) → Point ks k v → g On k v ≡ policy k v
  pub off : (k : ℕ) (v : List Bool) → Point ks k v → g Off k v ≡ not (policy k v)
