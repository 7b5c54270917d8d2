-- The steps of copying a book, as inner calls state them.
use Rattle.std.specs.Prelude.{◌≡◌, ℕ, Bool, ◌&&◌, ◌||◌, List, ◌==◌, nat_lt}
use Rattle.prefix.specs.Points.{Point}
use Rattle.prefix.specs.Settings.{number}
use Rattle.prefix.specs.declared.kind.Kind.{Kind}
use Rattle.book.specs.Guards.{Guards}
use Rattle.book.specs.declared.side.Side.{Side}

-- Whether the point of position j and setting n comes before that of position k and setting s, by position and then by setting.
abbrev pub comes_before : ℕ → ℕ → ℕ → ℕ → Bool
comes_before k s j n = nat_lt j k || ((j == k) && nat_lt n s)

-- The guards h are those of g at the points before position k and setting s, and no elsewhere.
abbrev pub CopiedTo : List Kind → Guards → ℕ → ℕ → Guards → Type 0
CopiedTo ks g k s h = (side : Side) (j : ℕ) (w : List Bool) → Point ks j w → h side j w ≡ (g side j w && comes_before k s j (number w))

-- The guards h' are the guards h, with that of one side at one point yes also where `yes` is.
pub record GuardCopied (ks : List Kind) (yes : Bool) (side : Side) (k : ℕ) (v : List Bool) (h h' : Guards) : Type 0 where
  pub here : h' side k v ≡ (h side k v || yes)
  pub elsewhere : (s : Side) (j : ℕ) (w : List Bool) → Point ks j w → ((s ≡ side) × (j ≡ k) × (w ≡ v) → ⊥) → h' s j w ≡ h s j w

-- The guards h' are the guards h, with both at one point yes also where those of g are.
pub record PointCopied (ks : List Kind) (g : Guards) (k : ℕ) (v : List Bool) (h h' : Guards) : Type 0 where
  pub here : (side : Side) → h' side k v ≡ (h side k v || g side k v)
  pub elsewhere : (side : Side) (j : ℕ) (w : List Bool) → Point ks j w → ((j ≡ k) × (w ≡ v) → ⊥) → h' side j w ≡ h side j w
