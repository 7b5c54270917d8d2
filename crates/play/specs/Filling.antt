-- Guards that are added to a book one after the other, and the order in which search adds them.
use Rattle.std.specs.Prelude.{◌≡◌, ℕ, ◌-◌, ◌<◌, ◌≤◌, Bool, true, false, ◌⊎◌, List, ◌++◌, length, take, replicate}
use Rattle.std.specs.List.{FoldsTo}
use Rattle.prefix.specs.Kinds.{report_count, reports_before}
use Rattle.prefix.specs.Points.{Point}
use Rattle.prefix.specs.Policies.{Policy}
use Rattle.prefix.specs.Settings.{Setting, number}
use Rattle.prefix.specs.declared.kind.Kind.{Kind}
use Rattle.book.specs.Guards.{Guards, AllNo, Added}
use Rattle.book.specs.declared.side.Side.{Side}
use Rattle.book.specs.declared.side.Side.TheVariants.{On, Off}

-- A guard: its side and its point.
pub record Guard : Type 0 where
  pub side : Side
  pub position : ℕ
  pub setting : List Bool

-- The side whose guard is yes where a policy gives a value.
abbrev pub side_of : Bool → Side
side_of true = On
side_of false = Off

-- The guard that is yes at a point in a book that means a policy.
abbrev pub guard_of : Policy → ℕ → List Bool → Guard
guard_of p k v = record { side = side_of (p k v); position = k; setting = v }

-- From one book to another by adding guards one after the other, as a relation says of each.
abbrev pub Run : {B : Type 0} → (B → Side → ℕ → List Bool → B → Type 0) → B → List Guard → B → Type 0
Run {B} Adds b gs c = FoldsTo (λ (x : B) (g : Guard) (y : B). Adds x g.side g.position g.setting y) b gs c

-- What a fillable book's calls do: what the trait's own relation says, and what that is of the guards.
abbrev pub ClearsAll : {B : Type 0} → (B → B → Type 0) → (B → Guards) → List Kind → B → B → Type 0
ClearsAll Clears guards ks x y = Clears x y × AllNo ks (guards y)

abbrev pub AddsOne : {B : Type 0} → (B → Side → ℕ → List Bool → B → Type 0) → (B → Guards) → List Kind → B → Side → ℕ → List Bool → B → Type 0
AddsOne Adds guards ks x side k v y = Adds x side k v y × Added ks (guards x) side k v (guards y)

-- The first setting that has a point: the reports before it as the point has them, all later ones off.
abbrev pub first_setting : List Kind → ℕ → List Bool → List Bool
first_setting ks k v = v ++ replicate (report_count ks - reports_before ks k) false

-- Its number.
abbrev pub first_number : List Kind → ℕ → List Bool → ℕ
first_number ks k v = number (first_setting ks k v)

-- That it is the first: it has the point, and no setting of a lower number has it.
pub record FirstHas (ks : List Kind) : Type 0 where
  pub has : (k : ℕ) (v : List Bool) → Point ks k v → Setting ks (first_setting ks k v) × (take (length v) (first_setting ks k v) ≡ v)
  pub least : (k : ℕ) (v s : List Bool) → Point ks k v → Setting ks s → take (length v) s ≡ v → first_number ks k v ≤ number s

-- One guard's point is met before another's, with the settings taken in rising number and at each its replies in order.
abbrev pub MetBefore : List Kind → Guard → Guard → Type 0
MetBefore ks a b =
    (first_number ks a.position a.setting < first_number ks b.position b.setting)
    ⊎ ((first_number ks a.position a.setting ≡ first_number ks b.position b.setting) × (a.position < b.position))

-- No guard is met before itself, so that a list in this order has none twice.
abbrev pub MetOnce : List Kind → Type 0
MetOnce ks = (a : Guard) → MetBefore ks a a → ⊥
