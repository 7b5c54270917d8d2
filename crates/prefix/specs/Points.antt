-- Points: where a policy has a say.
use Rattle.std.specs.Prelude.{◌≡◌, ℕ, zero, suc, ◌+◌, ◌-◌, ◌^◌, ◌<◌, Bool, cond, List, length, Some}
use Rattle.prefix.specs.Kinds.{kind_at, is_reply, reports_before}
use Rattle.prefix.specs.Settings.{SettingBefore, number}
use Rattle.prefix.specs.declared.kind.Kind.{Kind}
use Rattle.prefix.specs.declared.kind.Kind.TheVariants.{Reply}

-- A point is a reply's position with a setting before it.
abbrev pub Point : List Kind → ℕ → List Bool → Type 0
Point ks k v = (kind_at ks k ≡ Some Reply) × SettingBefore ks k v

-- How many points stand at position k: 2 ^ u(k) at a reply, none elsewhere.
abbrev pub points_at : List Kind → ℕ → ℕ
points_at ks k = cond (is_reply ks k) (2 ^ reports_before ks k) 0

-- The sum of f over the positions 1 to k.
abbrev pub sum_to : (ℕ → ℕ) → ℕ → ℕ
sum_to f zero = 0
sum_to f (suc i) = sum_to f i + f (suc i)

-- T, how many points there are.
abbrev pub point_count : List Kind → ℕ
point_count ks = sum_to (points_at ks) (length ks)

-- The number of a point: how many points stand at the positions before its own, and the number of its setting.
abbrev pub point_number : List Kind → ℕ → List Bool → ℕ
point_number ks k v = sum_to (points_at ks) (k - 1) + number v

-- The points and the numbers below T correspond one to one, so T is how many points there are.
pub record PointNumbering (ks : List Kind) : Type 0 where
  pub below : (k : ℕ) (v : List Bool) → Point ks k v → point_number ks k v < point_count ks
  pub apart : (j k : ℕ) (v w : List Bool) → Point ks j v → Point ks k w → point_number ks j v ≡ point_number ks k w → (j ≡ k) × (v ≡ w)
  pub each : (i : ℕ) → i < point_count ks → (k : ℕ) × (v : List Bool) × Point ks k v × (point_number ks k v ≡ i)
