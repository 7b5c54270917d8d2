-- Settings and their numbers.
use Rattle.std.specs.Prelude.{◌≡◌, ℕ, ◌+◌, ◌^◌, ◌<◌, Bool, cond, List, [], ◌∷◌, length}
use Rattle.prefix.specs.Kinds.{report_count, reports_before}
use Rattle.prefix.specs.declared.kind.Kind.{Kind}

-- A setting gives a value to every report, in order.
abbrev pub Setting : List Kind → List Bool → Type 0
Setting ks v = length v ≡ report_count ks

-- A setting before position k gives a value to every report before it.
abbrev pub SettingBefore : List Kind → ℕ → List Bool → Type 0
SettingBefore ks k v = length v ≡ reports_before ks k

-- The number of a setting: read in base two, on as 1, the first report weighing most.
abbrev pub number : List Bool → ℕ
number [] = 0
number (x ∷ v) = cond x (2 ^ length v) 0 + number v

-- The settings of r reports and the numbers below 2 ^ r correspond one to one.
pub record Numbering (r : ℕ) : Type 0 where
  pub below : (v : List Bool) → length v ≡ r → number v < 2 ^ r
  pub apart : (v w : List Bool) → length v ≡ r → length w ≡ r → number v ≡ number w → v ≡ w
  pub each : (s : ℕ) → s < 2 ^ r → (v : List Bool) × (length v ≡ r) × (number v ≡ s)
