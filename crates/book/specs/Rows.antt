-- What rows mean.
use Rattle.std.specs.Prelude.{◌≡◌, ℕ, ◌<◌, true, List, Any}
use Rattle.prefix.specs.Bits.{mask_value}
use Rattle.prefix.specs.Kinds.{is_report, is_reply}
use Rattle.prefix.specs.Prefixes.{kinds}
use Rattle.prefix.specs.declared.prefix.Prefix.{Prefix}
use Rattle.book.specs.declared.side.Side.{Side}
use Rattle.book.specs.declared.row.Row.{Row}

-- The row is a reply's, looks at reports before that reply alone, and wants nothing on where it does not look.
pub record WellMade (p : Prefix) (r : Row) : Type 0 where
  pub reply : is_reply (kinds p) r.position ≡ true
  pub looks : (k : ℕ) → mask_value r.looked_at k ≡ true → (is_report (kinds p) k ≡ true) × (k < r.position)
  pub wants : (k : ℕ) → mask_value r.wanted_on k ≡ true → mask_value r.looked_at k ≡ true

-- The row is well made, and where it looks the mask m has the value wanted.
pub record Agrees (p : Prefix) (r : Row) (m : ℕ) : Type 0 where
  pub made : WellMade p r
  pub values : (k : ℕ) → mask_value r.looked_at k ≡ true → mask_value m k ≡ mask_value r.wanted_on k

-- Some row of the reply at position k and of the side agrees with the mask m.
abbrev pub SomeRow : Prefix → List Row → Side → ℕ → ℕ → Type 0
SomeRow p rows side k m = Any (λ (r : Row). (r.position ≡ k) × (r.side ≡ side) × Agrees p r m) rows
