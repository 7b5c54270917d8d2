-- Points in a list, in some order.
use Rattle.std.specs.Prelude.{◌≡◌, ℕ, Bool, List, All, AllPairs, Contains}

-- The list has what `at` makes of each chosen point, nothing else, and each comes before all that stand after it.
pub record Lists {X : Type 0} (Chosen : ℕ → List Bool → Type 0) (at : ℕ → List Bool → X) (Before : X → X → Type 0) (xs : List X) : Type 0 where
  pub each : (k : ℕ) (v : List Bool) → Chosen k v → Contains xs (at k v)
  pub only : All (λ x. (k : ℕ) × (v : List Bool) × Chosen k v × (x ≡ at k v)) xs
  pub order : AllPairs Before xs
