-- What every sheet owes to those who ask it.
use Rattle.std.specs.Prelude.{◌≡◌, ℕ, ◌+◌, Bool, true, false, not, List, ◌++◌, length}

-- Of a sheet over n positions: a whole line breaks it exactly when it is not kept,
-- and a part line only when no kept line begins with it.
pub record Sound (n : ℕ) (kept broken : List Bool → Bool) : Type 0 where
  pub whole : (v : List Bool) → length v ≡ n → broken v ≡ not (kept v)
  pub part : (u rest : List Bool) → length u + length rest ≡ n → broken u ≡ true → kept (u ++ rest) ≡ false
