-- What stands at the front of a table or of a buffer.
use Rattle.std.specs.Prelude.{◌≡◌, ℕ, ◌≤◌, List, ◌++◌, length, drop}

-- The elements xs stand at the front, n of them, and the rest is as it was.
pub record AtFront {A : Type 0} (xs : List A) (n : ℕ) (before after : List A) : Type 0 where
  pub count : n ≡ length xs
  pub room : n ≤ length before
  pub all : after ≡ xs ++ drop n before
