-- Sums over positions, and points counted by one.
use Rattle.std.proofs.Common.{◌≡◌, ℕ, zero, suc, ◌+◌, ◌-◌, ◌≤◌, ◌<◌, sym, ap, ⊎_elim, arith}
use Rattle.std.proofs.lemmas.Bool.{cases_lt}
use Rattle.prefix.specs.Points.{points_at, sum_to, point_count}
use Rattle.prefix.specs.Prefixes.{kinds_of}
use Rattle.prefix.proofs.Positions.{length-kinds}

pub sum_next : (f : ℕ → ℕ) (k : ℕ) → 1 ≤ k → sum_to f (k - 1) + f k ≡ sum_to f k
sum_next f zero h = absurd (omega arith)
sum_next f (suc i) h = let e : suc i - 1 ≡ i = omega arith in ap (λ (j : ℕ). sum_to f j + f (suc i)) e

-- A sum over more positions is no smaller.
pub sum_grows : (f : ℕ → ℕ) (a b : ℕ) → a ≤ b → sum_to f a ≤ sum_to f b
sum_grows f a zero h = let e : a ≡ 0 = omega arith in omega (arith, ap (sum_to f) e)
sum_grows f a (suc b) h =
    ⊎_elim (λ (l : a < suc b). omega (arith, sum_grows f a b (omega arith)))
    (λ (l : suc b ≤ a). let e : a ≡ suc b = omega arith in omega (arith, ap (sum_to f) e))
    (cases_lt a (suc b))

pub points_all : (n m : ℕ) → sum_to (points_at (kinds_of n m)) n ≡ point_count (kinds_of n m)
points_all n m = ap (sum_to (points_at (kinds_of n m))) (sym (length-kinds n m))
