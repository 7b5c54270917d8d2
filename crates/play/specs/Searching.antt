-- The policy that search looks for.
use Rattle.std.specs.Prelude.{ℕ, ◌-◌, Bool, true, Decides, List, [], ◌∷◌, ◌++◌, take, drop}
use Rattle.prefix.specs.Points.{Point}
use Rattle.prefix.specs.Policies.{Policy, line, Winnable}
use Rattle.prefix.specs.declared.kind.Kind.{Kind}

-- On can still win at a point: some policy wins from the part line so far, with the replies before the point as the
-- policy p has them, and then on.
abbrev pub OnCanWin : (List Bool → Bool) → List Kind → Policy → ℕ → List Bool → Type 0
OnCanWin kept ks p k v = Winnable kept (drop k ks) (line (take (k - 1) ks) p v ++ true ∷ [])

-- A policy is on exactly where on can still win.
abbrev pub OnWhereItCanWin : (List Bool → Bool) → List Kind → Policy → Type 0
OnWhereItCanWin kept ks p = (k : ℕ) (v : List Bool) → Point ks k v → Decides (p k v) (OnCanWin kept ks p k v)
