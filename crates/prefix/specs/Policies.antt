-- Policies, the lines that they give, and winning.
use Rattle.std.specs.Prelude.{◌≡◌, ℕ, suc, Bool, true, false, List, [], ◌∷◌, ◌++◌, length, take, Some, slice_index_or}
use Rattle.prefix.specs.Kinds.{kind_at, report_values}
use Rattle.prefix.specs.Settings.{Setting}
use Rattle.prefix.specs.declared.kind.Kind.{Kind}
use Rattle.prefix.specs.declared.kind.Kind.TheVariants.{Report, Reply}

-- A policy gives a value at each point: from a reply's position and the values of the reports before it.
abbrev pub Policy : Type 0
Policy = ℕ → List Bool → Bool

-- What a policy says of the positions after the first: where that is a reply, and where it is a report of value x.
abbrev pub after_reply : Policy → Policy
after_reply p k v = p (suc k) v

abbrev pub after_report : Bool → Policy → Policy
after_report x p k v = p (suc k) (x ∷ v)

-- The line that a policy gives on a setting: reports as set, replies as the policy says at their points.
abbrev pub line : List Kind → Policy → List Bool → List Bool
line [] p s = []
line (Reply ∷ ks) p s = p 1 [] ∷ line ks (after_reply p) s
line (Report ∷ ks) p [] = []
line (Report ∷ ks) p (x ∷ s) = x ∷ line ks (after_report x p) s

-- From the part line u, with the kinds ks still to come, a policy for these wins:
-- whatever the reports still to come, u and then its line is kept.
abbrev pub WinsFrom : (List Bool → Bool) → List Kind → List Bool → Policy → Type 0
WinsFrom kept ks u p = (s : List Bool) → Setting ks s → kept (u ++ line ks p s) ≡ true

-- Some policy wins from there.
abbrev pub Winnable : (List Bool → Bool) → List Kind → List Bool → Type 0
Winnable kept ks u = (p : Policy) × WinsFrom kept ks u p

-- A policy wins: the line of every setting is kept.
abbrev pub Wins : (List Bool → Bool) → List Kind → Policy → Type 0
Wins kept ks p = WinsFrom kept ks [] p

-- w is a whole line with the setting's reports and the policy's replies.
pub record Plays (ks : List Kind) (p : Policy) (s w : List Bool) : Type 0 where
  pub whole : length w ≡ length ks
  pub reports : report_values ks w ≡ s
  pub replies : (i : ℕ) → kind_at ks (suc i) ≡ Some Reply → slice_index_or w i false ≡ p (suc i) (report_values ks (take i w))

-- The line above is such a line, and the only one.
pub record OneLine (ks : List Kind) : Type 0 where
  pub plays : (p : Policy) (s : List Bool) → Setting ks s → Plays ks p s (line ks p s)
  pub only : (p : Policy) (s w : List Bool) → Plays ks p s w → w ≡ line ks p s
