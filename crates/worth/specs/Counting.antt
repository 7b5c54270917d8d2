-- The count against policies.
use Rattle.std.specs.Prelude.{◌≡◌, Bool, ◌↔◌, List}
use Rattle.prefix.specs.Policies.{Winnable}
use Rattle.prefix.specs.declared.kind.Kind.{Kind}
use Rattle.worth.specs.Counts.{capped, count}
use Rattle.worth.specs.Worth.{worth}

-- The count of a part line is 0 exactly when no policy wins from there.
abbrev pub NoneCounted : Type 0
NoneCounted = (kept : List Bool → Bool) (ks : List Kind) (u : List Bool) → (worth count kept ks u ≡ capped 0) ↔ (Winnable kept ks u → ⊥)
