-- How many points a prefix has at most.
use Rattle.std.proofs.Common.{ℕ, ◌^◌, ◌≤◌, refl, pow_mono}
use Rattle.prefix.specs.Points.{point_count}
use Rattle.prefix.specs.Prefixes.{kinds}
use Rattle.prefix.specs.declared.prefix.Prefix.{Prefix}
use Rattle.prefix.proofs.ReplySums.{few_of_replies}

pub most_points : (p : Prefix) → point_count (kinds p) ≤ 49152
most_points = few_of_replies (λ (r : ℕ). 2 ^ r) (λ u r h. pow_mono h) 49152 refl
