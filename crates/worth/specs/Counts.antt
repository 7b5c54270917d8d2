-- The count scale: sums and products, each cut down to 1,000,000.
use Rattle.std.specs.Prelude.{ℕ, ◌+◌, ◌*◌, min}
use Rattle.std.proofs.Math.Nat.{min-le_right}
use Rattle.worth.specs.Scales.{Joins}
use Rattle.worth.specs.declared.policy_count.PolicyCount.{PolicyCount}

-- A number as a count: cut down to the limit.
abbrev pub capped : ℕ → PolicyCount
capped n = record { value = min n 1000000; ok = min-le_right n 1000000 }

-- The count scale.
abbrev pub count : Joins PolicyCount
count = record {
  won = capped 1;
  lost = capped 0;
  either = λ a b. capped (a.value + b.value);
  both = λ a b. capped (a.value * b.value);
}
