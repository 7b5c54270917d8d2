-- Counts are equal where their numbers are, and the count scale is lawful.
use Rattle.std.specs.Prelude.{◌≡◌, ℕ, ◌+◌, ◌*◌, ◌≤◌}
use Rattle.std.proofs.Common.{ap, subst, zero-mul, mul-zero, arith}
use Rattle.std.proofs.Math.Bridge.{le_prop}
use Rattle.worth.specs.Scales.{Lawful}
use Rattle.worth.specs.Counts.{capped, count}
use Rattle.worth.specs.declared.policy_count.PolicyCount.{PolicyCount}

pub same_count : (a b : PolicyCount) → a.value ≡ b.value → a ≡ b
same_count a b e =
    subst (λ (n : ℕ). (q : n ≤ 1000000) → a ≡ record { value = n; ok = q }) e
    (λ q. ap (λ (p : a.value ≤ 1000000). record { value = a.value; ok = p }) (le_prop a.ok q)) b.ok

pub count_lawful : Lawful count
count_lawful = record {
  lost-either = λ a. same_count (capped (0 + a.value)) a (let h = a.ok in omega arith);
  either-lost = λ a. same_count (capped (a.value + 0)) a (let h = a.ok in omega arith);
  lost-both = λ a. same_count (capped (0 * a.value)) (capped 0) (omega (arith, zero-mul a.value));
  both-lost = λ a. same_count (capped (a.value * 0)) (capped 0) (omega (arith, mul-zero a.value));
}

-- At the limit nothing is added.
pub count_full : (a : PolicyCount) → a.value ≡ 1000000 → (b : PolicyCount) → count.either a b ≡ a
count_full a e b = same_count (capped (a.value + b.value)) a (omega arith)
