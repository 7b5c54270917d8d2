-- Where a search puts records.
use Rattle.std.proofs.Common.{ℕ, ◌*◌, ◌^◌, ◌≤◌, ◌<◌, List, arith, pow_mono}
use Rattle.std.proofs.Math.Nat.{mul-le-mul_left}
use Rattle.std.proofs.lemmas.Nat.{le-div, pow_pos}
use Rattle.prefix.specs.Kinds.{report_count, reports_before}
use Rattle.prefix.specs.declared.kind.Kind.{Kind}
use Rattle.prefix.specs.Prefixes.{kinds}
use Rattle.prefix.specs.declared.prefix.Prefix.{Prefix}
use Rattle.prefix.proofs.Positions.{before_le, count-whole}
use Rattle.book.specs.RecordPlaces.{later_settings}

pub some_later : (ks : List Kind) (k : ℕ) → 1 ≤ later_settings ks k
some_later ks k =
    let fewer : 2 ^ reports_before ks k ≤ 2 ^ report_count ks = pow_mono (before_le ks k) in
    le-div 1 (2 ^ report_count ks) (2 ^ reports_before ks k) (pow_pos (reports_before ks k)) (omega arith)

-- The number of a setting before a position is small.
pub few_numbers : (p : Prefix) (k s : ℕ) → s < 2 ^ reports_before (kinds p) k → s ≤ 4096
few_numbers p k s h =
    let few : reports_before (kinds p) k ≤ 12 = omega (arith, before_le (kinds p) k, count-whole p.length p.reports p.ok.2, p.ok.3) in
    let least : 2 ^ reports_before (kinds p) k ≤ 2 ^ 12 = pow_mono few in
    omega (arith, least)

-- The number of the first setting that has a point is small too.
pub few_first : (p : Prefix) (k s later : ℕ) → s < 2 ^ reports_before (kinds p) k → later ≤ 4096 → s * later ≤ 4096 * 4096
few_first p k s later h l =
    let few : s * later ≤ s * 4096 = mul-le-mul_left s l in
    let small : s ≤ 4096 = few_numbers p k s h in
    omega (arith, few, small)
