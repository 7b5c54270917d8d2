-- The yes-no worth against policies.
use Rattle.std.specs.Prelude.{◌≡◌, ◌<◌, ◌≤◌, Bool, true, ◌↔◌, List, [], length, Result, MatchResult}
use Rattle.prefix.specs.Prefixes.{kinds}
use Rattle.prefix.specs.Lines.{part_line, kinds_after}
use Rattle.prefix.specs.Policies.{Winnable}
use Rattle.prefix.specs.declared.kind.Kind.{Kind}
use Rattle.prefix.specs.declared.part_line.PartLine.{PartLine}
use Rattle.prefix.specs.declared.prefix.Prefix.{Prefix}
use Rattle.worth.specs.Scales.{yes_no}
use Rattle.worth.specs.Faults.{refusal}
use Rattle.worth.specs.Worth.{worth, AllLost}
use Rattle.worth.specs.declared.fault.WorthFault.{WorthFault}

-- A sheet of prefix p has a winning policy.
abbrev pub WinnableOf : (List Bool → Bool) → Prefix → Type 0
WinnableOf kept p = Winnable kept (kinds p) []

-- Some policy wins from a part line.
abbrev pub WinnableFrom : (List Bool → Bool) → Prefix → PartLine → Type 0
WinnableFrom kept p u = Winnable kept (kinds_after p u.length) (part_line p u)

-- The yes-no worth of a part line is yes exactly when some policy wins from there.
abbrev pub YesMeansWinnable : Type 0
YesMeansWinnable = (kept : List Bool → Bool) (ks : List Kind) (u : List Bool) → (worth yes_no kept ks u ≡ true) ↔ Winnable kept ks u

-- What a call that asks a sheet of prefix p whether some policy wins gives: yes exactly when the claim that one does holds.
-- The cells are left as by a call for a worth.
abbrev pub Told : Type 0 → Prefix → List Bool → List Bool → Result Bool WorthFault → Type 0
Told Claim p before after r =
    MatchResult r
    (λ won. (p.length ≤ length before) × ((won ≡ true) ↔ Claim) × AllLost yes_no after × (length after ≡ length before))
    (λ fault. (length before < p.length) × (refusal fault ≡ 14) × (after ≡ before))
