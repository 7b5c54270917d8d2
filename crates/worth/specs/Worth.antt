-- The worth of a part line, and what a call that asks for it leaves.
use Rattle.std.specs.Prelude.{◌≡◌, ℕ, ◌<◌, ◌≤◌, Bool, true, false, cond, List, [], ◌∷◌, ◌++◌, length, Result, MatchResult, slice_index_or}
use Rattle.prefix.specs.Prefixes.{kinds}
use Rattle.prefix.specs.Lines.{part_line, kinds_after}
use Rattle.prefix.specs.declared.kind.Kind.{Kind}
use Rattle.prefix.specs.declared.kind.Kind.TheVariants.{Report, Reply}
use Rattle.prefix.specs.declared.part_line.PartLine.{PartLine}
use Rattle.prefix.specs.declared.prefix.Prefix.{Prefix}
use Rattle.worth.specs.Scales.{Joins}
use Rattle.worth.specs.Faults.{refusal}
use Rattle.worth.specs.declared.fault.WorthFault.{WorthFault}

-- The worth of the part line u, with the kinds ks still to come.
abbrev pub worth : {W : Type 0} → Joins W → (List Bool → Bool) → List Kind → List Bool → W
worth j kept [] u = cond (kept u) j.won j.lost
worth j kept (Reply ∷ ks) u = j.either (worth j kept ks (u ++ true ∷ [])) (worth j kept ks (u ++ false ∷ []))
worth j kept (Report ∷ ks) u = j.both (worth j kept ks (u ++ false ∷ [])) (worth j kept ks (u ++ true ∷ []))

-- The worth of a sheet of prefix p: that of the part line of no values.
abbrev pub worth_of : {W : Type 0} → Joins W → (List Bool → Bool) → Prefix → W
worth_of j kept p = worth j kept (kinds p) []

-- The worth of a part line on a sheet of prefix p.
abbrev pub worth_from : {W : Type 0} → Joins W → (List Bool → Bool) → Prefix → PartLine → W
worth_from j kept p u = worth j kept (kinds_after p u.length) (part_line p u)

-- Every cell holds the lost worth.
abbrev pub AllLost : {W : Type 0} → Joins W → List W → Type 0
AllLost j cells = (k : ℕ) → k < length cells → slice_index_or cells k j.lost ≡ j.lost

-- What a call that asks a sheet of prefix p for the worth w gives, and what it makes of the cells:
-- the worth, and there are as many cells as before, each of them lost; or refusal 14 where the cells are fewer than the positions, and they stay as they were.
abbrev pub Asked : {W : Type 0} → Joins W → Prefix → W → List W → List W → Result W WorthFault → Type 0
Asked j p w before after r =
    MatchResult r
    (λ got. (p.length ≤ length before) × (got ≡ w) × AllLost j after × (length after ≡ length before))
    (λ fault. (length before < p.length) × (refusal fault ≡ 14) × (after ≡ before))
