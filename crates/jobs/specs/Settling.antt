-- What settling the sheet of a text comes to.
use Rattle.std.specs.Prelude.{◌≡◌, ℕ, Bool, ◌↔◌, List, [], ◌∷◌, ◌++◌, Ok, Err, Result, codes, decimal}
use Rattle.std.specs.List.{flat_map}
use Rattle.prefix.specs.Prefixes.{kinds}
use Rattle.prefix.specs.declared.prefix.Prefix.{Prefix}
use Rattle.sheet_text.specs.Refusing.{HasFault}
use Rattle.worth.specs.Counts.{capped, count}
use Rattle.worth.specs.Winning.{WinnableOf}
use Rattle.worth.specs.Worth.{worth_of}
use Rattle.jobs.specs.Choices.{SearchedChoices, choice_text}
use Rattle.jobs.specs.OnSheet.{OnSheet}
use Rattle.jobs.specs.declared.choice.Choice.{Choice}
use Rattle.jobs.specs.declared.fault.JobFault.{JobFault}
use Rattle.jobs.specs.declared.fault.JobFault.TheVariants as fault
use Rattle.jobs.specs.declared.settling.Settlement.{Settlement}

-- A settlement of a sheet of prefix p: its worth on the count scale, which is 0 exactly where no policy wins, and the
-- choices of the policy that a search finds, or none where no policy wins.
pub record Settles (kept : List Bool → Bool) (p : Prefix) (r : Settlement) : Type 0 where
  pub policies : r.policies ≡ worth_of count kept p
  pub none : (r.policies ≡ capped 0) ↔ (WinnableOf kept p → ⊥)
  pub choices : WinnableOf kept p → SearchedChoices kept (kinds p) r.choices.items
  pub no_choices : (WinnableOf kept p → ⊥) → r.choices.items ≡ []

-- The settlement of the sheet that a text says; the fault that the text has, whole; or no memory was to be had.
abbrev pub Settled : List ℕ → Result Settlement JobFault → Type 0
Settled t (Ok r) = OnSheet t (λ kept p. Settles kept p r)
Settled t (Err (fault.Sheet f)) = HasFault t f
Settled t (Err (fault.Book f)) = ⊥
Settled t (Err (fault.Check f)) = ⊥
Settled t (Err (fault.Search f)) = ⊥
Settled t (Err fault.Memory) = Unit {0}

-- A choice on a line of its own, after a line end.
abbrev pub choice_line : Choice → List ℕ
choice_line c = 10 ∷ choice_text c

-- A settlement as it is printed.
abbrev pub settlement_text : Settlement → List ℕ
settlement_text s = (codes "policies " ++ decimal s.policies.value) ++ flat_map choice_line s.choices.items
