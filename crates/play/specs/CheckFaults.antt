-- The number of each refusal of a check, and when it is given.
use Rattle.std.specs.Prelude.{ℕ, ◌≢◌, List, codes}
use Rattle.prefix.specs.declared.prefix.Prefix.{Prefix}
use Rattle.play.specs.declared.check_fault.CheckFault.{CheckFault}
use Rattle.play.specs.declared.check_fault.CheckFault.TheVariants.{PrefixesDiffer}

abbrev pub refusal : CheckFault → ℕ
refusal PrefixesDiffer = 13

-- What each says.
abbrev pub message : CheckFault → List ℕ
message PrefixesDiffer = codes "the sheet and the book have different prefixes"

-- Why a book of prefix q is not checked for a sheet of prefix p.
abbrev pub Refused : Prefix → Prefix → CheckFault → Type 0
Refused p q PrefixesDiffer = p ≢ q
