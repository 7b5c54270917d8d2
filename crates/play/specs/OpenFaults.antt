-- The number of each refusal of an opening, its verdict, and when it is given.
use Rattle.std.specs.Prelude.{◌≡◌, ℕ, Bool, List, ◌++◌, Some, None, Option, codes}
use Rattle.prefix.specs.Prefixes.{kinds}
use Rattle.prefix.specs.declared.prefix.Prefix.{Prefix}
use Rattle.book.specs.Guards.{Guards}
use Rattle.play.specs.CheckFaults as check
use Rattle.play.specs.Checking.{MeansWinning, Concludes}
use Rattle.play.specs.Verdicts.{verdict_text}
use Rattle.play.specs.declared.open_fault.OpenFault.{OpenFault}
use Rattle.play.specs.declared.open_fault.OpenFault.TheVariants.{Check, NotAccepted}
use Rattle.play.specs.declared.verdict.Verdict.{Verdict}

abbrev pub refusal : OpenFault → ℕ
refusal (Check f) = check.refusal f
refusal (NotAccepted c) = 17

-- The verdict on the book, where that is the reason.
abbrev pub refusal_verdict : OpenFault → Option Verdict
refusal_verdict (Check f) = None
refusal_verdict (NotAccepted c) = Some c.verdict

-- What each says.
abbrev pub message : OpenFault → List ℕ
message (Check f) = check.message f
message (NotAccepted c) = codes "the book is not accepted: " ++ verdict_text c.verdict

-- Why no round is opened on a sheet of prefix p with a book of prefix q.
abbrev pub Refused : (List Bool → Bool) → Guards → Prefix → Prefix → OpenFault → Type 0
Refused kept g p q (Check f) = check.Refused p q f
Refused kept g p q (NotAccepted c) = (p ≡ q) × (MeansWinning kept g (kinds p) → ⊥) × Concludes kept g (kinds p) c
