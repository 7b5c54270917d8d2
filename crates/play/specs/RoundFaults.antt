-- The number of each refusal of a round's calls.
use Rattle.std.specs.Prelude.{ℕ, List, codes}
use Rattle.play.specs.declared.round_fault.RoundFault.{RoundFault}
use Rattle.play.specs.declared.round_fault.RoundFault.TheVariants.{Complete, OtherTurn, BackTooFar}

abbrev pub refusal : RoundFault → ℕ
refusal Complete = 18
refusal OtherTurn = 19
refusal BackTooFar = 20

-- What each says.
abbrev pub message : RoundFault → List ℕ
message Complete = codes "the round is complete"
message OtherTurn = codes "it is the other side's turn"
message BackTooFar = codes "fewer values stand than are to be kept"
