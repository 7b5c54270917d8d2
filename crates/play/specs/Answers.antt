-- The number of each answer of a round's calls, and its value.
use Rattle.std.specs.Prelude.{ℕ, Bool, Some, None, Option, nat_le}
use Rattle.play.specs.RoundFaults.{refusal}
use Rattle.play.specs.declared.call.Answer.{Answer}
use Rattle.play.specs.declared.call.Answer.TheVariants.{Told, Replied, WentBack, Refused}

abbrev pub answer_number : Answer → ℕ
answer_number Told = 0
answer_number (Replied x) = 1
answer_number WentBack = 2
answer_number (Refused f) = refusal f

-- The value that was replied.
abbrev pub answer_value : Answer → Option Bool
answer_value Told = None
answer_value (Replied x) = Some x
answer_value WentBack = None
answer_value (Refused f) = None

-- The numbers from 18 on are refusals.
abbrev pub is_refused : Answer → Bool
is_refused a = nat_le 18 (answer_number a)
