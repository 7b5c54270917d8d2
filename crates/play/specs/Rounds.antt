-- The plain round: a list of values, at first empty, fed only the calls with their arguments and what a book means.
use Rattle.std.specs.Prelude.{ℕ, suc, Bool, cond, List, [], ◌∷◌, ◌++◌, length, take, Some, None, Option, nat_le}
use Rattle.prefix.specs.Kinds.{kind_at, report_values}
use Rattle.prefix.specs.declared.kind.Kind.{Kind}
use Rattle.prefix.specs.declared.kind.Kind.TheVariants as kind
use Rattle.book.specs.Guards.{Guards}
use Rattle.book.specs.declared.side.Side.TheVariants.{On}
use Rattle.play.specs.declared.call.Answer.{Answer}
use Rattle.play.specs.declared.call.Answer.TheVariants.{Told, Replied, WentBack, Refused}
use Rattle.play.specs.declared.call.Call.{Call}
use Rattle.play.specs.declared.call.Call.TheVariants.{Tell, Reply, Back}
use Rattle.play.specs.declared.round_fault.RoundFault.TheVariants.{Complete, OtherTurn, BackTooFar}

-- What a call comes to: its answer, and the values that then stand.
pub record Outcome : Type 0 where
  pub answer : Answer
  pub values : List Bool

-- The kind of the position after the values w, if there is one.
abbrev pub next : List Kind → List Bool → Option Kind
next ks w = kind_at ks (suc (length w))

-- Telling x after the values w, by the kind that is next.
abbrev pub tell_outcome : Bool → List Bool → Option Kind → Outcome
tell_outcome x w None = record { answer = Refused Complete; values = w }
tell_outcome x w (Some kind.Reply) = record { answer = Refused OtherTurn; values = w }
tell_outcome x w (Some kind.Report) = record { answer = Told; values = w ++ x ∷ [] }

-- Replying x, which is what the on-guard says, after the values w, by the kind that is next.
abbrev pub reply_outcome : Bool → List Bool → Option Kind → Outcome
reply_outcome x w None = record { answer = Refused Complete; values = w }
reply_outcome x w (Some kind.Report) = record { answer = Refused OtherTurn; values = w }
reply_outcome x w (Some kind.Reply) = record { answer = Replied x; values = w ++ x ∷ [] }

-- Keeping the first p of the values w.
abbrev pub back_outcome : ℕ → List Bool → Outcome
back_outcome p w = cond (nat_le p (length w)) (record { answer = WentBack; values = take p w }) (record { answer = Refused BackTooFar; values = w })

-- A call after the values w, with a book's guards.
abbrev pub outcome : List Kind → Guards → List Bool → Call → Outcome
outcome ks g w (Tell x) = tell_outcome x w (next ks w)
outcome ks g w Reply = reply_outcome (g On (suc (length w)) (report_values ks w)) w (next ks w)
outcome ks g w (Back p) = back_outcome p w

-- The answers to calls that are made one after the other, and the values that stand after them.
abbrev pub answers : List Kind → Guards → List Bool → List Call → List Answer
answers ks g w [] = []
answers ks g w (c ∷ cs) = (outcome ks g w c).answer ∷ answers ks g (outcome ks g w c).values cs

abbrev pub values_after : List Kind → Guards → List Bool → List Call → List Bool
values_after ks g w [] = w
values_after ks g w (c ∷ cs) = values_after ks g (outcome ks g w c).values cs
