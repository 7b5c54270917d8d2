-- Chains of calls on a round, and the law that they keep.
use Rattle.std.specs.Prelude.{◌≡◌, suc, Bool, true, not, List, [], map, length, Ok, Err, Result, nat_le}
use Rattle.std.specs.Borrow.{Bor}
use Rattle.std.specs.List.{FoldsTo}
use Rattle.prefix.specs.Bits.{bits}
use Rattle.prefix.specs.Kinds.{is_report, is_reply}
use Rattle.prefix.specs.Prefixes.{kinds}
use Rattle.prefix.specs.declared.kind.Kind.{Kind}
use Rattle.prefix.specs.declared.part_line.PartLine.{PartLine}
use Rattle.prefix.specs.declared.prefix.Prefix.{Prefix}
use Rattle.book.specs.Guards.{Guards}
use Rattle.play.specs.Answers.{is_refused}
use Rattle.play.specs.Rounds as plain
use Rattle.play.specs.declared.call.Answer.{Answer}
use Rattle.play.specs.declared.call.Answer.TheVariants as answer
use Rattle.play.specs.declared.call.Call.{Call}
use Rattle.play.specs.declared.call.Call.TheVariants.{Tell, Reply, Back}
use Rattle.play.specs.declared.round.Round.{Round}
use Rattle.play.specs.declared.round_fault.RoundFault.{RoundFault}

-- The values of a part line.
abbrev pub values_of : PartLine → List Bool
values_of u = bits u.length u.line.mask

-- The values of a round.
abbrev pub values : {F B : Type 0} → Round F B → List Bool
values r = values_of r.so_far

-- The result of a call, as an answer.
abbrev pub tell_answer : Result (Unit {0}) RoundFault → Answer
tell_answer (Ok _) = answer.Told
tell_answer (Err f) = answer.Refused f

abbrev pub reply_answer : Result Bool RoundFault → Answer
reply_answer (Ok x) = answer.Replied x
reply_answer (Err f) = answer.Refused f

abbrev pub back_answer : Result (Unit {0}) RoundFault → Answer
back_answer (Ok _) = answer.WentBack
back_answer (Err f) = answer.Refused f

-- One call of a round: answer and values are those of the plain round, sheet and book stay, and after a refusal the whole
-- round is as before.
pub record Link {F B : Type 0} (prefix : B → Prefix) (guards : B → Guards) (before : Round F B) (call : Call) (a : Answer) (after : Round F B) : Type 0 where
  pub sheet : after.sheet ≡ before.sheet
  pub book : after.book ≡ before.book
  pub answer : a ≡ (plain.outcome (kinds (prefix before.book.now)) (guards before.book.now) (values before) call).answer
  pub values_are : values after ≡ (plain.outcome (kinds (prefix before.book.now)) (guards before.book.now) (values before) call).values
  pub refused : is_refused a ≡ true → after ≡ before

-- A call that was made, and what it answered.
pub record Made : Type 0 where
  pub call : Call
  pub answer : Answer

-- Calls made one after the other, each on the round that the one before it left, refused ones too.
abbrev pub Chain : {F B : Type 0} → (B → Prefix) → (B → Guards) → Round F B → List Made → Round F B → Type 0
Chain {F} {B} prefix guards r made t = FoldsTo (λ (x : Round F B) (c : Made) (y : Round F B). Link prefix guards x c.call c.answer y) r made t

abbrev pub calls_of : List Made → List Call
calls_of made = map (λ c. c.call) made

abbrev pub answers_of : List Made → List Answer
answers_of made = map (λ c. c.answer) made

-- After the values w, tell is refused exactly where no report stands next, reply exactly where no reply does, and back exactly
-- where fewer values stand than are to be kept.
abbrev pub RefusedExactly : List Kind → List Bool → Call → Answer → Type 0
RefusedExactly ks w (Tell x) a = is_refused a ≡ not (is_report ks (suc (length w)))
RefusedExactly ks w Reply a = is_refused a ≡ not (is_reply ks (suc (length w)))
RefusedExactly ks w (Back p) a = is_refused a ≡ not (nat_le p (length w))

-- What holds after a chain of calls from an opening on a sheet and a book, and so after each of its calls: they are
-- unaltered; answers and values are those of the plain round given the same calls; no broken line is completed; and a call
-- that follows is refused exactly where it should be.
pub record Lawful {F B : Type 0} (prefix : B → Prefix) (guards : B → Guards) (kept : F → List Bool → Bool) (sheet : Bor F) (book : Bor B) (made : List Made) (t : Round F B) : Type 0 where
  pub sheet_same : t.sheet ≡ sheet
  pub book_same : t.book ≡ book
  pub answers : answers_of made ≡ plain.answers (kinds (prefix book.now)) (guards book.now) [] (calls_of made)
  pub values_are : values t ≡ plain.values_after (kinds (prefix book.now)) (guards book.now) [] (calls_of made)
  pub unbroken : length (values t) ≡ length (kinds (prefix book.now)) → kept sheet.now (values t) ≡ true
  pub follows : (c : Call) (a : Answer) (u : Round F B) → Link prefix guards t c a u → RefusedExactly (kinds (prefix book.now)) (values t) c a

-- A round just opened on a sheet and a book, and the law that all chains from it keep.
pub record Opened {F B : Type 0} (prefix : B → Prefix) (guards : B → Guards) (kept : F → List Bool → Bool) (sheet : Bor F) (book : Bor B) (r : Round F B) : Type 0 where
  pub sheet_lent : r.sheet ≡ sheet
  pub book_lent : r.book ≡ book
  pub empty : values r ≡ []
  pub law : (made : List Made) (t : Round F B) → Chain prefix guards r made t → Lawful prefix guards kept sheet book made t
