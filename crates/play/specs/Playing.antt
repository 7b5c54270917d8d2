-- What playing calls from an opening gives.
use Rattle.std.specs.Prelude.{◌≡◌, ℕ, Bool, true, List, [], ◌++◌, length, take, drop, Some, slice_get}
use Rattle.std.specs.Borrow.{Bor}
use Rattle.prefix.specs.declared.kind.Kind.{Kind}
use Rattle.prefix.specs.declared.part_line.PartLine.{PartLine}
use Rattle.prefix.specs.declared.prefix.Prefix.{Prefix}
use Rattle.book.specs.Guards.{Guards}
use Rattle.play.specs.Chains.{values_of, values, Made, Chain, calls_of, answers_of, Opened, RefusedExactly}
use Rattle.play.specs.Rounds as plain
use Rattle.play.specs.declared.call.Answer.{Answer}
use Rattle.play.specs.declared.call.Call.{Call}
use Rattle.play.specs.declared.round.Round.{Round}

-- These calls, with the answers given, are a chain from an opening on the sheet and the book, after which these values stand.
pub record ByChain {F B : Type 0} (prefix : B → Prefix) (guards : B → Guards) (kept : F → List Bool → Bool) (sheet : Bor F) (book : Bor B) (calls : List Call) (given : List Answer) (so_far : PartLine) : Type 0 where
  pub first : Round F B
  pub opened : Opened prefix guards kept sheet book first
  pub made : List Made
  pub last : Round F B
  pub chain : Chain prefix guards first made last
  pub calls_made : calls_of made ≡ calls
  pub answers_given : answers_of made ≡ given
  pub last_values : values_of so_far ≡ values last

-- What that comes to: answers and values are those of the plain round; the answers past these calls are as before; after
-- however many of the calls no broken line is completed; and each is refused exactly where it should be.
pub record PlayedAll (kept : List Bool → Bool) (g : Guards) (ks : List Kind) (calls : List Call) (before after : List Answer) (so_far : PartLine) : Type 0 where
  pub answers : after ≡ plain.answers ks g [] calls ++ drop (length calls) before
  pub values_are : values_of so_far ≡ plain.values_after ks g [] calls
  pub unbroken : (i : ℕ) → length (plain.values_after ks g [] (take i calls)) ≡ length ks → kept (plain.values_after ks g [] (take i calls)) ≡ true
  pub each : (i : ℕ) (c : Call) (a : Answer) → slice_get calls i ≡ Some c → slice_get after i ≡ Some a → RefusedExactly ks (plain.values_after ks g [] (take i calls)) c a
