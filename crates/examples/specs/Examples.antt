-- What a worked example says, in the definitions that the contracts of `settle`, `write_book`, `pass`, `write_number` and
-- `read_rows` cite.
use Rattle.std.specs.Prelude.{◌≡◌, ℕ, List}
use Rattle.prefix.specs.Prefixes.{kinds}
use Rattle.worth.specs.Counts.{count}
use Rattle.worth.specs.Worth.{worth_of}
use Rattle.book.specs.RowGuards.{row_guards}
use Rattle.book.specs.declared.row.Row.{Row}
use Rattle.book_file.specs.Faults.{book_fault_number, book_fault_place}
use Rattle.book_file.specs.Files.{Says}
use Rattle.book_file.specs.Numbers.{IsNumber}
use Rattle.book_file.specs.Refusing.{HasFault}
use Rattle.book_file.specs.declared.fault.BookFault.{BookFault}
use Rattle.play.specs.Checking as checking
use Rattle.play.specs.SearchFaults.{refusal}
use Rattle.play.specs.declared.search_fault.SearchFault.{SearchFault}
use Rattle.play.specs.declared.verdict.Verdict.{Verdict}
use Rattle.jobs.specs.Choices.{SearchedChoices}
use Rattle.jobs.specs.OnSheet.{OnSheet}
use Rattle.jobs.specs.WritingBooks as writing
use Rattle.jobs.specs.declared.choice.Choice.{Choice}
use Rattle.examples.specs.declared.example.Example.{Example}
use Rattle.examples.specs.declared.example.Example.TheVariants.{Settled, Counted, NoneFound, Judged, Coded, Unread}

-- On the sheet that the text says so many policies are counted.
abbrev pub CountOf : List ℕ → ℕ → Type 0
CountOf t n = OnSheet t (λ kept p. (worth_of count kept p).value ≡ n)

-- And these are the choices of the policy that a search finds.
abbrev pub SettlementOf : List ℕ → ℕ → List Choice → Type 0
SettlementOf t n cs = OnSheet t (λ kept p. ((worth_of count kept p).value ≡ n) × SearchedChoices kept (kinds p) cs)

-- No policy wins on it, and a search is refused with the number n.
abbrev pub RefusalOf : List ℕ → ℕ → Type 0
RefusalOf t n = OnSheet t (λ kept p. (f : SearchFault) × writing.NoneFound kept p f × (refusal f ≡ n))

-- The file says rows, and on these this verdict is.
abbrev pub VerdictOf : List ℕ → List ℕ → Verdict → Type 0
VerdictOf t file v = OnSheet t (λ kept p. (rows : List Row) × Says file p rows × checking.Judged kept (row_guards p rows) (kinds p) v)

-- The file has a fault, of this number and place.
abbrev pub FaultOf : List ℕ → ℕ → ℕ → Type 0
FaultOf file n k = (f : BookFault) × HasFault file f × (book_fault_number f ≡ n) × (book_fault_place f ≡ k)

abbrev pub Holds : Example → Type 0
Holds (Settled t n cs) = SettlementOf t.now n cs.now
Holds (Counted t n) = CountOf t.now n
Holds (NoneFound t n) = RefusalOf t.now n
Holds (Judged t b v) = VerdictOf t.now b.now v
Holds (Coded n b) = IsNumber n b.now
Holds (Unread b n k) = FaultOf b.now n k
