-- What the contracts leave the calls to answer on a worked example.
use Rattle.std.specs.Prelude.{◌≡◌, ℕ, ◌⊎◌, List, Some, Result, MatchResult}
use Rattle.book.specs.declared.row.Row.{Row}
use Rattle.book_file.specs.Faults.{book_fault_number, book_fault_place}
use Rattle.book_file.specs.Numbers.{IsNumber}
use Rattle.book_file.specs.Reading.{Read}
use Rattle.book_file.specs.declared.fault.BookFault.{BookFault}
use Rattle.book_file.specs.declared.reading.Reading.{Reading}
use Rattle.play.specs.declared.verdict.Verdict.{Verdict}
use Rattle.jobs.specs.Faults.{job_number}
use Rattle.jobs.specs.Inputs.{taken}
use Rattle.jobs.specs.Passing.{Passed}
use Rattle.jobs.specs.Settling as settling
use Rattle.jobs.specs.WritingBooks.{BookWritten}
use Rattle.jobs.specs.declared.choice.Choice.{Choice}
use Rattle.jobs.specs.declared.fault.JobFault.{JobFault}
use Rattle.jobs.specs.declared.fault.JobFault.TheVariants.{Memory}
use Rattle.jobs.specs.declared.judgement.Judgement.{Judgement}
use Rattle.jobs.specs.declared.settling.Settlement.{Settlement}
use Rattle.jobs.specs.declared.writing_books.BookFile.{BookFile}
use Rattle.examples.specs.declared.example.Example.{Example}
use Rattle.examples.specs.declared.example.Example.TheVariants.{Settled, Counted, NoneFound, Judged, Coded, Unread}

-- `settle` answers this count, with these choices, or that there is no memory.
abbrev pub SettledOnly : List ℕ → ℕ → List Choice → Type 0
SettledOnly t n cs = (r : Result Settlement JobFault) → settling.Settled (taken t) r
    → MatchResult r (λ s. (s.policies.value ≡ n) × (s.choices.items ≡ cs)) (λ f. f ≡ Memory)

abbrev pub CountedOnly : List ℕ → ℕ → Type 0
CountedOnly t n = (r : Result Settlement JobFault) → settling.Settled (taken t) r → MatchResult r (λ s. s.policies.value ≡ n) (λ f. f ≡ Memory)

-- `write_book` is refused with this number, or answers that there is no memory.
abbrev pub RefusedOnly : List ℕ → ℕ → Type 0
RefusedOnly t n = (r : Result BookFile JobFault) → BookWritten (taken t) r → MatchResult r (λ _. ⊥) (λ f. (f ≡ Memory) ⊎ (job_number f ≡ Some n))

-- `pass` answers this verdict, or that there is no memory.
abbrev pub JudgedOnly : List ℕ → List ℕ → Verdict → Type 0
JudgedOnly t b v = (r : Result Judgement JobFault) → Passed (taken t) (taken b) r → MatchResult r (λ j. j.checked.verdict ≡ v) (λ f. f ≡ Memory)

-- `read_rows` is refused with this number and place, whatever table it is lent.
abbrev pub UnreadOnly : List ℕ → ℕ → ℕ → Type 0
UnreadOnly file n k = (r : Result Reading BookFault) (before after : List Row) → Read file r before after
    → MatchResult r (λ _. ⊥) (λ f. (book_fault_number f ≡ n) × (book_fault_place f ≡ k))

abbrev pub Only : Example → Type 0
Only (Settled t n cs) = SettledOnly t.now n cs.now
Only (Counted t n) = CountedOnly t.now n
Only (NoneFound t n) = RefusedOnly t.now n
Only (Judged t b v) = JudgedOnly t.now b.now v
Only (Coded n b) = (m : ℕ) → IsNumber m b.now → m ≡ n
Only (Unread b n k) = UnreadOnly b.now n k
