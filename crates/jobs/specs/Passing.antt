-- What a book's file comes to on the sheet of a text.
use Rattle.std.specs.Prelude.{◌≡◌, ◌↔◌, ℕ, Bool, List, Ok, Err, Result}
use Rattle.prefix.specs.Prefixes.{kinds}
use Rattle.prefix.specs.declared.prefix.Prefix.{Prefix}
use Rattle.sheet_text.specs.Refusing as text
use Rattle.book.specs.Guards.{Guards, SameGuards}
use Rattle.book.specs.RowGuards.{row_guards}
use Rattle.book.specs.declared.row.Row.{Row}
use Rattle.book_file.specs.Files.{Says}
use Rattle.book_file.specs.Listing.{Listed}
use Rattle.book_file.specs.Refusing as file
use Rattle.play.specs.CheckFaults.{Refused}
use Rattle.play.specs.Checking.{Judged, Concludes}
use Rattle.play.specs.declared.check_fault.CheckFault.{CheckFault}
use Rattle.play.specs.declared.verdict.Verdict.{Verdict}
use Rattle.jobs.specs.OnSheet.{OnSheet}
use Rattle.jobs.specs.declared.fault.JobFault.{JobFault}
use Rattle.jobs.specs.declared.fault.JobFault.TheVariants as fault
use Rattle.jobs.specs.declared.judgement.Judgement.{Judgement}

-- The verdict is v on every book whose guards at every point are g, and no other one is.
abbrev pub VerdictOfAlike : (List Bool → Bool) → Guards → Prefix → Verdict → Type 0
VerdictOfAlike kept g p v = (h : Guards) → SameGuards (kinds p) g h → (w : Verdict) → Judged kept h (kinds p) w ↔ (w ≡ v)

-- The same on every book that is listed as the rows which the bytes say: one that is listed, written, read and checked gets
-- the verdict of the book itself.
abbrev pub VerdictOfListed : (List Bool → Bool) → List ℕ → Prefix → Verdict → Type 0
VerdictOfListed kept bytes p v = (h : Guards) (rows : List Row) → Says bytes p rows → Listed p h rows → (w : Verdict) → Judged kept h (kinds p) w ↔ (w ≡ v)

-- The judgement of the rows that a file says, on a sheet of prefix p: the file's prefix is the sheet's.
pub record Judges (kept : List Bool → Bool) (p : Prefix) (bytes : List ℕ) (j : Judgement) : Type 0 where
  pub prefix : j.prefix ≡ p
  pub rows : List Row
  pub says : Says bytes p rows
  pub concludes : Concludes kept (row_guards p rows) (kinds p) j.checked
  pub of_alike : VerdictOfAlike kept (row_guards p rows) p j.checked.verdict
  pub of_listed : VerdictOfListed kept bytes p j.checked.verdict

-- The file says a book of another prefix than p.
pub record OtherPrefix (p : Prefix) (bytes : List ℕ) (f : CheckFault) : Type 0 where
  pub prefix : Prefix
  pub rows : List Row
  pub says : Says bytes prefix rows
  pub refused : Refused p prefix f

-- The judgement; the fault that the text has, whole; where the text says a sheet, the fault that the file has, whole; where
-- both are as they should be, that their prefixes differ; or no memory was to be had.
abbrev pub Passed : List ℕ → List ℕ → Result Judgement JobFault → Type 0
Passed t bytes (Ok j) = OnSheet t (λ kept p. Judges kept p bytes j)
Passed t bytes (Err (fault.Sheet f)) = text.HasFault t f
Passed t bytes (Err (fault.Book f)) = OnSheet t (λ kept p. file.HasFault bytes f)
Passed t bytes (Err (fault.Check f)) = OnSheet t (λ kept p. OtherPrefix p bytes f)
Passed t bytes (Err (fault.Search f)) = ⊥
Passed t bytes (Err fault.Memory) = Unit {0}
