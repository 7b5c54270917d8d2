-- The file that is written of the sheet of a text.
use Rattle.std.specs.Prelude.{◌≡◌, ℕ, Bool, not, List, ◌++◌, length, Ok, Err, Result, codes, decimal}
use Rattle.prefix.specs.Policies.{Policy}
use Rattle.prefix.specs.Prefixes.{kinds}
use Rattle.prefix.specs.declared.prefix.Prefix.{Prefix}
use Rattle.sheet_text.specs.Refusing.{HasFault}
use Rattle.book.specs.Guards.{Guards}
use Rattle.book.specs.RowGuards.{row_guards}
use Rattle.book.specs.declared.row.Row.{Row}
use Rattle.book.specs.declared.side.Side.TheVariants.{On, Off}
use Rattle.book_file.specs.Files.{Says}
use Rattle.worth.specs.Winning.{WinnableOf}
use Rattle.play.specs.Checking.{MeansWinning}
use Rattle.play.specs.Found.{Searched}
use Rattle.play.specs.declared.search_fault.SearchFault.{SearchFault}
use Rattle.play.specs.declared.search_fault.SearchFault.TheVariants.{NoPolicy}
use Rattle.book_file.specs.Listing.{Listed}
use Rattle.jobs.specs.OnSheet.{OnSheet}
use Rattle.jobs.specs.declared.fault.JobFault.{JobFault}
use Rattle.jobs.specs.declared.fault.JobFault.TheVariants as fault
use Rattle.jobs.specs.declared.writing_books.BookFile.{BookFile}

-- The guards of a policy: yes on the one side where it is on, and on the other where it is off.
abbrev pub guards_of : Policy → Guards
guards_of policy On k v = policy k v
guards_of policy Off k v = not (policy k v)

-- The file says rows over the prefix p, as many as it counts. They mean a policy that wins, the one that a search finds, and
-- are what a book with the guards of that policy is listed as.
pub record SearchedFile (kept : List Bool → Bool) (p : Prefix) (f : BookFile) : Type 0 where
  pub rows : List Row
  pub says : Says f.bytes.items p rows
  pub count : f.rows ≡ length rows
  pub winning : MeansWinning kept (row_guards p rows) (kinds p)
  pub searched : Searched kept (kinds p) winning.policy
  pub listed : Listed p (guards_of winning.policy) rows

-- No policy wins, and the refusal says so.
abbrev pub NoneFound : (List Bool → Bool) → Prefix → SearchFault → Type 0
NoneFound kept p f = (f ≡ NoPolicy) × (WinnableOf kept p → ⊥)

-- The file of the sheet that the text says; the fault that the text has, whole; no policy wins on the sheet; or no memory was
-- to be had.
abbrev pub BookWritten : List ℕ → Result BookFile JobFault → Type 0
BookWritten t (Ok f) = OnSheet t (λ kept p. SearchedFile kept p f)
BookWritten t (Err (fault.Sheet f)) = HasFault t f
BookWritten t (Err (fault.Book f)) = ⊥
BookWritten t (Err (fault.Check f)) = ⊥
BookWritten t (Err (fault.Search f)) = OnSheet t (λ kept p. NoneFound kept p f)
BookWritten t (Err fault.Memory) = Unit {0}

-- A file as it is told: how many rows, and how many bytes.
abbrev pub book_file_text : BookFile → List ℕ
book_file_text f = codes "written " ++ (decimal f.rows ++ (codes " " ++ decimal (length f.bytes.items)))
