-- What the inner calls that write a book's file state.
use Rattle.std.specs.Prelude.{◌≡◌, Bool, List, length, Ok, Err, Result}
use Rattle.prefix.specs.Prefixes.{kinds}
use Rattle.prefix.specs.declared.prefix.Prefix.{Prefix}
use Rattle.book.specs.Guards.{Guards, SameGuards}
use Rattle.book.specs.RowGuards.{row_guards}
use Rattle.book.specs.declared.row.Row.{Row}
use Rattle.book_file.specs.Files.{Says}
use Rattle.book_file.specs.Listing.{Listed}
use Rattle.jobs.specs.WritingBooks.{SearchedFile, NoneFound}
use Rattle.jobs.specs.declared.fault.JobFault.{JobFault}
use Rattle.jobs.specs.declared.fault.JobFault.TheVariants as fault
use Rattle.jobs.specs.declared.writing_books.BookFile.{BookFile}

-- The file of a sheet, or that no policy wins on it; or no memory was to be had.
abbrev pub SheetWritten : (List Bool → Bool) → Prefix → Result BookFile JobFault → Type 0
SheetWritten kept p (Ok f) = SearchedFile kept p f
SheetWritten kept p (Err (fault.Sheet f)) = ⊥
SheetWritten kept p (Err (fault.Book f)) = ⊥
SheetWritten kept p (Err (fault.Check f)) = ⊥
SheetWritten kept p (Err (fault.Search f)) = NoneFound kept p f
SheetWritten kept p (Err fault.Memory) = Unit {0}

-- The file says these rows over the prefix p, and counts them.
pub record FileOf (p : Prefix) (rows : List Row) (f : BookFile) : Type 0 where
  pub says : Says f.bytes.items p rows
  pub count : f.rows ≡ length rows

-- The file says the rows that a book is listed as, which have its guards.
pub record ListedFile (p : Prefix) (g : Guards) (f : BookFile) : Type 0 where
  pub rows : List Row
  pub listed : Listed p g rows
  pub same : SameGuards (kinds p) g (row_guards p rows)
  pub file : FileOf p rows f
