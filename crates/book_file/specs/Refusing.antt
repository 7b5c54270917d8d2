-- What is wrong with the bytes of a book's file, and where.
use Rattle.std.specs.Prelude.{◌≡◌, ℕ, ◌<◌, ◌^◌, List, [], ◌++◌, length, Some, None, Option}
use Rattle.prefix.specs.declared.prefix.Prefix.{Prefix}
use Rattle.book.specs.declared.row.Row.{Row}
use Rattle.book_file.specs.declared.field.Field.{Field}
use Rattle.book_file.specs.declared.fault.BookFault.{BookFault}
use Rattle.book_file.specs.declared.fault.BookFault.TheVariants.{Number, Value, ExtraBytes, TableTooShort}
use Rattle.book_file.specs.Numbers.{number_bytes, bytes_of, NoNumber}
use Rattle.book_file.specs.Files.{Says}
use Rattle.book_file.specs.Fields.{next, Allowed, Begun}

-- The bytes begin with a number that may not stand there.
abbrev pub Outside : (ℕ → Type 0) → List ℕ → Type 0
Outside Allows bytes = (n : ℕ) × (rest : List ℕ) × (n < 2 ^ 28) × (bytes ≡ number_bytes n ++ rest) × (Allows n → ⊥)

-- What is wrong at a place where a field is wanted, or nothing more, by the bytes from there on: no number (9), a number
-- out of the field's values (10), or any byte after the last row (11).
abbrev pub WrongThere : Option Field → (ℕ → Type 0) → ℕ → List ℕ → BookFault → Type 0
WrongThere (Some field) Allows place bytes (Number p f) = (p ≡ place) × (f ≡ field) × NoNumber bytes
WrongThere (Some field) Allows place bytes (Value p f) = (p ≡ place) × (f ≡ field) × Outside Allows bytes
WrongThere (Some field) Allows place bytes (ExtraBytes p) = ⊥
WrongThere (Some field) Allows place bytes TableTooShort = ⊥
WrongThere None Allows place bytes (Number p f) = ⊥
WrongThere None Allows place bytes (Value p f) = ⊥
WrongThere None Allows place bytes (ExtraBytes p) = (p ≡ place) × (bytes ≡ [] → ⊥)
WrongThere None Allows place bytes TableTooShort = ⊥

-- The file has a fault: after numbers that are as they should be, what stands there is wrong. The place is where it begins.
pub record HasFault (file : List ℕ) (fault : BookFault) : Type 0 where
  pub numbers : List ℕ
  pub rest : List ℕ
  pub begun : Begun numbers
  pub parts : file ≡ bytes_of numbers ++ rest
  pub wrong : WrongThere (next numbers) (Allowed numbers) (length (bytes_of numbers)) rest fault

-- No file says two books, or has two faults, or says a book and has a fault; and no other file says the same book.
pub record Decided (file : List ℕ) : Type 0 where
  pub one_file : (p : Prefix) (rows : List Row) (other : List ℕ) → Says file p rows → Says other p rows → other ≡ file
  pub one_book : (p q : Prefix) (rows others : List Row) → Says file p rows → Says file q others → (p ≡ q) × (rows ≡ others)
  pub one_fault : (f h : BookFault) → HasFault file f → HasFault file h → f ≡ h
  pub not_both : (p : Prefix) (rows : List Row) (f : BookFault) → Says file p rows → HasFault file f → ⊥
