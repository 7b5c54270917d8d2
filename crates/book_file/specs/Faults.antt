-- The number, the place and the layer of each refusal.
use Rattle.std.specs.Prelude.{ℕ}
use Rattle.faults.specs.declared.layer.Layer.{Layer}
use Rattle.faults.specs.declared.layer.Layer.TheVariants.{Book}
use Rattle.book_file.specs.declared.fault.BookFault.{BookFault}
use Rattle.book_file.specs.declared.fault.BookFault.TheVariants as book
use Rattle.book_file.specs.declared.write_fault.WriteFault.{WriteFault}
use Rattle.book_file.specs.declared.write_fault.WriteFault.TheVariants as write
use Rattle.book_file.specs.declared.list_fault.ListFault.{ListFault}
use Rattle.book_file.specs.declared.list_fault.ListFault.TheVariants as list

-- In reading a file.
abbrev pub book_fault_number : BookFault → ℕ
book_fault_number (book.Number p f) = 9
book_fault_number (book.Value p f) = 10
book_fault_number (book.ExtraBytes p) = 11
book_fault_number book.TableTooShort = 8

abbrev pub book_fault_place : BookFault → ℕ
book_fault_place (book.Number p f) = p
book_fault_place (book.Value p f) = p
book_fault_place (book.ExtraBytes p) = p
book_fault_place book.TableTooShort = 0

abbrev pub book_fault_layer : BookFault → Layer
book_fault_layer f = Book

-- In writing one; the place of a row is its index, from 0.
abbrev pub write_fault_number : WriteFault → ℕ
write_fault_number (write.Row i) = 10
write_fault_number write.BufferTooShort = 12

abbrev pub write_fault_place : WriteFault → ℕ
write_fault_place (write.Row i) = i
write_fault_place write.BufferTooShort = 0

abbrev pub write_fault_layer : WriteFault → Layer
write_fault_layer f = Book

-- In listing a book.
abbrev pub list_fault_number : ListFault → ℕ
list_fault_number list.TableTooShort = 8

abbrev pub list_fault_place : ListFault → ℕ
list_fault_place list.TableTooShort = 0

abbrev pub list_fault_layer : ListFault → Layer
list_fault_layer f = Book
