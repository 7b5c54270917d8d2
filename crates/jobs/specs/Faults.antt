-- The number, the place and the layer of a job's fault: those of the fault in it.
use Rattle.std.specs.Prelude.{ℕ, Some, None, Option}
use Rattle.faults.specs.Faults.{sheet_number, sheet_place, sheet_layer}
use Rattle.faults.specs.declared.layer.Layer.{Layer}
use Rattle.book_file.specs.Faults.{book_fault_number, book_fault_place, book_fault_layer}
use Rattle.play.specs.CheckFaults as checking
use Rattle.play.specs.SearchFaults as searching
use Rattle.jobs.specs.declared.fault.JobFault.{JobFault}
use Rattle.jobs.specs.declared.fault.JobFault.TheVariants.{Sheet, Book, Check, Search, Memory}

abbrev pub job_number : JobFault → Option ℕ
job_number (Sheet f) = Some (sheet_number f)
job_number (Book f) = Some (book_fault_number f)
job_number (Check f) = Some (checking.refusal f)
job_number (Search f) = Some (searching.refusal f)
job_number Memory = None

-- Nothing that was read is at fault where a book is not checked or not found.
abbrev pub job_place : JobFault → Option ℕ
job_place (Sheet f) = Some (sheet_place f)
job_place (Book f) = Some (book_fault_place f)
job_place (Check f) = None
job_place (Search f) = None
job_place Memory = None

abbrev pub job_layer : JobFault → Option Layer
job_layer (Sheet f) = Some (sheet_layer f)
job_layer (Book f) = Some (book_fault_layer f)
job_layer (Check f) = None
job_layer (Search f) = None
job_layer Memory = None
