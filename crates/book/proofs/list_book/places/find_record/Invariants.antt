use Rattle.std.proofs.Common.{◌≡◌, ℕ, ◌<◌, ◌≤◌, false, slice_index_or}
use Rattle.book.specs.Records.{is_of}
use Rattle.book.specs.declared.record.Record.{Record}
use Rattle.book.proofs.list_book.places.find_record.Given as goal

abbrev pub invariant-loop-place : goal.invariant-loop-place
invariant-loop-place l =
    (l.start ≤ l.place) × ((i : ℕ) (d : Record) → l.start ≤ i → i < l.place → is_of l.position l.setting (slice_index_or l.records i d) ≡ false)
