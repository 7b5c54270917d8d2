use Rattle.std.proofs.Common.{◌≡◌, ◌+◌, ◌-◌, ◌*◌, ◌≤◌}
use Rattle.prefix.specs.Points.{sum_to}
use Rattle.prefix.specs.Prefixes.{kinds}
use Rattle.book.specs.RecordPlaces.{met_before}
use Rattle.book.proofs.list_book.places.expected_place.Given as goal

abbrev pub invariant-loop-reply : goal.invariant-loop-reply
invariant-loop-reply l =
    (l.place ≡ sum_to (met_before (kinds l.prefix) l.position l.first) (l.reply - 1)) × (l.place ≤ (4096 * 4096 + 1) * (l.reply - 1))
    × (1 ≤ l.reply) × (l.first ≤ 4096 * 4096)
