use Rattle.prefix.specs.Prefixes.{kinds}
use Rattle.book.specs.declared.side.Side.TheVariants.{On}
use Rattle.jobs.specs.Steps.{ListsTo}
use Rattle.jobs.specs.Steps.{ListsTo}
use Rattle.jobs.proofs.listing.list_choices.Given as goal

abbrev pub invariant-loop-position : goal.invariant-loop-position
invariant-loop-position g l = ListsTo (kinds l.prefix) (g.B.Book.guards l.book On) l.position 0 l.listed.items
