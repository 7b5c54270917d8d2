use Rattle.prefix.specs.Prefixes.{kinds}
use Rattle.book.specs.declared.side.Side.TheVariants.{On}
use Rattle.jobs.specs.Steps.{ListsTo}
use Rattle.jobs.specs.Steps.{ListsTo}
use Rattle.jobs.proofs.listing.list_choices_at.Given as goal

abbrev pub invariant-loop-number : goal.invariant-loop-number
invariant-loop-number g l = ListsTo (kinds l.prefix) (g.B.Book.guards l.book On) l.position l.number l.listed.items
