-- Whose turn it is, as an inner call states it.
use Rattle.std.specs.Prelude.{Some, None, Option, Ok, Err, Result}
use Rattle.prefix.specs.declared.kind.Kind.{Kind}
use Rattle.prefix.specs.declared.kind.Kind.TheVariants.{Report, Reply}
use Rattle.play.specs.declared.round_fault.RoundFault.{RoundFault}
use Rattle.play.specs.declared.round_fault.RoundFault.TheVariants.{Complete, OtherTurn}

-- A call for a position of one kind, by the kind that is next.
abbrev pub turn_of : Option Kind → Kind → Result (Unit {0}) RoundFault
turn_of None k = Err Complete
turn_of (Some Report) Report = Ok tt
turn_of (Some Report) Reply = Err OtherTurn
turn_of (Some Reply) Report = Err OtherTurn
turn_of (Some Reply) Reply = Ok tt
