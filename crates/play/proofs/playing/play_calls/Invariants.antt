use Rattle.play.proofs.PlayedTo.{PlayedTo, Linked}
use Rattle.play.proofs.playing.play_calls.Given as goal

abbrev pub invariant-loop-at : goal.invariant-loop-at
invariant-loop-at g l =
    PlayedTo g.B.Book.prefix g.B.Book.guards l.book l.calls l.initial.answers l.at l.answers l.round
    × Linked g.B.Book.prefix g.B.Book.guards l.initial.round l.calls l.at l.answers l.round
