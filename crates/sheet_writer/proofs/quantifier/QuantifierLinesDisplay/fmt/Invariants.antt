use Rattle.std.specs.Fmt.{IsPlainFormatter}
use Rattle.prefix.specs.Prefixes.{kinds}
use Rattle.sheet_writer.proofs.Quantified.{Begun}
use Rattle.sheet_writer.proofs.quantifier.QuantifierLinesDisplay.fmt.Given as goal

-- What is written and what is left are together the lines.
abbrev pub invariant-loop-position : goal.invariant-loop-position
invariant-loop-position g l = IsPlainFormatter l.fn.f → Begun g.W.Write.write_str_gives l.fn.f l.f (kinds l.prefix) l.kind l.position-counter
