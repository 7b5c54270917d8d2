use Rattle.std.proofs.Common.{◌+◌, ◌-◌, ◌≤◌}
use Rattle.std.specs.Fmt.{HasWritten, IsPlainFormatter}
use Rattle.sheet_writer.specs.Writing.{rising}
use Rattle.sheet_writer.proofs.Ruled.{literals_text}
use Rattle.sheet_writer.proofs.rule.RuleLineDisplay.fmt.Given as goal

-- The literals at the positions so far.
abbrev pub invariant-loop-position : goal.invariant-loop-position
invariant-loop-position g l = record {
  within : l.position ≤ l.self.length + 1;
  written : IsPlainFormatter l.fn.f → HasWritten g.W.Write.write_str_gives l.fn.f (literals_text (rising l.self.rule (l.position - 1))) l.f;
}
