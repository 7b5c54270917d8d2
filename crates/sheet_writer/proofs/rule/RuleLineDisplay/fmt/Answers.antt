use Rattle.std.proofs.Common.{true, ◌≡◌, ◌+◌, ◌-◌, refl, arith}
use Rattle.std.proofs.Output.{has_written_append, has_written_of_eq}
use Rattle.sheet_writer.proofs.Ruled.{literals_next, rule_ended}
use Rattle.sheet_writer.proofs.rule.RuleLineDisplay.fmt.Goals as goal
use Rattle.sheet_writer.proofs.rule.RuleLineDisplay.fmt.Goals.{else-loop-position-test, then-loop-position-test+in_ok-write+else-position-position-end}

pub returns-clause-writes : goal.returns-clause-writes
returns-clause-writes g c = λ plain ok.
    let before = c.loop-position.invariant.written plain in
    elim c.loop-position-test.branch [
      | else-loop-position-test w ↦
          let all : c.loop-position.position - 1 ≡ c.args.self.now.length = omega (arith, c.loop-position.invariant.within) in
          rule_ended _ _ _ _ _ _ _ _ _ w.f-is all before c.writeln.ensures.writes ok
      | then-loop-position-test+in_ok-write+else-position-position-end w ↦
          let literal = w.in_ok-write.ensures.writes before.plain (refl {a = true}) in
          let next = literals_next c.args.self.now.rule c.loop-position.position w.wanted-wanted.result (omega arith) w.wanted-wanted.ensures in
          let all : c.loop-position.position + 1 - 1 ≡ c.args.self.now.length = omega arith in
          rule_ended _ _ _ _ _ _ _ _ _ w.f-is all (has_written_of_eq _ _ _ _ _ next (has_written_append _ _ _ _ _ _ before literal)) c.writeln.ensures.writes ok
    ]
