use Rattle.std.proofs.Common.{true, ◌≤◌, ◌<◌, ◌+◌, length, rules, sym, refl, ◌∙◌, arith}
use Rattle.std.proofs.Output.{has_written_to_eq}
use denote.Enum.Bare.{same_true, same_false}
use Rattle.prefix.specs.Prefixes.{kinds}
use Rattle.prefix.specs.contracts.kind.Kind.{the_type}
use Rattle.sheet_writer.proofs.Quantified.{same_line, next_line, ended}
use Rattle.sheet_writer.proofs.quantifier.QuantifierLinesDisplay.fmt.Goals as goal
use Rattle.sheet_writer.proofs.quantifier.QuantifierLinesDisplay.fmt.Goals.{else-loop-position-test, then-loop-position-test+else-position-counter-position-end, then-eq+in_ok-write-2, else-eq+in_ok-write-3}

pub loop-position-preserved : goal.loop-position-preserved
loop-position-preserved g c = λ plain.
    let at = sym c.kind-in-loop-position.ensures ∙ c.unwrap-next.ensures in
    let low : 1 ≤ c.loop-position.position-counter = omega arith in
    let b = c.loop-position.invariant plain in
    elim c.if-eq.branch [
      | then-eq+in_ok-write-2 w ↦
          same_line _ _ _ _ _ _ _ _ low (same_true the_type (search rules) _ _ (sym c.eq.ensures ∙ w.if-eq.true)) at b
          (has_written_to_eq _ _ _ _ _ w.f-is (w.in_ok-write-2.ensures.writes b.written.plain (refl {a = true})))
      | else-eq+in_ok-write-3 w ↦
          next_line _ _ _ _ _ _ _ _ low (same_false the_type _ _ (sym c.eq.ensures ∙ w.if-eq.false)) at b
          (has_written_to_eq _ _ _ _ _ w.f-is (w.in_ok-write-3.ensures.writes b.written.plain (refl {a = true})))
    ]

pub returns-clause-writes : goal.returns-clause-writes
returns-clause-writes g c = λ plain ok.
    let b = c.loop-position.invariant plain in
    let low : 1 ≤ c.loop-position.position-counter = omega arith in
    elim c.loop-position-test.branch [
      | else-loop-position-test w ↦
          ended _ _ _ _ _ _ _ _ _ w.f-is (omega (arith, c.len-position-end.ensures.kinds)) b c.writeln.ensures.writes ok
      | then-loop-position-test+else-position-counter-position-end w ↦
          let at = sym w.kind-in-loop-position.ensures ∙ w.unwrap-next.ensures in
          let past : length (kinds c.args.self.now.0) < c.loop-position.position-counter + 1 = omega (arith, c.len-position-end.ensures.kinds) in
          elim w.if-eq.branch [
            | then-eq+in_ok-write-2 w' ↦
                ended _ _ _ _ _ _ _ _ _ (w.f-is ∙ w'.f-is) past
                (same_line _ _ _ _ _ _ _ _ low (same_true the_type (search rules) _ _ (sym w.eq.ensures ∙ w'.if-eq.true)) at b
                (w'.in_ok-write-2.ensures.writes b.written.plain (refl {a = true}))) c.writeln.ensures.writes ok
            | else-eq+in_ok-write-3 w' ↦
                ended _ _ _ _ _ _ _ _ _ (w.f-is ∙ w'.f-is) past
                (next_line _ _ _ _ _ _ _ _ low (same_false the_type _ _ (sym w.eq.ensures ∙ w'.if-eq.false)) at b
                (w'.in_ok-write-3.ensures.writes b.written.plain (refl {a = true}))) c.writeln.ensures.writes ok
          ]
    ]
