use Rattle.std.proofs.Common.{sym, ◌∙◌, arith}
use Rattle.prefix.proofs.Before.{so_far_report, so_far_other, so_far_end}
use Rattle.prefix.proofs.prefix.Prefix.setting_line.Goals as goal
use Rattle.prefix.proofs.prefix.Prefix.setting_line.Goals.{then-is_report, else-is_report}

pub loop-earlier-preserved : goal.loop-earlier-preserved
loop-earlier-preserved c =
    let so_far = c.loop-earlier.invariant in
    let inside = c.loop-earlier-test.true in
    elim c.if-is_report.branch [
      | then-is_report w ↦
          rw (w.left-is, w.line-is)
          (so_far_report so_far w.with-line.ensures (omega arith) inside c.min-earlier-end.ensures (sym c.is_report.ensures ∙ w.if-is_report.true))
      | else-is_report w ↦
          rw (w.left-is, w.line-is) (so_far_other so_far (omega arith) inside (sym c.is_report.ensures ∙ w.if-is_report.false))
    ]

pub returns : goal.returns
returns c = so_far_end c.loop-earlier.invariant c.min-earlier-end.ensures c.loop-earlier-test.false
