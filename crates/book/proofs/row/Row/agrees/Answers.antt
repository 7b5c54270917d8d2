use Rattle.std.proofs.Common.{false}
use Rattle.std.specs.Bool.{one_answer}
use Rattle.std.proofs.lemmas.Bool.{false≢true}
use Rattle.book.proofs.Rows.{agrees_decides}
use Rattle.book.proofs.row.Row.agrees.Goals as goal

-- At the position of the loop the row does not agree.
pub returns-then-not-agrees_at-clause-value : goal.returns-then-not-agrees_at-clause-value
returns-then-not-agrees_at-clause-value c =
    one_answer false _ (λ e. absurd (false≢true e), λ h. c.if-not-agrees_at.ensures.1 (h.values c.loop-position.position))
    (agrees_decides c.args.prefix c.args.self c.args.line.mask)
