use Rattle.std.proofs.Common.{◌≡◌, ◌-◌, ◌∙◌, min, sym, ap, arith}
use Rattle.prefix.specs.Points.{sum_to}
use Rattle.prefix.specs.Prefixes.{kinds}
use Rattle.prefix.proofs.Points.{sum_next}
use Rattle.book.specs.Tables.{words_at}
use Rattle.book.proofs.Blocks.{words_capped}
use Rattle.book.proofs.table_book.layout.words_before.Goals as goal

pub loop-earlier-preserved : goal.loop-earlier-preserved
loop-earlier-preserved c = grind (arith, sum_next)

pub returns-clause-value : goal.returns-clause-value
returns-clause-value c =
    let p = c.args.prefix in
    let k = c.args.position in
    let e : c.loop-earlier.earlier - 1 ≡ min (k - 1) p.length = omega arith in
    c.loop-earlier.invariant.0 ∙ ap (sum_to (words_at (kinds p))) e ∙ sym (words_capped p k)
