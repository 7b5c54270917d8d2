use Rattle.std.proofs.Common.{ℕ, eqb, not, rules, tests}
use Rattle.std.proofs.lemmas.Iterator.Adapters.{YieldsList-from_rev_slice}
use Rattle.std.proofs.lemmas.Iterator.Consumers.{YieldsList-at, count_from_yields_List}
use Rattle.std.proofs.lemmas.Iterator.Search.{YieldsList-from_take_while}
use Rattle.jobs.proofs.Positioned.{ends_at}
use Rattle.jobs.proofs.position.TextPosition.after.Goals as goal

pub returns : goal.returns
returns c =
    ends_at c.args.bytes.now c.count-since.result
    (count_from_yields_List c.take_while.result _ c.count-since.ensures.ran
    (YieldsList-from_take_while _ (λ (b : ℕ). not (eqb b 10)) (YieldsList-at c.take_while.ensures.source (YieldsList-from_rev_slice c.args.bytes.now (cc)))
    c.take_while.ensures.closure c.take_while.ensures.done (λ x b q k. search (rules, tests))))
    c.count-line_ends.result (search rules)
