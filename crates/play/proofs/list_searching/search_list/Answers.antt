-- What `search` finds, said of the list book's records.
use Rattle.std.proofs.Common.{sym, ◌∙◌, subst}
use Rattle.std.proofs.lemmas.Result.{MatchResult-weaker}
use Rattle.prefix.specs.Prefixes.{kinds}
use Rattle.book.specs.ListBooks.{records_of}
use Rattle.play.specs.ListFilling.{ListFound}
use Rattle.play.proofs.ListFilling.{list_found, one_list_found}
use Rattle.play.proofs.ListOrder.{all_in_order}
use Rattle.play.proofs.list_searching.search_list.Goals as goal

pub returns-clause-answer : goal.returns-clause-answer
returns-clause-answer g c =
    let kept = g.F.Sheet.kept c.args.sheet.now in
    let ks = kinds (g.F.Sheet.prefix c.args.sheet.now) in
    MatchResult-weaker c.search.result c.search.ensures.answer
    (λ _ t. (t.0, t.1, t.2, t.3, list_found records_of ks c.args.book.now c.search.new.book kept t.4))
    (λ _ e. e)

pub returns-clause-one : goal.returns-clause-one
returns-clause-one g c = one_list_found (kinds (g.F.Sheet.prefix c.args.sheet.now)) (g.F.Sheet.kept c.args.sheet.now)

pub returns-clause-found : goal.returns-clause-found
returns-clause-found g c =
    let kept = g.F.Sheet.kept c.args.sheet.now in
    let book = c.search.new.book in
    MatchResult-weaker c.search.result (returns-clause-answer g c)
    (λ _ t. all_in_order book kept (subst (λ q. ListFound kept (kinds q) (records_of book)) (t.0 ∙ sym c.search.ensures.prefix) t.4))
    (λ _ _. tt)
