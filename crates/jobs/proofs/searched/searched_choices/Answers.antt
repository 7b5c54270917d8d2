use Rattle.std.proofs.Common.{sym, ◌∙◌}
use Rattle.std.proofs.lemmas.Result.{MatchResult-at_ok, IfOk-weaker}
use Rattle.jobs.proofs.SearchedListed.{searched_listed}
use Rattle.jobs.proofs.searched.searched_choices.Goals as goal

pub returns : goal.returns
returns g c =
    let found = MatchResult-at_ok _ _ _ c.unwrap.ensures c.search.ensures.answer in
    let same = c.search.ensures.prefix ∙ sym found.0 in
    IfOk-weaker c.list_choices.result _ _
    (λ v. searched_listed _ _ (g.F.Sheet.kept c.args.sheet.now) (g.F.Sheet.prefix c.args.sheet.now) _ _ _ _ v.items found.4 same) c.list_choices.ensures
