use Rattle.std.proofs.Common.{sym, ◌∙◌}
use Rattle.jobs.proofs.BookFiles.{searched_file}
use Rattle.jobs.proofs.searched_file.searched_file.Goals as goal

pub returns : goal.returns
returns g c =
    let found = c.in_ok-search.ensures.answer in
    let same = c.search.ensures.prefix ∙ sym found.0 in
    searched_file _ _ (g.F.Sheet.kept c.args.sheet.now) (g.F.Sheet.prefix c.args.sheet.now) _ _ _ _ c.in_ok-listed_file.field-0 found.4 same c.in_ok-listed_file.ensures
