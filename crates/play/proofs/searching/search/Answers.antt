use Rattle.std.proofs.Common.{◌≡◌, ◌^◌, ◌≤◌, true, [], length, rules, sym, subst}
use Rattle.prefix.specs.Kinds.{report_count}
use Rattle.prefix.specs.Policies.{Policy, Winnable}
use Rattle.prefix.specs.Prefixes.{kinds}
use Rattle.prefix.specs.declared.prefix.Prefix.{Prefix}
use Rattle.prefix.proofs.Equal.{prefix_tells}
use Rattle.book.specs.Guards.{AllNo}
use Rattle.play.specs.Filling.{ClearsAll, AddsOne}
use Rattle.play.specs.Searching.{OnWhereItCanWin}
use Rattle.play.specs.Steps.{FilledTo}
use Rattle.play.proofs.WholeSearch.{found}
use Rattle.play.proofs.searching.search.Goals as goal

pub returns-clause-answer : goal.returns-clause-answer
returns-clause-answer g c =
    let kept = g.F.Sheet.kept c.args.sheet.now in
    let p = g.F.Sheet.prefix c.args.sheet.now in
    let same : p ≡ g.B.Book.prefix c.args.book.now = search (rules, prefix_tells) in
    let room : g.B.FillableBook.room c.args.book.now ≡ true = search rules in
    let enough : p.length ≤ length c.args.stack.now.cells.now = search rules in
    let won : Winnable kept (kinds p) [] = search rules in
    let cleared = subst (λ (q : Prefix). AllNo (kinds q) (g.B.Book.guards c.clear.new.self)) (sym same) c.clear.ensures.guards in
    let filled = subst (λ (q : Prefix). (policy : Policy) → OnWhereItCanWin kept (kinds q) policy
    → FilledTo (AddsOne g.B.FillableBook.Adds g.B.Book.guards (kinds q)) (kinds q) policy (2 ^ report_count (kinds q)) 1 c.clear.new.self c.fill.new.book (g.B.Book.guards c.fill.new.book))
    c.prefix-prefix.ensures c.fill.ensures.filled in (
      same,
      room,
      enough,
      c.fill.ensures.stack.1,
      found (ClearsAll g.B.FillableBook.Clears g.B.Book.guards (kinds p)) (AddsOne g.B.FillableBook.Adds g.B.Book.guards (kinds p)) kept (kinds p)
          c.args.book.now c.clear.new.self c.fill.new.book (g.B.Book.guards c.fill.new.book) won (c.clear.ensures.order, cleared) filled,
    )
