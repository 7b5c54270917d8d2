use Rattle.std.proofs.Common.{true, [], ◌∷◌, ◌++◌, ◌-◌, drop, Decides, sym, ap, ◌∙◌, subst}
use Rattle.std.proofs.lemmas.Bool.{true≢false}
use Rattle.prefix.specs.Bits.{bits}
use Rattle.prefix.specs.Lines.{setting_before}
use Rattle.prefix.specs.Policies.{Winnable}
use Rattle.prefix.specs.Prefixes.{kinds}
use Rattle.prefix.specs.declared.prefix.Prefix.{Prefix}
use Rattle.book.specs.Guards.{Added, answer}
use Rattle.book.specs.declared.side.Side.TheVariants.{On}
use Rattle.play.specs.Filling.{AddsOne, side_of}
use Rattle.play.proofs.PastPosition.{past_new, past_old}
use Rattle.play.proofs.searching.filling.reply_value.Goals as goal

pub returns-then-is_first-clause-passed : goal.returns-then-is_first-clause-passed
returns-then-is_first-clause-passed g c p start a h setting so_far f =
    let q = c.args.prefix in
    let j = c.args.step.position in
    let m = c.args.step.line.mask in
    let x = c.add_guard.result in
    let e = c.add_guard.ensures in
    let added = subst (λ (r : Prefix). Added (kinds r) (g.B.Book.guards c.args.book.now) (side_of x) j (setting_before r j m) (g.B.Book.guards c.add_guard.new.book)) c.requires.prefixes.1 e.guards in
    let order = subst (λ (r : Prefix). g.B.FillableBook.Adds c.args.book.now (side_of x) j (setting_before r j m) c.add_guard.new.book) c.requires.prefixes.1 e.order in
    past_new (AddsOne g.B.FillableBook.Adds g.B.Book.guards (kinds q)) (g.F.Sheet.kept c.args.sheet.now) q p start c.args.book.now (g.B.Book.guards c.args.book.now) c.args.step.number a j m
    h setting so_far c.requires.within c.requires.reply f x c.add_guard.new.book (g.B.Book.guards c.add_guard.new.book)
    ((c.is_first.ensures a setting).0 c.if-is_first.true)
    (subst (λ (r : Prefix). Decides x (Winnable (g.F.Sheet.kept c.args.sheet.now) (drop j (kinds r)) (bits (j - 1) m ++ true ∷ []))) c.requires.prefixes.0 e.value)
    added (order, added)

pub returns-clause-passed : goal.returns-clause-passed
returns-clause-passed g c p start a h setting so_far f =
    let q = c.args.prefix in
    let j = c.args.step.position in
    let m = c.args.step.line.mask in
    let past = past_old (AddsOne g.B.FillableBook.Adds g.B.Book.guards (kinds q)) (g.F.Sheet.kept c.args.sheet.now) q p start c.args.book.now (g.B.Book.guards c.args.book.now) c.args.step.number a j m
    h setting so_far c.requires.within c.requires.reply f (λ e. true≢false (sym ((c.is_first.ensures a setting).1 e) ∙ c.if-is_first.false)) in
    (past.0, c.on.ensures ∙ ap (λ (r : Prefix). answer r (g.B.Book.guards c.args.book.now) On j m) c.requires.prefixes.1 ∙ past.1)
