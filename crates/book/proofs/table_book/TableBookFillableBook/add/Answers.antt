use Rattle.std.proofs.Common.{◌≡◌, ℕ, List, rules, ap, sym, ◌∙◌, subst}
use Rattle.prefix.specs.Lines.{setting_before}
use Rattle.prefix.specs.Prefixes.{kinds}
use Rattle.book.specs.Guards.{Added}
use Rattle.book.specs.Tables.{table_guards, words_past, words_after_add}
use Rattle.book.proofs.Filling.{add_fills, add_keeps_past}
use Rattle.book.proofs.table_book.TableBookFillableBook.add.Goals as goal

words_added : (c : goal.After-set_bit) → c.set_bit.new.words ≡ words_after_add c.args.self.now.prefix c.args.self.now.words.now c.args.side c.args.position c.args.line.mask
words_added c = search rules

pub returns-clause-past : goal.returns-clause-past
returns-clause-past c =
    let p = c.args.self.now.prefix in
    ap (words_past p) (words_added c) ∙ add_keeps_past p c.args.self.now.words.now c.args.side c.args.position c.args.line.mask

pub returns-clause-guards : goal.returns-clause-guards
returns-clause-guards c e =
    let p = c.args.self.now.prefix in
    let ws = c.args.self.now.words.now in
    let k = c.args.position in
    let m = c.args.line.mask in
    subst (λ (xs : List ℕ). Added (kinds p) (table_guards p ws) c.args.side k (setting_before p k m) (table_guards p xs)) (sym (words_added c))
    (add_fills p ws c.args.side k m e)
