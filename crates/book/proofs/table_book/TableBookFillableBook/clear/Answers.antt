use Rattle.std.proofs.Common.{List, ℕ, sym, ◌∙◌, subst}
use Rattle.std.proofs.lemmas.Bool.{cond-true}
use Rattle.prefix.specs.Prefixes.{kinds}
use Rattle.book.specs.Guards.{AllNo}
use Rattle.book.specs.Tables.{table_guards}
use Rattle.book.proofs.Filling.{clear_empties}
use Rattle.book.proofs.table_book.TableBookFillableBook.clear.Goals as goal

pub returns-then-words_suffice-clause-guards : goal.returns-then-words_suffice-clause-guards
returns-then-words_suffice-clause-guards c =
    let p = c.args.self.now.prefix in
    let whole = cond-true _ _ _ (sym c.words_suffice.ensures ∙ c.if-words_suffice.true) in
    subst (λ (xs : List ℕ). AllNo (kinds p) (table_guards p xs)) (whole ∙ sym c.clear_blocks.ensures) (clear_empties p c.args.self.now.words.now)
