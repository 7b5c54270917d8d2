use Rattle.std.proofs.Common.{◌≡◌, ℕ, ◌+◌, ap, ◌∙◌, arith}
use Rattle.prefix.specs.Prefixes.{kinds}
use Rattle.book.specs.Tables.{block_words, words_before, words_at, with_zeros}
use Rattle.book.proofs.Filling.{zeroed_on}
use Rattle.book.proofs.table_book.blocks.clear_at.Goals as goal

pub returns : goal.returns
returns c =
    let ks = kinds c.args.prefix in
    let k = c.args.position in
    let a = words_before ks k in
    let n = block_words ks k in
    let ws = c.args.words.now in
    let two : n + n ≡ words_at ks k = grind arith in
    let on = c.clear_block.ensures ∙ ap (λ (i : ℕ). with_zeros i c.block_words-size.result ws) c.block_start.ensures ∙ ap (λ (i : ℕ). with_zeros a i ws) c.block_words-size.ensures.value in
    c.clear_block-2.ensures
    ∙ ap (λ (i : ℕ). with_zeros i c.block_words-size.result c.clear_block.new.words) c.block_start-2.ensures
    ∙ ap (λ (i : ℕ). with_zeros (a + n) i c.clear_block.new.words) c.block_words-size.ensures.value
    ∙ ap (with_zeros (a + n) n) on
    ∙ zeroed_on a n n ws (omega arith)
    ∙ ap (λ (i : ℕ). with_zeros a i ws) two
