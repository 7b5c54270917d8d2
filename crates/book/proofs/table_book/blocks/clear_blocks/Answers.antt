use Rattle.std.proofs.Common.{◌≡◌, ℕ, ◌+◌, ◌≤◌, length, ap, ◌∙◌, arith}
use Rattle.prefix.specs.Prefixes.{kinds}
use Rattle.book.specs.Tables.{words_at, words_before, with_zeros}
use Rattle.book.proofs.Blocks.{words_all}
use Rattle.book.proofs.Filling.{length-zeroed, zeroed_next, blocks_inside}
use Rattle.book.proofs.table_book.blocks.clear_blocks.Goals as goal

pub clear_at-requires : goal.clear_at-requires
clear_at-requires c =
    let p = c.args.prefix in
    let k = c.loop-position.position in
    let room : words_before (kinds p) k + words_at (kinds p) k ≤ length c.args.words.now = omega (arith, blocks_inside p k (omega arith) (omega arith)) in
    omega (arith, room, ap length c.loop-position.invariant, length-zeroed (words_before (kinds p) k) c.args.words.now (omega arith))

pub loop-position-preserved : goal.loop-position-preserved
loop-position-preserved c =
    c.clear_at.ensures ∙ zeroed_next c.args.prefix c.loop-position.position c.args.words.now c.loop-position.words (omega arith) c.loop-position.invariant

pub returns-2 : goal.returns-2
returns-2 c =
    let p = c.args.prefix in
    let k = c.loop-position.position in
    let last : k + 1 ≡ p.length + 1 = omega arith in
    c.clear_at.ensures ∙ zeroed_next p k c.args.words.now c.loop-position.words (omega arith) c.loop-position.invariant
    ∙ ap (λ (n : ℕ). with_zeros 0 n c.args.words.now) (words_all p (k + 1) last)
