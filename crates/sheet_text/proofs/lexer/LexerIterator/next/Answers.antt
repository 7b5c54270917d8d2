use Rattle.std.proofs.Common.{◌+◌, sym, ap, ◌∙◌, inl, inr, arith}
use Rattle.sheet_text.specs.Cuts.{next, gap, tokens_from}
use Rattle.sheet_text.proofs.Cutting.{over, line_drawn, bad_drawn, word_drawn}
use Rattle.sheet_text.proofs.lexer.LexerIterator.next.Goals as goal
use Rattle.sheet_text.proofs.lexer.LexerIterator.next.Goals.{then-from-text-via-then-from-text, then-from-text-via-else-from-text+then-text-from-eq10, else-end-text-via-then-end-text+then-text-end-ne32+else-text-end-ne10, else-end-text-via-then-end-text+else-text-end-ne32, else-end-text-via-else-end-text}

pub returns-then-self-text-clause-steps : goal.returns-then-self-text-clause-steps
returns-then-self-text-clause-steps c = over _ _ (omega arith)

pub returns-then-from-text-clause-steps : goal.returns-then-from-text-clause-steps
returns-then-from-text-clause-steps c =
    line_drawn c.args.self.now.text.now c.args.self.now.at c.spaces.result (omega arith) c.spaces.ensures.before
    (elim c.then-from-text.branch [ then-from-text-via-then-from-text w ↦ inl w.if-from-text.true | then-from-text-via-else-from-text+then-text-from-eq10 w ↦ inr w.if-text-from-eq10.true ])

pub returns-then-text-end-ne10-clause-steps : goal.returns-then-text-end-ne10-clause-steps
returns-then-text-end-ne10-clause-steps c =
    bad_drawn c.args.self.now.text.now c.args.self.now.at c.spaces.result (omega arith) c.spaces.ensures.before c.word_length.result (omega arith)
    c.word_length.ensures.within c.word_length.ensures.before c.if-end-text.true c.word_length.ensures.stops c.if-text-end-ne32.true c.if-text-end-ne10.true

pub returns-clause-steps : goal.returns-clause-steps
returns-clause-steps c =
    word_drawn c.args.self.now.text.now c.args.self.now.at c.spaces.result (omega arith) c.spaces.ensures.before c.word_length.result (omega arith)
    c.word_length.ensures.within c.word_length.ensures.before c.spaces.ensures.stops c.if-text-from-eq10.false
    (elim c.else-end-text.branch [
      | else-end-text-via-then-end-text+then-text-end-ne32+else-text-end-ne10 w ↦ inr (inr (grind (arith, w.if-text-end-ne10.false)))
      | else-end-text-via-then-end-text+else-text-end-ne32 w ↦ inr (inl (grind (arith, w.if-text-end-ne32.false)))
      | else-end-text-via-else-end-text w ↦ inl (omega (arith, w.if-end-text.false))
    ])
    ∙ ap (λ w. next w (tokens_from c.args.self.now.text.now gap (c.args.self.now.at + c.spaces.result + c.word_length.result))) (sym c.of.ensures)
