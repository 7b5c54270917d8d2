use Rattle.std.proofs.Common.{◌≡◌, Err, ap, ◌∙◌, rules}
use Rattle.std.proofs.lemmas.Result.{err_from_is_err_and}
use Rattle.sheet_text.specs.Lexing.{stream, Drew}
use Rattle.sheet_text.specs.Cuts.{stop}
use Rattle.sheet_text.proofs.Running.{going_bad, going_fault, going_on, going_unfinished, going_over, passed_fault, going_counted}
use Rattle.sheet_text.proofs.read.read_words.Goals as goal

pub returns-in_err-word : goal.returns-in_err-word
returns-in_err-word c =
    let p = err_from_is_err_and c.from_residual.result c.from_residual.ensures.1 in
    let drew : Drew (stream c.loop-word.word-iterator) (Err c.in_err-word.field-0.0) (stream c.next.new.self) = search rules in
    passed_fault c.args.text.now _ _ _ (p.1 ∙ ap Err p.2) (going_bad c.args.text.now c.loop-word.word-iterator c.next.new.self c.loop-word.draft c.loop-word.invariant.2 _ drew)

pub returns-in_err-take : goal.returns-in_err-take
returns-in_err-take c =
    let p = err_from_is_err_and c.from_residual-in_err-take.result c.from_residual-in_err-take.ensures.1 in
    passed_fault c.args.text.now _ _ _ (p.1 ∙ ap Err p.2)
    (going_fault c.args.text.now c.loop-word.word-iterator c.next.new.self c.loop-word.draft c.loop-word.invariant.2 c.in_ok-word.field-0 c.take.new.self (search rules) _ (λ s h. c.in_err-take.ensures s h))

pub take-requires : goal.take-requires
take-requires c = going_counted c.args.text.now c.loop-word.word-iterator c.loop-word.draft c.loop-word.invariant.2

pub loop-word-preserved : goal.loop-word-preserved
loop-word-preserved c =
    (tt, tt, going_on c.args.text.now c.loop-word.word-iterator c.next.new.self c.loop-word.draft c.loop-word.invariant.2 c.in_ok-word.field-0 c.take.new.self (search rules) tt (λ s h. c.in_ok-take.ensures s h))

pub returns-in_err-finish : goal.returns-in_err-finish
returns-in_err-finish c =
    let p = err_from_is_err_and c.from_residual-in_err-finish.result c.from_residual-in_err-finish.ensures.1 in
    let over : stream c.loop-word.word-iterator ≡ stop = search rules in
    passed_fault c.args.text.now _ _ _ (p.1 ∙ ap Err p.2)
    (going_unfinished c.args.text.now c.loop-word.word-iterator c.loop-word.word-iterator c.loop-word.draft c.loop-word.invariant.2 over _ c.in_err-finish.ensures)

pub returns : goal.returns
returns c =
    let over : stream c.loop-word.word-iterator ≡ stop = search rules in
    going_over c.args.text.now c.loop-word.word-iterator c.loop-word.word-iterator c.loop-word.draft c.loop-word.invariant.2 over _ c.in_ok-finish.ensures
