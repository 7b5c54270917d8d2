use Rattle.std.proofs.Common.{◌≡◌, ◌≤◌, length, get_or, refl, ap, ◌∙◌, arith}
use Rattle.std.proofs.lemmas.List.{take_all}
use Rattle.book_file.specs.Numbers.{number_bytes, bytes_of}
use Rattle.book_file.proofs.Sizes.{number_size, length_more}
use Rattle.book_file.proofs.write.numbers.size_of.Goals as goal

pub loop-number-init : goal.loop-number-init
loop-number-init c = (refl, omega arith)

-- The number's bytes are four at most.
short : (c : goal.After-len-size) → (c.len-size.result ≡ length (number_bytes (get_or c.args.numbers.now c.loop-number.number-index 0))) × (c.len-size.result ≤ 4)
short c =
    let e = c.len-size.ensures.value ∙ ap length c.groups_of.ensures in
    (e, omega (arith, e, number_size (get_or c.args.numbers.now c.loop-number.number-index 0) (c.requires.small c.loop-number.number-index 0 (omega arith))))

pub overflow_add-size : goal.overflow_add-size
overflow_add-size c = omega (arith, short c, c.loop-number.invariant, c.requires.few)

pub loop-number-preserved : goal.loop-number-preserved
loop-number-preserved c =
    (omega (arith, (short c).0, c.loop-number.invariant.0, length_more c.args.numbers.now c.loop-number.number-index (omega arith)), omega (arith, short c, c.loop-number.invariant.1))

pub returns-clause-value : goal.returns-clause-value
returns-clause-value c = c.loop-number.invariant.0 ∙ ap (λ ns. length (bytes_of ns)) (take_all c.loop-number.number-index c.args.numbers.now (omega arith))

pub returns-clause-few : goal.returns-clause-few
returns-clause-few c = omega (arith, c.loop-number.invariant.1, c.requires.few)
