use Rattle.std.proofs.Common.{ℕ, List, ◌+◌, ◌≤◌, length, take, get_or, sym, ap, ◌∙◌, arith}
use Rattle.std.proofs.lemmas.List.{take_all}
use Rattle.book_file.specs.Numbers.{number_bytes, bytes_of}
use Rattle.book_file.specs.Steps.{with_at}
use Rattle.book_file.proofs.Sizes.{bytes_more, length_more, length_some, room_next}
use Rattle.book_file.proofs.Putting.{put_next, put_none}
use Rattle.book_file.proofs.write.numbers.put_numbers.Goals as goal

pub loop-number-init : goal.loop-number-init
loop-number-init c = (omega arith, sym (put_none c.args.start c.args.buffer.now (omega (arith, c.requires.room))))

pub put_number-place-requires-clause-room : goal.put_number-place-requires-clause-room
put_number-place-requires-clause-room c =
    omega (arith, c.loop-number.invariant.0, room_next c.args.numbers.now c.loop-number.number-index c.args.start (length c.args.buffer.now) (omega arith) c.requires.room)

pub loop-number-preserved : goal.loop-number-preserved
loop-number-preserved c =
    let ns = c.args.numbers.now in
    let i = c.loop-number.number-index in
    let n = get_or ns i 0 in
    let at = c.loop-number.invariant.0 in
    let fits : c.args.start + length (bytes_of (take i ns)) ≤ length c.args.buffer.now = omega (arith, c.requires.room, length_some ns i) in (
      c.put_number-place.ensures.place ∙ omega (arith, at, length_more ns i (omega arith)),
      c.put_number-place.ensures.buffer
          ∙ (λ j. with_at (at j) (number_bytes n) (c.loop-number.invariant.1 j))
          ∙ put_next c.args.start (bytes_of (take i ns)) c.args.buffer.now fits (number_bytes n)
          ∙ ap (λ (xs : List ℕ). with_at c.args.start xs c.args.buffer.now) (sym (bytes_more ns i (omega arith))),
    )

pub returns-clause-place : goal.returns-clause-place
returns-clause-place c = c.loop-number.invariant.0 ∙ ap (λ ns. c.args.start + length (bytes_of ns)) (take_all c.loop-number.number-index c.args.numbers.now (omega arith))

pub returns-clause-buffer : goal.returns-clause-buffer
returns-clause-buffer c = c.loop-number.invariant.1 ∙ ap (λ ns. with_at c.args.start (bytes_of ns) c.args.buffer.now) (take_all c.loop-number.number-index c.args.numbers.now (omega arith))
