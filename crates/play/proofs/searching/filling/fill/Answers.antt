use Rattle.std.proofs.Common.{◌≡◌, ℕ, ◌^◌, refl, ◌∙◌, subst, arith}
use Rattle.prefix.specs.Kinds.{report_count}
use Rattle.prefix.specs.Prefixes.{kinds}
use Rattle.play.specs.Steps.{FilledTo}
use Rattle.play.specs.Filling.{AddsOne}
use Rattle.play.proofs.FilledTo.{upto_none}
use Rattle.play.proofs.searching.filling.fill.Goals as goal

pub loop-number-init : goal.loop-number-init
loop-number-init g c =
    let book = c.args.book.now in (
      c.requires.prefixes.1,
      c.requires.room,
      refl,
      (refl, c.requires.stack.1),
      refl,
      λ p h. upto_none (AddsOne g.B.FillableBook.Adds g.B.Book.guards (kinds c.args.prefix)) (kinds c.args.prefix) p book (g.B.Book.guards book) c.requires.none,
    )

pub loop-number-preserved : goal.loop-number-preserved
loop-number-preserved g c =
    let i = c.loop-number.invariant in
    let e = c.take_setting.ensures in
    (e.prefix, e.room, e.memory ∙ i.2, (e.stack.0 ∙ i.3.0, e.stack.1), e.name ∙ i.4, λ p h. e.filled p c.args.book.now h (i.5 p h))

pub returns-clause-filled : goal.returns-clause-filled
returns-clause-filled g c p h =
    let all : c.loop-number.number ≡ 2 ^ report_count (kinds c.args.prefix) = omega arith in
    subst (λ (s : ℕ). FilledTo (AddsOne g.B.FillableBook.Adds g.B.Book.guards (kinds c.args.prefix)) (kinds c.args.prefix) p s 1 c.args.book.now c.loop-number.book (g.B.Book.guards c.loop-number.book)) all (c.loop-number.invariant.5 p h)
