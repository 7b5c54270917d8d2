use Rattle.std.proofs.Common.{◌≡◌, ℕ, ◌+◌, refl, ◌∙◌, subst, arith, length}
use Rattle.prefix.specs.Prefixes.{kinds}
use Rattle.prefix.proofs.Positions.{length-kinds}
use Rattle.play.specs.Steps.{FilledTo}
use Rattle.play.specs.Filling.{AddsOne}
use Rattle.play.proofs.LineTo.{line_first}
use Rattle.play.proofs.FilledTo.{upto_setting}
use Rattle.play.proofs.searching.filling.take_setting.Goals as goal

pub loop-position-init : goal.loop-position-init
loop-position-init g c =
    (c.requires.prefixes.1, c.requires.room, refl, (refl, c.requires.stack.1), refl, λ p start h f. (f, line_first c.args.prefix p c.args.setting.mask))

pub loop-position-preserved : goal.loop-position-preserved
loop-position-preserved g c =
    let i = c.loop-position.invariant in
    let e = c.take_position-line.ensures in (
      e.prefix,
      e.room,
      e.memory ∙ i.2,
      (e.stack.0 ∙ i.3.0, e.stack.1),
      e.name ∙ i.4,
      λ p start h f. let so_far = i.5 p start h f in e.passed p start c.args.setting.mask h c.requires.setting so_far.1 so_far.0,
    )

pub returns-2-clause-filled : goal.returns-2-clause-filled
returns-2-clause-filled g c p start h f =
    let q = c.args.prefix in
    let so_far = c.loop-position.invariant.5 p start h f in
    let past = c.take_position-line.ensures.passed p start c.args.setting.mask h c.requires.setting so_far.1 so_far.0 in
    let last : c.loop-position.position + 1 ≡ length (kinds q) + 1 = omega (arith, length-kinds q.length q.reports) in
    upto_setting (AddsOne g.B.FillableBook.Adds g.B.Book.guards (kinds q)) (kinds q) p start c.args.number c.take_position-line.new.book (g.B.Book.guards c.take_position-line.new.book)
    (subst (λ (j : ℕ). FilledTo (AddsOne g.B.FillableBook.Adds g.B.Book.guards (kinds q)) (kinds q) p c.args.number j start c.take_position-line.new.book (g.B.Book.guards c.take_position-line.new.book)) last past.0)
