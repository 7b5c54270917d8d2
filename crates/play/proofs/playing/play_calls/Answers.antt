use Rattle.std.proofs.Common.{◌≡◌, ℕ, ◌<◌, ◌∙◌, length, take, sym, ap, subst, arith}
use Rattle.prefix.specs.Prefixes.{kinds}
use Rattle.prefix.specs.declared.prefix.Prefix.{Prefix}
use Rattle.play.specs.Checking.{MeansWinning}
use Rattle.play.proofs.PlayedTo.{played_none, played_more, played_all, linked_none, linked_more}
use Rattle.play.proofs.playing.play_calls.Goals as goal

pub loop-at-init : goal.loop-at-init
loop-at-init g c =
    let opened = c.in_ok-round.ensures.answer.2 in
    let calls = c.args.calls.now in (
      played_none g.B.Book.prefix g.B.Book.guards c.args.book.now calls c.args.answers.now c.in_ok-round.round (ap (λ b. b.now) opened.book_lent) opened.empty,
      linked_none g.B.Book.prefix g.B.Book.guards c.in_ok-round.round calls c.args.answers.now,
    )

pub loop-at-preserved : goal.loop-at-preserved
loop-at-preserved g c =
    let few = c.min-played.ensures in
    let calls = c.args.calls.now in
    let i : ℕ = c.loop-at.at in
    let in_calls : i < length calls = omega (arith, few) in
    let in_answers : i < length c.loop-at.answers = omega (arith, few, c.loop-at.auto.answers) in (
      played_more g.B.Book.prefix g.B.Book.guards c.args.book.now calls c.args.answers.now i c.loop-at.answers c.loop-at.round c.play.new.self _ c.play.result in_calls in_answers c.loop-at.invariant.0 c.play.ensures,
      linked_more g.B.Book.prefix g.B.Book.guards c.in_ok-round.round calls i c.loop-at.answers c.loop-at.round c.play.new.self _ c.play.result in_calls in_answers c.loop-at.invariant.1 c.play.ensures,
    )

pub returns : goal.returns
returns g c =
    let kept = g.F.Sheet.kept c.args.sheet.now in
    let g' = g.B.Book.guards c.args.book.now in
    let opened = c.in_ok-round.ensures.answer in
    let few = c.min-played.ensures in
    let all : c.loop-at.at ≡ c.min-played.result = omega arith in
    let played = played_all g.B.Book.prefix g.B.Book.guards c.args.book.now c.args.calls.now c.args.answers.now kept (subst (λ (p : Prefix). MeansWinning kept g' (kinds p)) opened.0 opened.1)
    c.loop-at.at c.loop-at.answers c.loop-at.round c.so_far.result (omega (arith, few)) c.so_far.ensures.values c.loop-at.invariant.0 in
    let linked = c.loop-at.invariant.1 in
    record {
      answer = (
        opened.0,
        opened.1,
        few,
        rw opened.0 (rw (sym all) played),
        record {
          first = c.in_ok-round.round;
          opened = opened.2;
          made = linked.made;
          last = c.loop-at.round;
          chain = linked.chain;
          calls_made = linked.calls_made ∙ ap (λ (j : ℕ). take j c.args.calls.now) all;
          answers_given = linked.answers_given ∙ ap (λ (j : ℕ). take j c.loop-at.answers) all;
          last_values = c.so_far.ensures.values;
        },
      );
    }
