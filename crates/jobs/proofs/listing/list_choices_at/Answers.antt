use Rattle.std.proofs.Common.{◌≡◌, ℕ, true, subst, rules, arith}
use Rattle.prefix.specs.Kinds.{is_reply}
use Rattle.prefix.specs.Lines.{SettingMask}
use Rattle.prefix.specs.Points.{points_at}
use Rattle.prefix.specs.Prefixes.{kinds}
use Rattle.book.specs.declared.side.Side.TheVariants.{On}
use Rattle.jobs.specs.Steps.{ListsTo}
use Rattle.jobs.specs.Steps.{ListsTo}
use Rattle.jobs.proofs.Listed.{choice_pushed, position_listed}
use Rattle.jobs.proofs.listing.list_choices_at.Goals as goal

pub loop-number-preserved : goal.loop-number-preserved
loop-number-preserved g c =
    let p = c.args.prefix in
    let k = c.args.position in
    let setting : SettingMask p k c.loop-number.number c.unwrap-line.result.mask = search rules in
    let reply : is_reply (kinds p) k ≡ true = grind arith in
    choice_pushed (g.B.Book.prefix c.args.book.now) p (g.B.Book.guards c.args.book.now) k c.loop-number.number c.unwrap-line.result.mask _ c.loop-number.listed.items c.push.new.self.items
    c.requires.prefix reply setting (search rules) c.in_ok-push.ensures.items c.loop-number.invariant

pub returns : goal.returns
returns g c =
    let p = g.B.Book.guards c.args.book.now On in
    let all : c.loop-number.number ≡ points_at (kinds c.args.prefix) c.args.position = omega arith in
    position_listed (kinds c.args.prefix) p c.args.position c.loop-number.listed.items
    (subst (λ (s : ℕ). ListsTo (kinds c.args.prefix) p c.args.position s c.loop-number.listed.items) all c.loop-number.invariant)
