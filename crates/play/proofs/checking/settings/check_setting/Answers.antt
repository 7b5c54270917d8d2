use Rattle.std.proofs.Common.{not, Err, ap, ◌∙◌, subst}
use Rattle.std.proofs.lemmas.Result.{err_from_is_err_and}
use Rattle.prefix.specs.Prefixes.{kinds}
use Rattle.play.specs.Checking.{LineIs}
use Rattle.play.specs.CheckSteps.{setting_of}
use Rattle.play.proofs.CheckedTo.{ended}
use Rattle.play.proofs.checking.settings.check_setting.Goals as goal

pub returns-in_err-line : goal.returns-in_err-line
returns-in_err-line g c =
    let err = err_from_is_err_and c.from_residual.result c.from_residual.ensures.1 in
    rw (err.1 ∙ ap Err err.2) (c.in_err-line.ensures (g.F.Sheet.kept c.args.sheet.now))

pub returns-then-broken : goal.returns-then-broken
returns-then-broken g c =
    let q = c.args.prefix in
    let kept = g.F.Sheet.kept c.args.sheet.now in
    let g' = g.B.Book.guards c.args.book.now in
    let e = c.broken.ensures in (
      c.requires.setting.setting,
      subst (λ b. LineIs (not b) kept g' (kinds q) (setting_of q c.args.setting.mask)) c.if-broken.true
          (ended g' q c.args.setting.mask kept (g.F.Sheet.broken c.args.sheet.now) (g.F.Sheet.prefix c.args.sheet.now) c.len.result c.in_ok-line.line.mask c.broken.result c.requires.prefixes.0 c.len.ensures.value e.sound e.answer c.in_ok-line.ensures),
    )

pub returns : goal.returns
returns g c =
    let q = c.args.prefix in
    let kept = g.F.Sheet.kept c.args.sheet.now in
    let g' = g.B.Book.guards c.args.book.now in
    let e = c.broken.ensures in
    subst (λ b. LineIs (not b) kept g' (kinds q) (setting_of q c.args.setting.mask)) c.if-broken.false
    (ended g' q c.args.setting.mask kept (g.F.Sheet.broken c.args.sheet.now) (g.F.Sheet.prefix c.args.sheet.now) c.len.result c.in_ok-line.line.mask c.broken.result c.requires.prefixes.0 c.len.ensures.value e.sound e.answer c.in_ok-line.ensures)
