use Rattle.std.proofs.Common.{◌≡◌, ℕ, ◌+◌, ◌^◌, ◌≤◌, Bool, List, rules, sym, subst, arith}
use Rattle.std.proofs.lemmas.Nat.{pow_pos}
use Rattle.prefix.specs.Kinds.{report_count}
use Rattle.prefix.specs.Lines.{SettingMask}
use Rattle.prefix.specs.Prefixes.{kinds}
use Rattle.prefix.specs.Settings.{number}
use Rattle.prefix.specs.declared.prefix.Prefix.{Prefix}
use Rattle.book.specs.Guards.{Guards}
use Rattle.play.specs.Checking.{NoFault, FaultOn, Concludes}
use Rattle.play.specs.CheckSteps.{setting_of}
use Rattle.play.specs.declared.verdict.Verdict.{Verdict}
use Rattle.play.proofs.CheckedTo.{whole_setting}
use Rattle.play.proofs.Verdicts.{NoneBelow, none_below_next, concludes_accepted, concludes_fault}
use Rattle.play.proofs.checking.settings.check_settings.Goals as goal

-- The setting of number n, where no setting before it has a fault.
module _ (kept : List Bool → Bool) (g : Guards) (q : Prefix) (n a : ℕ) (at : SettingMask q (q.length + 1) n a) (none : NoneBelow kept g (kinds q) n) where
  none_before : NoneBelow kept g (kinds q) (number (setting_of q a))
  none_before = subst (NoneBelow kept g (kinds q)) (sym at.setting) none

  ends : (v : Verdict) → n + 1 ≤ 2 ^ report_count (kinds q) → FaultOn kept g (kinds q) (setting_of q a) v → Concludes kept g (kinds q) (record { verdict = v; tried = n + 1 })
  ends v few fault = concludes_fault kept g (kinds q) v (n + 1) (setting_of q a) (omega arith) few (whole_setting g q a) none_before fault

  goes_on : NoFault kept g (kinds q) (setting_of q a) → NoneBelow kept g (kinds q) (n + 1)
  goes_on whole = subst (λ (m : ℕ). NoneBelow kept g (kinds q) (m + 1)) at.setting (none_below_next kept g (kinds q) (setting_of q a) (whole_setting g q a) whole none_before)

pub returns-in-Err : goal.returns-in-Err
returns-in-Err g c =
    ends (g.F.Sheet.kept c.args.sheet.now) (g.B.Book.guards c.args.book.now) c.args.prefix c.loop-number.number c.unwrap-setting.result.mask (search rules) c.loop-number.invariant
    c.in-Err.verdict (omega (arith, c.setting_count-number-end.ensures.value)) c.in-Err.ensures

pub loop-number-preserved : goal.loop-number-preserved
loop-number-preserved g c =
    goes_on (g.F.Sheet.kept c.args.sheet.now) (g.B.Book.guards c.args.book.now) c.args.prefix c.loop-number.number c.unwrap-setting.result.mask (search rules) c.loop-number.invariant
    c.in_default.ensures

pub returns : goal.returns
returns g c =
    let q = c.args.prefix in
    let r : ℕ = report_count (kinds q) in
    let count : c.setting_count.result ≡ 2 ^ r = c.setting_count.ensures.value in
    concludes_accepted (g.F.Sheet.kept c.args.sheet.now) (g.B.Book.guards c.args.book.now) (kinds q) c.setting_count.result (omega (arith, count, pow_pos r)) (omega arith)
    (subst (NoneBelow (g.F.Sheet.kept c.args.sheet.now) (g.B.Book.guards c.args.book.now) (kinds q)) (omega arith) c.loop-number.invariant)
