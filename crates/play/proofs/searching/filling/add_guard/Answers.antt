use Rattle.std.proofs.Common.{◌≡◌, Bool, true, List, drop, Decides, ap, ◌∙◌, subst}
use Rattle.std.proofs.lemmas.Result.{MatchResult-at_ok}
use Rattle.prefix.specs.Kinds.{is_reply}
use Rattle.prefix.specs.Policies.{Winnable}
use Rattle.prefix.specs.Prefixes.{kinds}
use Rattle.prefix.specs.declared.prefix.Prefix.{Prefix}
use Rattle.play.proofs.LineTo.{with_on}
use Rattle.play.proofs.searching.filling.add_guard.Goals as goal

pub returns-clause-value : goal.returns-clause-value
returns-clause-value g c =
    let q = g.F.Sheet.prefix c.args.sheet.now in
    let j = c.args.position in
    let reply : is_reply (kinds q) j ≡ true = ap (λ (p : Prefix). is_reply (kinds p) j) c.requires.prefixes ∙ c.requires.reply in
    let told = MatchResult-at_ok _ _ _ c.unwrap-on.ensures c.can_win.ensures.told in
    subst (λ (u : List Bool). Decides c.unwrap-on.result (Winnable (g.F.Sheet.kept c.args.sheet.now) (drop j (kinds q)) u))
    (with_on q j c.args.line.mask c.with.result.mask reply c.with.ensures) told.1
