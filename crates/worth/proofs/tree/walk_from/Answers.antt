use Rattle.std.proofs.Common.{◌≡◌, ℕ, suc, ◌+◌, ◌-◌, ◌<◌, ◌≤◌, Bool, true, false, not, List, length, drop, sym, refl, ap, ◌∙◌, subst, add-one, arith}
use mathlib.Core.Bool.{beq}
use Rattle.std.specs.Option.{is_some}
use Rattle.std.proofs.lemmas.List.{get_or_read}
use Rattle.prefix.specs.Bits.{bits, mask_value}
use Rattle.prefix.specs.Kinds.{is_report}
use Rattle.prefix.specs.Prefixes.{kinds}
use Rattle.prefix.specs.declared.kind.Kind.{Kind}
use Rattle.prefix.specs.declared.prefix.Prefix.{Prefix}
use Rattle.prefix.proofs.Masks.{value_inside, changed_here, changed_before}
use Rattle.prefix.proofs.Positions.{length-kinds}
use Rattle.worth.specs.Scales.{joined}
use Rattle.worth.specs.Worth.{worth}
use Rattle.worth.proofs.Turns.{second, Down, Over, fewer_known, fewer_down, fewer_up, fewer_over}
use Rattle.worth.proofs.Holding.{holds-start, holds_down, holds_up, holds-cut, holds_over, holds_end}
use Rattle.worth.proofs.tree.walk_from.Given as given
use Rattle.worth.proofs.tree.walk_from.Goals as goal
use Rattle.worth.proofs.tree.walk_from.Goals.{After-with-part}

-- Which branch a line is in, from what the code asks at position d.
branch : (ks : List Kind) (line d k : ℕ) (value report : Bool) (b : Bool) → d ≡ suc k → value ≡ mask_value line d → report ≡ is_report ks d → beq value report ≡ b → second ks line k ≡ b
branch ks line d k value report b e v r t =
    ap (λ (x : Bool). beq x (is_report ks (suc k))) (sym (v ∙ value_inside line d k e)) ∙ ap (λ (y : Bool). beq value y) (sym (r ∙ ap (is_report ks) e)) ∙ t

pub loop-known-init : goal.loop-known-init
loop-known-init g c =
    let p = c.prefix-prefix.result in
    let within : c.args.from.length ≤ p.length = subst (λ (q : Prefix). c.args.from.length ≤ q.length) (sym c.prefix-prefix.ensures) c.requires.within in
    holds-start _ _ _ _ _ _ _ (omega (arith, length-kinds p.length p.reports)) refl

pub loop-known-smaller-in-Some-leaf_worth : goal.loop-known-smaller-in-Some-leaf_worth
loop-known-smaller-in-Some-leaf_worth g c = fewer_known _ _ _ _ _ (ap is_some c.in-None.is) refl

-- Going down: there is a next position, and the line has the first value there.
down : (g : given.Over) (c : After-with-part g) → Down (kinds c.prefix-prefix.result) c.loop-known.part.length c.loop-known.part.line.mask c.with-part.result.mask
down g c =
    let p = c.prefix-prefix.result in
    let d = c.loop-known.part.length in
    let line = c.loop-known.part.line.mask in
    let to = c.with-part.result.mask in
    let next = add-one d in
    let long = length-kinds p.length p.reports in
    let more : d < c.len-n.result = c.in-None-leaf_worth.ensures in
    record {
      inside = omega (arith, c.len-n.ensures.value);
      first = changed_here line (d + 1) d to _ c.with-part.ensures next (omega (arith, c.len-n.ensures.few)) ∙ ap not (c.is_report.ensures ∙ ap (is_report (kinds p)) next);
      before = changed_before line (d + 1) d to _ c.with-part.ensures next;
    }

pub loop-known-smaller-in-None-leaf_worth : goal.loop-known-smaller-in-None-leaf_worth
loop-known-smaller-in-None-leaf_worth g c =
    let s = down g c in fewer_down _ _ _ _ _ _ (ap is_some c.in-None.is) (ap is_some c.in-None.is) s.inside s.first s.before

pub loop-known-preserved-in-None-leaf_worth : goal.loop-known-preserved-in-None-leaf_worth
loop-known-preserved-in-None-leaf_worth g c =
    let s = down g c in holds_down _ _ _ _ _ _ _ _ _ c.loop-known.invariant _ c.in-None.is s.inside s.first s.before _ c.in-None.is

pub returns-then-part-from : goal.returns-then-part-from
returns-then-part-from g c =
    let from = c.args.from in
    holds_end _ _ _ _ _ _ _ _ _ c.loop-known.invariant _ c.in-Some.is c.if-part-from.true
    ∙ ap (λ (q : Prefix). worth g.S.Scale.joins (g.F.Sheet.kept c.args.sheet.now) (drop from.length (kinds q)) (bits from.length from.line.mask)) c.prefix-prefix.ensures

pub loop-known-smaller-then-value-report : goal.loop-known-smaller-then-value-report
loop-known-smaller-then-value-report g c =
    let d = c.loop-known.part.length in
    let e : d ≡ suc (d - 1) = omega arith in
    fewer_up _ d (d - 1) _ _ (ap is_some c.in-Some.is) e true (branch _ _ d (d - 1) _ _ true e c.value.ensures c.is_report-report.ensures c.if-value-report.true)

pub loop-known-preserved-then-value-report : goal.loop-known-preserved-then-value-report
loop-known-preserved-then-value-report g c =
    let p = c.prefix-prefix.result in
    let d = c.loop-known.part.length in
    let j = g.S.Scale.joins in
    let e : d ≡ suc (d - 1) = omega arith in
    let room : p.length ≤ length c.args.cells.now = subst (λ (q : Prefix). q.length ≤ length c.args.cells.now) (sym c.prefix-prefix.ensures) c.requires.cells in
    let cell = get_or_read c.loop-known.cells (d - 1) c.index-cells-last.result
    (omega (arith, c.loop-known.invariant.within, length-kinds p.length p.reports, c.loop-known.auto.cells)) c.index-cells-last.is j.lost in
    holds_up _ _ _ _ _ _ _ _ _ c.loop-known.invariant _ c.in-Some.is (d - 1) e c.if-part-from.false c.index-cells-last.result c.join.result
    (branch _ _ d (d - 1) _ _ true e c.value.ensures c.is_report-report.ensures c.if-value-report.true) (sym cell)
    (c.join.ensures ∙ ap (λ (q : Bool). joined j q c.index-cells-last.result c.in-Some.worth) (c.is_report-report.ensures ∙ ap (is_report (kinds p)) e))

pub loop-known-smaller-then-is_settled : goal.loop-known-smaller-then-is_settled
loop-known-smaller-then-is_settled g c =
    let d = c.loop-known.part.length in
    let e : d ≡ suc (d - 1) = omega arith in
    fewer_up _ d (d - 1) _ _ (ap is_some c.in-Some.is) e false (branch _ _ d (d - 1) _ _ false e c.value.ensures c.is_report-report.ensures c.if-value-report.false)

pub loop-known-preserved-then-is_settled : goal.loop-known-preserved-then-is_settled
loop-known-preserved-then-is_settled g c =
    let p = c.prefix-prefix.result in
    let d = c.loop-known.part.length in
    let j = g.S.Scale.joins in
    let e : d ≡ suc (d - 1) = omega arith in
    let report = c.is_report-report.ensures ∙ ap (is_report (kinds p)) e in
    holds-cut _ _ _ _ _ _ _ _ _ c.loop-known.invariant _ c.in-Some.is (d - 1) e c.if-part-from.false
    (branch _ _ d (d - 1) _ _ false e c.value.ensures c.is_report-report.ensures c.if-value-report.false)
    (λ y. ap (λ (q : Bool). joined j q c.in-Some.worth y) (sym report) ∙ c.is_settled.ensures c.if-is_settled.true y)

-- Going over: the line was in the first branch and has the second value now.
over : (g : given.Over) (c : goal.After-with-part-else-is_settled g) → Over (kinds c.prefix-prefix.result) (c.loop-known.part.length - 1) c.loop-known.part.line.mask c.with-part-else-is_settled.result.mask
over g c =
    let p = c.prefix-prefix.result in
    let d = c.loop-known.part.length in
    let line = c.loop-known.part.line.mask in
    let to = c.with-part-else-is_settled.result.mask in
    let e : d ≡ suc (d - 1) = omega arith in
    let few : d - 1 < 32 = omega (arith, c.loop-known.invariant.within, length-kinds p.length p.reports) in
    record {
      was = branch _ _ d (d - 1) _ _ false e c.value.ensures c.is_report-report.ensures c.if-value-report.false;
      second = changed_here line d (d - 1) to _ c.with-part-else-is_settled.ensures e few ∙ c.is_report-report.ensures ∙ ap (is_report (kinds p)) e;
      before = changed_before line d (d - 1) to _ c.with-part-else-is_settled.ensures e;
    }

pub loop-known-smaller : goal.loop-known-smaller
loop-known-smaller g c =
    let s = over g c in
    let d = c.loop-known.part.length in
    let e : d ≡ suc (d - 1) = omega arith in
    fewer_over _ _ _ _ _ _ (ap is_some c.in-Some.is) e s.was s.second s.before

pub loop-known-preserved : goal.loop-known-preserved
loop-known-preserved g c =
    let p = c.prefix-prefix.result in
    let s = over g c in
    let d = c.loop-known.part.length in
    let e : d ≡ suc (d - 1) = omega arith in
    let room : p.length ≤ length c.args.cells.now = subst (λ (q : Prefix). q.length ≤ length c.args.cells.now) (sym c.prefix-prefix.ensures) c.requires.cells in
    holds_over _ _ _ _ _ _ _ _ _ c.loop-known.invariant _ c.in-Some.is _ e c.if-part-from.false _
    (omega (arith, c.loop-known.invariant.within, length-kinds p.length p.reports, c.loop-known.auto.cells)) s.was s.second s.before
