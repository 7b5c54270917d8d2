use Rattle.std.proofs.Common.{ℕ, sym, ap, ◌∙◌, arith}
use Rattle.prefix.specs.Bits.{mask_value}
use Rattle.sheet.proofs.Joining.{changed_same, joins}
use Rattle.sheet.proofs.rule.Rule.with.Goals as goal

pub returns : goal.returns
returns c =
    let p = c.args.literal.position in
    let free = ap (λ (m : ℕ). mask_value m p) (sym c.from_mask-named.ensures) ∙ sym c.value.ensures ∙ c.if-value.false in
    joins c.args.self c.args.literal c.mask.result c.mask-2.result (omega arith, omega arith) free
    (changed_same c.from_mask-named.ensures (sym c.mask.ensures) c.with.ensures)
    (changed_same c.from_mask.ensures (sym c.mask-2.ensures) c.with-wanted.ensures)
