use Rattle.std.proofs.Common.{◌≡◌, ℕ, suc, ◌-◌, ◌*◌, ◌%◌, ◌^◌, Bool, false, sym, ap, ◌∙◌, subst, arith}
use mathlib.Core.Bool.{beq}
use lib.Bits.{bit_xor}
use Rattle.std.proofs.lemmas.Nat.{one_shl}
use Rattle.prefix.specs.Bits.{bit, Changed}
use Rattle.prefix.proofs.Masks.{value_inside, flip_changes}
use Rattle.prefix.proofs.line.Line.with.Goals as goal

pub returns : goal.returns
returns c =
    let m = c.args.self.mask in
    let v = c.args.value in
    let i = c.args.position - 1 in
    let at : suc i ≡ c.args.position = omega arith in
    let one : 2 ^ i ≡ (1 * 2 ^ i) % 2 ^ 32 = sym (one_shl i 32 (omega arith)) in
    let other : beq (bit m i) v ≡ false =
    ap (λ (b : Bool). beq b v) (sym (c.value.ensures ∙ value_inside m c.args.position i (sym at))) ∙ c.if-value.false in
    subst (λ (k : ℕ). Changed m k v (bit_xor m ((1 * 2 ^ i) % 2 ^ 32))) at
    (subst (λ (b : ℕ). Changed m (suc i) v (bit_xor m b)) one (flip_changes m i v other))
