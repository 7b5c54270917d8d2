-- A rule with one literal more, by its two masks.
use Rattle.std.proofs.Common.{◌≡◌, ℕ, zero, suc, Bool, true, false, cond, Some, None, Option, sym, refl, ap, ◌∙◌, subst, ⊎_elim, arith}
use Rattle.std.proofs.lemmas.Bool.{cond-false, cases_eq}
use Rattle.prefix.specs.Bits.{mask_value, Changed}
use Rattle.sheet.specs.Rules.{wanted_at}
use Rattle.sheet.specs.Literals.{InRange, Joined}
use Rattle.sheet.specs.declared.literal.Literal.{Literal}
use Rattle.sheet.specs.declared.rule.Rule.{Rule}
use Rattle.sheet.proofs.Collected.{some_not_none}

abbrev wanted_by : Bool → Bool → Option Bool
wanted_by named wanted = cond named (Some wanted) None

-- What a rule wants, by the values of its masks.
wanted_value : (r : Rule) (k : ℕ) → wanted_at r k ≡ wanted_by (mask_value r.named k) (mask_value r.wanted k)
wanted_value r zero = refl
wanted_value r (suc i) = refl

pub changed_same : {a a' b b' p : ℕ} {v : Bool} → a ≡ a' → b ≡ b' → Changed a p v b → Changed a' p v b'
changed_same {a} {a'} {b} {b'} {p} {v} e f h =
    subst (λ (x : ℕ). Changed x p v b') e (subst (λ (y : ℕ). Changed a p v y) f h)

pub joins : (r : Rule) (l : Literal) (named wanted : ℕ) → InRange l → mask_value r.named l.position ≡ false
    → Changed r.named l.position true named → Changed r.wanted l.position l.wanted wanted
    → Joined r l (record { named = named; wanted = wanted })
joins r l named wanted range free n w =
    let r' : Rule = record { named = named; wanted = wanted } in
    let p = l.position in
    let else : (k : ℕ) → (k ≡ p → ⊥) → wanted_at r' k ≡ wanted_at r k =
    λ k ne. wanted_value r' k ∙ ap (λ (b : Bool). wanted_by b (mask_value wanted k)) (n.elsewhere k ne)
    ∙ ap (λ (b : Bool). wanted_by (mask_value r.named k) b) (w.elsewhere k ne) ∙ sym (wanted_value r k) in
    let at : wanted_at r' p ≡ Some l.wanted =
    wanted_value r' p ∙ ap (λ (b : Bool). wanted_by b (mask_value wanted p)) (n.here range.0 (omega arith))
    ∙ ap (λ (b : Bool). Some b) (w.here range.0 (omega arith)) in
    record {
      nameable = (range, wanted_value r p ∙ cond-false (mask_value r.named p) (Some (mask_value r.wanted p)) None free);
      here = at;
      elsewhere = else;
      tidy = λ t k e. ⊎_elim (λ (same : k ≡ p). absurd (some_not_none l.wanted (sym at ∙ ap (wanted_at r') (sym same) ∙ e)))
          (λ (ne : k ≡ p → ⊥). w.elsewhere k ne ∙ t k (sym (else k ne) ∙ e)) (cases_eq k p);
    }
