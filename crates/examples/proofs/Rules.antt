-- The rule of some literals, as masks, and that it is made of them.
use Rattle.std.proofs.Common.{◌≡◌, ℕ, zero, suc, ◌^◌, Bool, true, false, cond, List, [], ◌∷◌, ◌++◌, Some, None, refl, sym, ap, ◌∙◌, subst, ⊎_elim, append_assoc, append-nil, arith}
use Rattle.std.proofs.lemmas.Bool.{cases_Bool, cond-true, cond-false}
use Rattle.std.specs.Cmp.{booleans_Decides}
use mathlib.Core.Bool.{beq}
use lib.Bits.{bit_xor}
use Rattle.prefix.specs.Bits.{bit, mask_value, Changed}
use Rattle.prefix.proofs.Masks.{bit_past, flip_changes}
use Rattle.sheet.specs.Rules.{wanted_at}
use Rattle.sheet.specs.Literals.{Nameable, Joined, Distinct, Made}
use Rattle.sheet.specs.declared.literal.Literal.{Literal}
use Rattle.sheet.specs.declared.rule.Rule.{Rule}
use Rattle.sheet.proofs.Collected.{some_not_none, made_more, made_next}
use Rattle.sheet.proofs.Joining.{changed_same, joins}

-- A rule with the literal at a position that is wanted on or off.
abbrev rule_at : Rule → ℕ → Bool → Rule
rule_at r zero w = r
rule_at r (suc i) w = record { named = bit_xor r.named (2 ^ i); wanted = cond (beq (bit r.wanted i) w) r.wanted (bit_xor r.wanted (2 ^ i)) }

-- A mask that has the value there is not changed.
wanted_changed : (m i : ℕ) (w : Bool) → Changed m (suc i) w (cond (beq (bit m i) w) m (bit_xor m (2 ^ i)))
wanted_changed m i w =
    ⊎_elim (λ same. changed_same refl (sym (cond-true (beq (bit m i) w) m (bit_xor m (2 ^ i)) same)) (record { here = λ _ _. (booleans_Decides (bit m i) w).0 same; elsewhere = λ k _. refl }))
    (λ other. changed_same refl (sym (cond-false (beq (bit m i) w) m (bit_xor m (2 ^ i)) other)) (flip_changes m i w other)) (cases_Bool (beq (bit m i) w))

joined_at : (r : Rule) (p : ℕ) (w : Bool) → Nameable r (record { position = p; wanted = w }) → Joined r (record { position = p; wanted = w }) (rule_at r p w)
joined_at r zero w h = let range = h.0.0 in absurd (omega arith)
joined_at r (suc i) w h =
    let free : bit r.named i ≡ false =
    ⊎_elim (λ on. absurd (some_not_none (bit r.wanted i) (sym (cond-true (bit r.named i) (Some (bit r.wanted i)) None on) ∙ h.1))) (λ off. off) (cases_Bool (bit r.named i)) in
    joins r (record { position = suc i; wanted = w }) (bit_xor r.named (2 ^ i)) (cond (beq (bit r.wanted i) w) r.wanted (bit_xor r.wanted (2 ^ i))) h.0 free
    (flip_changes r.named i true (ap (λ b. beq b true) free)) (wanted_changed r.wanted i w)

abbrev rule_from : Rule → List Literal → Rule
rule_from r [] = r
rule_from r (l ∷ ls) = rule_from (rule_at r l.position l.wanted) ls

abbrev no_literals : Rule
no_literals = record { named = 0; wanted = 0 }

abbrev pub rule_of : List Literal → Rule
rule_of ls = rule_from no_literals ls

made_of_none : Made [] no_literals
made_of_none = record {
  distinct = tt;
  wanted = none;
  tidy = off;
}
  where
    none : (k : ℕ) → wanted_at no_literals k ≡ None
    none zero = refl
    none (suc i) = cond-false (bit 0 i) (Some (bit 0 i)) None (bit_past 0 0 i (omega arith) (omega arith))

    off : (k : ℕ) → wanted_at no_literals k ≡ None → mask_value 0 k ≡ false
    off zero e = refl
    off (suc i) e = bit_past 0 0 i (omega arith) (omega arith)

made_from : (done ls : List Literal) (r : Rule) → Made done r → Distinct (done ++ ls) → Made (done ++ ls) (rule_from r ls)
made_from done [] r h d = subst (λ xs. Made xs r) (sym (append-nil done)) h
made_from done (l ∷ ls) r h d =
    let r' = rule_at r l.position l.wanted in
    let more = made_more done l r r' h (joined_at r l.position l.wanted (made_next done l ls r h d)) in
    subst (λ xs. Made xs (rule_from r' ls)) (append_assoc done (l ∷ []) ls) (made_from (done ++ l ∷ []) ls r' more (subst Distinct (sym (append_assoc done (l ∷ []) ls)) d))

pub made_of : (ls : List Literal) → Distinct ls → Made ls (rule_of ls)
made_of ls d = made_from [] ls no_literals made_of_none d
