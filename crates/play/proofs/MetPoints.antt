-- Which points are met so far, one position and one setting further.
use Rattle.std.proofs.Common.{◌≡◌, ℕ, ◌+◌, ◌<◌, ◌≤◌, Bool, true, false, inl, inr, List, sym, ◌∙◌, ⊎_elim, arith}
use Rattle.std.proofs.lemmas.Bool.{cases_lt}
use Rattle.std.proofs.lemmas.Bool.Decides.{nat_tests}
use Rattle.prefix.specs.Policies.{Policy}
use Rattle.prefix.specs.declared.kind.Kind.{Kind}
use Rattle.play.specs.Filling.{first_number, guard_of, MetBefore, MetOnce}
use Rattle.play.specs.Steps.{met}

module _ (ks : List Kind) (k : ℕ) (v : List Bool) where
  abbrev first : ℕ
  first = first_number ks k v

  pub met_none : 1 ≤ k → met ks 0 1 k v ≡ false
  met_none h = grind (arith, nat_tests)

  pub met_at : (s j : ℕ) → k ≡ j → met ks s j k v ≡ true → first < s
  met_at s j e h = grind (arith, nat_tests)

  pub met_not_yet : (s j : ℕ) → k ≡ j → first ≡ s → met ks s j k v ≡ false
  met_not_yet s j e f = grind (arith, nat_tests)

  pub met_now : (s j : ℕ) → k ≡ j → first ≡ s → met ks s (j + 1) k v ≡ true
  met_now s j e f = grind (arith, nat_tests)

  pub met_else : (s j : ℕ) → ((k ≡ j) × (first ≡ s) → ⊥) → met ks s (j + 1) k v ≡ met ks s j k v
  met_else s j ne = grind (arith, nat_tests)

  pub met_earlier : (s j : ℕ) → first < s → met ks s j k v ≡ true
  met_earlier s j h = grind (arith, nat_tests)

  pub met_setting : (s e : ℕ) → 1 ≤ k → k ≤ e → met ks (s + 1) 1 k v ≡ met ks s (e + 1) k v
  met_setting s e h l = grind (arith, nat_tests)

  pub met_all : (s : ℕ) → first < s → met ks s 1 k v ≡ true
  met_all s h = grind (arith, nat_tests)

  met_here : (s j : ℕ) → met ks s j k v ≡ true → s ≤ first → first ≡ s
  met_here s j h l = grind (arith, nat_tests)

  met_before_position : (s j : ℕ) → met ks s j k v ≡ true → s ≤ first → k < j
  met_before_position s j h l = grind (arith, nat_tests)

  -- What is met so far is met before the next.
  pub met_before : (p : Policy) (s j : ℕ) (w : List Bool) → met ks s j k v ≡ true → first_number ks j w ≡ s → MetBefore ks (guard_of p k v) (guard_of p j w)
  met_before p s j w h e =
      ⊎_elim (λ (l : first < s). inl (omega arith)) (λ (l : s ≤ first). inr (met_here s j h l ∙ sym e, omega (arith, met_before_position s j h l))) (cases_lt first s)

-- No guard is met before itself.
pub met_once : (ks : List Kind) → MetOnce ks
met_once ks a h = ⊎_elim (λ l. omega arith) (λ t. let l = t.1 in omega arith) h
