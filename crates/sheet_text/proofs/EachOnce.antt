-- Variables that are all different and as many as there may be are all there.
use Rattle.std.proofs.lemmas.Bool.Decides.{nat_tests}
use Rattle.std.proofs.Common.{All, ◌≡◌, ℕ, zero, suc, ◌≤◌, true, false, cond, eqb, List, [], ◌∷◌, length, sym, refl, ap, ◌∙◌, subst, ⊎_elim, arith}
use Rattle.std.proofs.lemmas.List.{length-map}
use Rattle.std.proofs.lemmas.Bool.{cases_Bool, cases_eq, cond-true, eqb-true, eqb-false}
use Rattle.std.proofs.lemmas.List.Elements.{All-nil, All-cons, All-head, All-tail}
use Rattle.prefix.specs.declared.kind.Kind.TheVariants.{Reply}
use Rattle.sheet_text.specs.Grammar.{Variable, variable, one_more, position_in, Once, EachNamed}
use Rattle.sheet_text.proofs.Naming.{Ranged, absent_parts, position_after}

-- The order without a variable.
abbrev removed : ℕ → List Variable → List Variable
removed v [] = []
removed v (q ∷ qs) = cond (eqb v q.name) qs (q ∷ removed v qs)

module _ (v : ℕ) (q : Variable) (qs : List Variable) where
  removed_here : eqb v q.name ≡ true → removed v (q ∷ qs) ≡ qs
  removed_here e = grind (arith, nat_tests)

  removed_later : eqb v q.name ≡ false → removed v (q ∷ qs) ≡ q ∷ removed v qs
  removed_later e = grind (arith, nat_tests)

one_more-some : (k : ℕ) → (one_more k ≡ 0 → ⊥) → k ≡ 0 → ⊥
one_more-some k ne e = ne (ap one_more e)

removed_one : (v : ℕ) (qs : List Variable) → (position_in qs v ≡ 0 → ⊥) → length qs ≡ suc (length (removed v qs))
removed_one v [] ne = absurd (ne refl)
removed_one v (q ∷ qs) ne =
    ⊎_elim (λ (t : eqb v q.name ≡ true). ap (λ (xs : List Variable). suc (length xs)) (sym (removed_here v q qs t)))
    (λ (f : eqb v q.name ≡ false).
    let some : position_in qs v ≡ 0 → ⊥ = one_more-some (position_in qs v) (λ e. ne (position_after q qs v (eqb-false v q.name f) ∙ e)) in
    ap suc (removed_one v qs some) ∙ ap (λ (xs : List Variable). suc (length xs)) (sym (removed_later v q qs f)))
    (cases_Bool (eqb v q.name))

removed_absent : (v x : ℕ) (qs : List Variable) → position_in qs x ≡ 0 → position_in (removed v qs) x ≡ 0
removed_absent v x [] e = refl
removed_absent v x (q ∷ qs) e =
    let apart = absent_parts q qs x e in
    ⊎_elim (λ (t : eqb v q.name ≡ true). ap (λ (xs : List Variable). position_in xs x) (removed_here v q qs t) ∙ apart.1)
    (λ (f : eqb v q.name ≡ false). ap (λ (xs : List Variable). position_in xs x) (removed_later v q qs f) ∙ position_after q (removed v qs) x apart.0 ∙ ap one_more (removed_absent v x qs apart.1))
    (cases_Bool (eqb v q.name))

removed_gone : (v : ℕ) (qs : List Variable) → Once qs → position_in (removed v qs) v ≡ 0
removed_gone v [] o = refl
removed_gone v (q ∷ qs) o =
    ⊎_elim (λ (t : eqb v q.name ≡ true). ap (λ (xs : List Variable). position_in xs v) (removed_here v q qs t) ∙ ap (position_in qs) (eqb-true v q.name t) ∙ o.0)
    (λ (f : eqb v q.name ≡ false). ap (λ (xs : List Variable). position_in xs v) (removed_later v q qs f) ∙ position_after q (removed v qs) v (eqb-false v q.name f) ∙ ap one_more (removed_gone v qs o.1))
    (cases_Bool (eqb v q.name))

removed_once : (v : ℕ) (qs : List Variable) → Once qs → Once (removed v qs)
removed_once v [] o = tt
removed_once v (q ∷ qs) o =
    ⊎_elim (λ (t : eqb v q.name ≡ true). subst Once (sym (removed_here v q qs t)) o.1)
    (λ (f : eqb v q.name ≡ false). subst Once (sym (removed_later v q qs f)) (removed_absent v q.name qs o.0, removed_once v qs o.1))
    (cases_Bool (eqb v q.name))

removed_all : (P : Variable → Type 0) (v : ℕ) (qs : List Variable) → All P qs → All P (removed v qs)
removed_all P v [] h = All-nil P
removed_all P v (q ∷ qs) h =
    ⊎_elim (λ (t : eqb v q.name ≡ true). subst (All P) (sym (removed_here v q qs t)) (All-tail P q qs h))
    (λ (f : eqb v q.name ≡ false). subst (All P) (sym (removed_later v q qs f)) (All-cons P q (removed v qs) (All-head P q qs h) (removed_all P v qs (All-tail P q qs h))))
    (cases_Bool (eqb v q.name))

-- Without the last variable the others come before it.
narrower : (n : ℕ) (qs : List Variable) → All (Ranged (suc n)) qs → position_in qs (suc n) ≡ 0 → All (Ranged n) qs
narrower n [] r e = All-nil (Ranged n)
narrower n (q ∷ qs) r e =
    let apart = absent_parts q qs (suc n) e in
    let other : suc n ≡ q.name → ⊥ = apart.0 in
    let here : Ranged (suc n) q = All-head (Ranged (suc n)) q qs r in
    All-cons (Ranged n) q qs (here.0, omega (arith, here.1)) (narrower n qs (All-tail (Ranged (suc n)) q qs r) apart.1)

-- At most n variables from 1 to n are all different.
at_most : (n : ℕ) (qs : List Variable) → Once qs → All (Ranged n) qs → length qs ≤ n
at_most zero [] o r = omega arith
at_most zero (q ∷ qs) o r = let here : Ranged 0 q = All-head (Ranged 0) q qs r in absurd (omega (arith, here.0, here.1))
at_most (suc n) qs o r =
    ⊎_elim (λ (e : position_in qs (suc n) ≡ 0). omega (arith, at_most n qs o (narrower n qs r e)))
    (λ (ne : position_in qs (suc n) ≡ 0 → ⊥).
    let rest = at_most n (removed (suc n) qs) (removed_once (suc n) qs o) (narrower n (removed (suc n) qs) (removed_all (Ranged (suc n)) (suc n) qs r) (removed_gone (suc n) qs o)) in
    omega (arith, removed_one (suc n) qs ne))
    (cases_eq (position_in qs (suc n)) 0)

one_more_le : (k n : ℕ) → k ≤ n → one_more k ≤ suc n
one_more_le zero n h = omega arith
one_more_le (suc k) n h = omega arith

position_le : (qs : List Variable) (v : ℕ) → position_in qs v ≤ length qs
position_le [] v = omega arith
position_le (q ∷ qs) v =
    ⊎_elim (λ (t : eqb v q.name ≡ true). let one : position_in (q ∷ qs) v ≡ 1 = cond-true (eqb v q.name) 1 (one_more (position_in qs v)) t in omega arith)
    (λ (f : eqb v q.name ≡ false). let more : position_in (q ∷ qs) v ≡ one_more (position_in qs v) = position_after q qs v (eqb-false v q.name f) in omega (arith, one_more_le (position_in qs v) (length qs) (position_le qs v)))
    (cases_Bool (eqb v q.name))

pub each-named : (t : List ℕ) → EachNamed t
each-named t s h v range =
    let qs = h.variables in
    let n = length s.kinds in
    let good = h.lines.quantified in
    let long : length qs ≡ n = sym (ap length h.kinds ∙ length-map qs (λ q. q.kind)) in
    let some : position_in qs v ≡ 0 → ⊥ = λ e. omega (arith, at_most n (variable Reply v ∷ qs) (e, good.once) (All-cons (Ranged n) (variable Reply v) qs range good.range)) in
    (omega arith, omega (arith, position_le qs v))
