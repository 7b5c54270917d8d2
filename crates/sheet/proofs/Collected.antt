-- Rules put together from literals, one after the other.
use Rattle.std.proofs.Common.{◌≡◌, ℕ, Bool, true, false, cond, eqb, List, [], ◌∷◌, ◌++◌, Some, None, Option, sym, refl, ap, ◌∙◌, subst, ⊎_elim, arith}
use Rattle.std.proofs.lemmas.Bool.{cases_eq, cases_Bool, cond-true, cond-false, eq-eqb, ne_eqb, eqb-false}
use Rattle.sheet.specs.Rules.{wanted_at}
use Rattle.sheet.specs.Literals.{InRange, Nameable, Joined, Distinct, Made, lookup}
use Rattle.sheet.specs.declared.literal.Literal.{Literal}
use Rattle.sheet.specs.declared.rule.Rule.{Rule}

pub some_not_none : {A : Type 0} (x : A) → ◌≡◌ {A = Option A} (Some x) None → ⊥
some_not_none x e = let z : ◌≡◌ {A = ℕ} 0 1 = cc in omega arith

-- What a list with nothing at a position has in its parts.
none_parts : (l : Literal) (ls : List Literal) (k : ℕ) → lookup (l ∷ ls) k ≡ None → (k ≡ l.position → ⊥) × (lookup ls k ≡ None)
none_parts l ls k h =
    ⊎_elim (λ (t : eqb k l.position ≡ true). absurd (some_not_none l.wanted (sym (cond-true (eqb k l.position) (Some l.wanted) (lookup ls k) t) ∙ h)))
    (λ (f : eqb k l.position ≡ false). (eqb-false k l.position f, sym (cond-false (eqb k l.position) (Some l.wanted) (lookup ls k) f) ∙ h))
    (cases_Bool (eqb k l.position))

none_more : (l : Literal) (ls : List Literal) (k : ℕ) → (k ≡ l.position → ⊥) → lookup (l ∷ ls) k ≡ lookup ls k
none_more l ls k ne = cond-false (eqb k l.position) (Some l.wanted) (lookup ls k) (ne_eqb k l.position ne)

module _ (l : Literal) where
  lookup-here : (ls : List Literal) → lookup ls l.position ≡ None → lookup (ls ++ l ∷ []) l.position ≡ Some l.wanted
  lookup-here [] h = cond-true (eqb l.position l.position) (Some l.wanted) None (eq-eqb l.position l.position refl)
  lookup-here (x ∷ ls) h =
      let both = none_parts x ls l.position h in none_more x (ls ++ l ∷ []) l.position both.0 ∙ lookup-here ls both.1

  lookup_else : (ls : List Literal) (k : ℕ) → (k ≡ l.position → ⊥) → lookup (ls ++ l ∷ []) k ≡ lookup ls k
  lookup_else [] k ne = none_more l [] k ne
  lookup_else (x ∷ ls) k ne = ap (λ (o : Option Bool). cond (eqb k x.position) (Some x.wanted) o) (lookup_else ls k ne)

  pub distinct_push : (ls : List Literal) → Distinct ls → InRange l → lookup ls l.position ≡ None → Distinct (ls ++ l ∷ [])
  distinct_push [] d range h = (range, refl, tt)
  distinct_push (x ∷ ls) d range h =
      let both = none_parts x ls l.position h in
      (d.0, lookup_else ls x.position (λ e. both.0 (sym e)) ∙ d.1, distinct_push ls d.2 range both.1)

  -- A literal's own position is taken.
  taken : (xs ys : List Literal) (k : ℕ) → lookup (xs ++ l ∷ ys) k ≡ None → k ≡ l.position → ⊥
  taken [] ys k h = (none_parts l ys k h).0
  taken (x ∷ xs) ys k h = taken xs ys k (none_parts x (xs ++ l ∷ ys) k h).1

  pub distinct_at : (xs ys : List Literal) → Distinct (xs ++ l ∷ ys) → InRange l × (lookup xs l.position ≡ None)
  distinct_at [] ys d = (d.0, refl)
  distinct_at (x ∷ xs) ys d =
      let rest = distinct_at xs ys d.2 in
      (rest.0, none_more x xs l.position (λ e. taken xs ys x.position d.1 (sym e)) ∙ rest.1)

pub made_more : (ls : List Literal) (l : Literal) (r r' : Rule) → Made ls r → Joined r l r' → Made (ls ++ l ∷ []) r'
made_more ls l r r' h j =
    let free : lookup ls l.position ≡ None = sym (h.wanted l.position) ∙ j.nameable.1 in
    record {
      distinct = distinct_push l ls h.distinct j.nameable.0 free;
      wanted = λ k. ⊎_elim (λ (e : k ≡ l.position). subst (λ (k : ℕ). wanted_at r' k ≡ lookup (ls ++ l ∷ []) k) (sym e) (j.here ∙ sym (lookup-here l ls free)))
          (λ (ne : k ≡ l.position → ⊥). j.elsewhere k ne ∙ h.wanted k ∙ sym (lookup_else l ls k ne)) (cases_eq k l.position);
      tidy = j.tidy h.tidy;
    }

-- Of distinct literals a rule of those before takes the next.
pub made_next : (ls : List Literal) (l : Literal) (rest : List Literal) (r : Rule) → Made ls r → Distinct (ls ++ l ∷ rest) → Nameable r l
made_next ls l rest r h d =
    let at = distinct_at l ls rest d in
    (at.0, h.wanted l.position ∙ at.1)
