-- What adding a guard to records makes of the guards that they mean.
use Rattle.std.proofs.Common.{◌≡◌, ℕ, Bool, true, false, cond, ◌&&◌, ◌||◌, eqb, List, [], ◌∷◌, ◌++◌, map, sym, refl, ap, ◌∙◌, subst, ⊎_elim, ◌⊎◌, inl, inr, arith}
use Rattle.std.specs.List.{list_any}
use Rattle.std.proofs.lemmas.Bool.{cases_Bool, eq-eqb, cond-true, cond-false}
use Rattle.std.proofs.Math.Bool.{or-false, or-true}
use Rattle.std.proofs.lemmas.List.Folds.{list_any-append}
use Rattle.prefix.specs.Kinds.{reports_before}
use Rattle.prefix.specs.Points.{Point}
use Rattle.prefix.specs.Settings.{number}
use Rattle.prefix.specs.declared.kind.Kind.{Kind}
use Rattle.prefix.proofs.Settings.{number-apart}
use Rattle.book.specs.declared.record.Record.{Record}
use Rattle.book.specs.declared.side.Side.{Side}
use Rattle.book.specs.declared.side.Side.TheVariants.{On, Off}
use Rattle.book.specs.Guards.{Added}
use Rattle.book.specs.Records.{is_of, says, turned, first_record, list_guards, with_guard}
use Rattle.book.proofs.Records.{is_of_tells}

-- What a record says once turned, and a point's first record.
says_turned : (side : Side) (r : Record) → says side (turned side r) ≡ true
says_turned On r = refl
says_turned Off r = refl

says_other : (s side : Side) (r : Record) → (s ≡ side → ⊥) → says s (turned side r) ≡ says s r
says_other On On r ne = absurd (ne refl)
says_other Off Off r ne = absurd (ne refl)
says_other On Off r ne = refl
says_other Off On r ne = refl

says_first : (side : Side) (k s : ℕ) → says side (first_record side k s) ≡ true
says_first On k s = refl
says_first Off k s = refl

first_other : (t side : Side) (k s : ℕ) → (t ≡ side → ⊥) → says t (first_record side k s) ≡ false
first_other On On k s ne = absurd (ne refl)
first_other Off Off k s ne = absurd (ne refl)
first_other On Off k s ne = refl
first_other Off On k s ne = refl

same_or_other : (s t : Side) → (s ≡ t) ⊎ (s ≡ t → ⊥)
same_or_other On On = inl refl
same_or_other Off Off = inl refl
same_or_other On Off = inr (λ e. let a : ◌≡◌ {A = ℕ} 0 1 = cc e in absurd (omega arith))
same_or_other Off On = inr (λ e. let a : ◌≡◌ {A = ℕ} 0 1 = cc e in absurd (omega arith))

is_of_self : (k s : ℕ) → (eqb k k && eqb s s) ≡ true
is_of_self k s = ap (λ (b : Bool). b && eqb s s) (eq-eqb k k refl) ∙ eq-eqb s s refl

-- Tests that pass alike on each record pass alike on all.
any_alike : (p q : Record → Bool) (rs : List Record) → ((r : Record) → p r ≡ q r) → list_any p rs ≡ list_any q rs
any_alike p q [] h = refl
any_alike p q (r ∷ rs) h = ap (λ (b : Bool). b || list_any p rs) (h r) ∙ ap (λ (b : Bool). q r || b) (any_alike p q rs h)

any_map : (p : Record → Bool) (f : Record → Record) (rs : List Record) → list_any p (map f rs) ≡ list_any (λ r. p (f r)) rs
any_map p f [] = refl
any_map p f (r ∷ rs) = ap (λ (b : Bool). p (f r) || b) (any_map p f rs)

module _ (side : Side) (k s : ℕ) where
  abbrev turn : Record → Record
  turn r = cond (is_of k s r) (turned side r) r

  -- Where a record is of the point, the turned ones have the guard.
  turned_says : (rs : List Record) → list_any (is_of k s) rs ≡ true → list_any (λ r. is_of k s r && says side r) (map turn rs) ≡ true
  turned_says rs h =
      any_map (λ r. is_of k s r && says side r) turn rs ∙ any_alike (λ r. is_of k s (turn r) && says side (turn r)) (is_of k s) rs one ∙ h
    where
      one : (r : Record) → (is_of k s (turn r) && says side (turn r)) ≡ is_of k s r
      one r =
          ⊎_elim
          (λ e. ap (λ (x : Record). is_of k s x && says side x) (cond-true (is_of k s r) _ _ e) ∙ ap (λ (b : Bool). b && says side (turned side r)) e ∙ says_turned side r ∙ sym e)
          (λ e. ap (λ (x : Record). is_of k s x && says side x) (cond-false (is_of k s r) _ _ e) ∙ ap (λ (b : Bool). b && says side r) e ∙ sym e)
          (cases_Bool (is_of k s r))

  -- Of another point, or of another side, they say what they said.
  turned_else : (t : Side) (j n : ℕ) → ((t ≡ side) × (j ≡ k) × (n ≡ s) → ⊥) → (r : Record) → (is_of j n (turn r) && says t (turn r)) ≡ (is_of j n r && says t r)
  turned_else t j n ne r =
      ⊎_elim
      (λ e. ap (λ (x : Record). is_of j n x && says t x) (cond-true (is_of k s r) _ _ e)
      ∙ ⊎_elim
      (λ (o : t ≡ side). let no = elsewhere e o in ap (λ (b : Bool). b && says t (turned side r)) no ∙ sym (ap (λ (b : Bool). b && says t r) no))
      (λ o. ap (λ (b : Bool). is_of j n r && b) (says_other t side r o))
      (same_or_other t side))
      (λ e. ap (λ (x : Record). is_of j n x && says t x) (cond-false (is_of k s r) _ _ e))
      (cases_Bool (is_of k s r))
    where
      elsewhere : is_of k s r ≡ true → t ≡ side → is_of j n r ≡ false
      elsewhere e o =
          ⊎_elim (λ f. let here = is_of_tells k s r e in let there = is_of_tells j n r f in absurd (ne (o, sym there.0 ∙ here.0, sym there.1 ∙ here.1))) (λ f. f) (cases_Bool (is_of j n r))

  -- A point's first record says no to everything else.
  first_else : (t : Side) (j n : ℕ) → ((t ≡ side) × (j ≡ k) × (n ≡ s) → ⊥) → (is_of j n (first_record side k s) && says t (first_record side k s)) ≡ false
  first_else t j n ne =
      let first = first_record side k s in
      ⊎_elim
      (λ (o : t ≡ side). ap (λ (b : Bool). b && says t first) (⊎_elim (λ f. let there = is_of_tells j n first f in absurd (ne (o, sym there.0, sym there.1))) (λ f. f) (cases_Bool (is_of j n first))))
      (λ o. ⊎_elim (λ f. ap (λ (b : Bool). b && says t first) f ∙ first_other t side k s o) (λ f. ap (λ (b : Bool). b && says t first) f) (cases_Bool (is_of j n first)))
      (same_or_other t side)

module _ (ks : List Kind) (rs : List Record) (side : Side) (k : ℕ) (v : List Bool) (o : Point ks k v) where
  abbrev asks : Side → ℕ → List Bool → Record → Bool
  asks t j w r = is_of j (number w) r && says t r

  abbrev first : Record
  first = first_record side k (number v)

  -- Different settings before one position have different numbers.
  other : (t : Side) (j : ℕ) (w : List Bool) → Point ks j w → ((t ≡ side) × (j ≡ k) × (w ≡ v) → ⊥) → (t ≡ side) × (j ≡ k) × (number w ≡ number v) → ⊥
  other t j w q ne h = ne (h.0, h.1, number-apart w v (q.1 ∙ ap (reports_before ks) h.1 ∙ sym o.1) h.2)

  guard_turned : list_any (is_of k (number v)) rs ≡ true → Added ks (list_guards rs) side k v (list_guards (map (turn side k (number v)) rs))
  guard_turned e = record {
    here = turned_says side k (number v) rs e;
    elsewhere = λ t j w q ne. any_map (asks t j w) (turn side k (number v)) rs ∙ any_alike _ (asks t j w) rs (turned_else side k (number v) t j (number w) (other t j w q ne));
  }

  first_asked : asks side k v first ≡ true
  first_asked = ap (λ (b : Bool). b && says side first) (is_of_self k (number v)) ∙ says_first side k (number v)

  guard_appended : Added ks (list_guards rs) side k v (list_guards (rs ++ first ∷ []))
  guard_appended = record {
    here = list_any-append (asks side k v) rs (first ∷ []) ∙ ap (λ (b : Bool). list_any (asks side k v) rs || (b || false)) first_asked ∙ or-true (list_any (asks side k v) rs);
    elsewhere = λ t j w q ne.
        list_any-append (asks t j w) rs (first ∷ [])
        ∙ ap (λ (b : Bool). list_any (asks t j w) rs || (b || false)) (first_else side k (number v) t j (number w) (other t j w q ne))
        ∙ or-false (list_any (asks t j w) rs);
  }

  -- The guard at the point is yes, and every other stays.
  pub guard_added : Added ks (list_guards rs) side k v (list_guards (with_guard rs side k (number v)))
  guard_added =
      ⊎_elim
      (λ e. subst (λ (xs : List Record). Added ks (list_guards rs) side k v (list_guards xs)) (sym (cond-true (list_any (is_of k (number v)) rs) _ _ e)) (guard_turned e))
      (λ e. subst (λ (xs : List Record). Added ks (list_guards rs) side k v (list_guards xs)) (sym (cond-false (list_any (is_of k (number v)) rs) _ _ e)) guard_appended)
      (cases_Bool (list_any (is_of k (number v)) rs))
