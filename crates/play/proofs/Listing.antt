-- Lists of points that grow at their end.
use Rattle.std.proofs.Common.{◌≡◌, ℕ, ◌<◌, Bool, ◌⊎◌, List, [], ◌∷◌, ◌++◌, length, get_or, sym, refl, ap, ◌∙◌, subst, ⊎_elim, arith}
use Rattle.std.specs.List.{Contains}
use Rattle.std.proofs.lemmas.List.Elements.{All-nil, All-push, All-weaker, All-get_or, Contains-push, Contains-append_left}
use Rattle.std.proofs.lemmas.List.Quantifiers.{all_pairs_push}
use Rattle.play.specs.Listing.{Lists}

module _ {X : Type 0} (Chosen : ℕ → List Bool → Type 0) (at : ℕ → List Bool → X) (Before : X → X → Type 0) where
  -- Of no point, the empty list.
  pub lists_none : ((k : ℕ) (v : List Bool) → Chosen k v → ⊥) → Lists Chosen at Before []
  lists_none none = record {
    each = λ k v o. absurd (none k v o);
    only = All-nil (λ x. (k : ℕ) × (v : List Bool) × Chosen k v × (x ≡ at k v));
    order = λ i j d h l. absurd (omega arith);
  }

  -- Of points chosen in two ways that are equivalent, the same list.
  pub lists_same : (Chosen' : ℕ → List Bool → Type 0) (xs : List X) → ((k : ℕ) (v : List Bool) → Chosen k v → Chosen' k v) → ((k : ℕ) (v : List Bool) → Chosen' k v → Chosen k v)
      → Lists Chosen at Before xs → Lists Chosen' at Before xs
  lists_same Chosen' xs to from h = record {
    each = λ k v o. h.each k v (from k v o);
    only = All-weaker (λ x. (k : ℕ) × (v : List Bool) × Chosen k v × (x ≡ at k v)) (λ x. (k : ℕ) × (v : List Bool) × Chosen' k v × (x ≡ at k v)) (λ x t. (t.0, t.1, to t.0 t.1 t.2, t.3)) xs h.only;
    order = h.order;
  }

  -- Where two makings agree at the chosen points, the list of one is the list of the other.
  pub lists_alike : (at' : ℕ → List Bool → X) (xs : List X) → ((k : ℕ) (v : List Bool) → Chosen k v → at k v ≡ at' k v) → Lists Chosen at Before xs → Lists Chosen at' Before xs
  lists_alike at' xs alike h = record {
    each = λ k v o. subst (Contains xs) (alike k v o) (h.each k v o);
    only = All-weaker (λ x. (k : ℕ) × (v : List Bool) × Chosen k v × (x ≡ at k v)) (λ x. (k : ℕ) × (v : List Bool) × Chosen k v × (x ≡ at' k v)) (λ x t. (t.0, t.1, t.2, t.3 ∙ alike t.0 t.1 t.2)) xs h.only;
    order = h.order;
  }

  -- One point more, before which all others come, at the end.
  pub lists_push : (Chosen' : ℕ → List Bool → Type 0) (k : ℕ) (v : List Bool) (xs : List X) → ((j : ℕ) (w : List Bool) → Chosen j w → Before (at j w) (at k v))
      → ((j : ℕ) (w : List Bool) → Chosen j w → Chosen' j w) → Chosen' k v → ((j : ℕ) (w : List Bool) → Chosen' j w → Chosen j w ⊎ ((j ≡ k) × (w ≡ v)))
      → Lists Chosen at Before xs → Lists Chosen' at Before (xs ++ at k v ∷ [])
  lists_push Chosen' k v xs before to here from h = record {
    each = λ j w o. ⊎_elim (λ (c : Chosen j w). Contains-append_left xs (at k v ∷ []) (at j w) (h.each j w c)) (λ (e : (j ≡ k) × (w ≡ v)). same j w e.0 e.1) (from j w o);
    only = All-push (λ x. (j : ℕ) × (w : List Bool) × Chosen' j w × (x ≡ at j w)) xs (at k v)
        (All-weaker (λ x. (j : ℕ) × (w : List Bool) × Chosen j w × (x ≡ at j w)) (λ x. (j : ℕ) × (w : List Bool) × Chosen' j w × (x ≡ at j w)) (λ x t. (t.0, t.1, to t.0 t.1 t.2, t.3)) xs h.only)
        (k, v, here, refl);
    order = all_pairs_push Before xs (at k v) h.order last;
  }
    where
      same : (j : ℕ) (w : List Bool) → j ≡ k → w ≡ v → Contains (xs ++ at k v ∷ []) (at j w)
      same j w e f = subst (λ (x : X). Contains (xs ++ at k v ∷ []) x) (sym (ap (λ (i : ℕ). at i w) e ∙ ap (at k) f)) (Contains-push xs (at k v))

      last : (i : ℕ) (d : X) → i < length xs → Before (get_or xs i d) (at k v)
      last i d l =
          let t = All-get_or (λ x. (j : ℕ) × (w : List Bool) × Chosen j w × (x ≡ at j w)) xs i d l h.only in
          subst (λ (x : X). Before x (at k v)) (sym t.3) (before t.0 t.1 t.2)
