-- A list in a strict order is told by its elements.
use Rattle.std.proofs.Common.{◌≡◌, zero, suc, ◌⊎◌, List, [], ◌∷◌, sym, refl, ap, ◌∙◌, subst, inl, inr, ⊎_elim, arith}
use Rattle.std.specs.List.{AllPairs, Contains}

module _ {X : Type 0} where
  contains_cases : (x y : X) (ys : List X) → Contains (y ∷ ys) x → (y ≡ x) ⊎ Contains ys x
  contains_cases x y ys (zero, l, e) = inl e
  contains_cases x y ys (suc k, l, e) = inr (k, omega arith, e)

  contains_later : (x y : X) (ys : List X) → Contains ys x → Contains (y ∷ ys) x
  contains_later x y ys c = (suc c.0, omega (arith, c.1), c.2)

  contains_first : (y : X) (ys : List X) → Contains (y ∷ ys) y
  contains_first y ys = (0, omega arith, refl)

  contains_none : (x : X) → Contains [] x → ⊥
  contains_none x c = let l = c.1 in omega arith

module _ {X : Type 0} (Before : X → X → Type 0) where
  before_later : (x y : X) (ys : List X) → AllPairs Before (y ∷ ys) → Contains ys x → Before y x
  before_later x y ys h c = subst (Before y) c.2 (h 0 (suc c.0) x (omega arith) (omega (arith, c.1)))

  pairs_later : (y : X) (ys : List X) → AllPairs Before (y ∷ ys) → AllPairs Before ys
  pairs_later y ys h i j d a b = h (suc i) (suc j) d (omega arith) (omega arith)

  module _ (never_both : (x y : X) → Before x y → Before y x → ⊥) where
    heads_same : (x y : X) (xs ys : List X) → AllPairs Before (x ∷ xs) → AllPairs Before (y ∷ ys) → Contains (y ∷ ys) x → Contains (x ∷ xs) y → x ≡ y
    heads_same x y xs ys h k a b =
        ⊎_elim (λ (e : y ≡ x). sym e)
        (λ (c : Contains ys x). ⊎_elim (λ (e : x ≡ y). e) (λ (d : Contains xs y). absurd (never_both x y (before_later y x xs h d) (before_later x y ys k c))) (contains_cases y x xs b))
        (contains_cases x y ys a)

    rest_within : (x y : X) (xs ys : List X) → AllPairs Before (x ∷ xs) → x ≡ y → ((z : X) → Contains (x ∷ xs) z → Contains (y ∷ ys) z) → (z : X) → Contains xs z → Contains ys z
    rest_within x y xs ys h e f z c =
        ⊎_elim (λ (g : y ≡ z).
        let b : Before x x = subst (Before x) (sym (e ∙ g)) (before_later z x xs h c) in
        absurd (never_both x x b b))
        (λ (d : Contains ys z). d)
        (contains_cases z y ys (f z (contains_later z x xs c)))

    pub same_list : (xs ys : List X) → AllPairs Before xs → AllPairs Before ys → ((x : X) → Contains xs x → Contains ys x) → ((x : X) → Contains ys x → Contains xs x) → xs ≡ ys
    same_list [] [] h k f g = refl
    same_list [] (y ∷ ys) h k f g = absurd (contains_none y (g y (contains_first y ys)))
    same_list (x ∷ xs) [] h k f g = absurd (contains_none x (f x (contains_first x xs)))
    same_list (x ∷ xs) (y ∷ ys) h k f g =
        let e : x ≡ y = heads_same x y xs ys h k (f x (contains_first x xs)) (g y (contains_first y ys)) in
        ap (λ (z : X). z ∷ xs) e
        ∙ ap (λ t. y ∷ t) (same_list xs ys (pairs_later x xs h) (pairs_later y ys k) (rest_within x y xs ys h e f) (rest_within y x ys xs k (sym e) g))
