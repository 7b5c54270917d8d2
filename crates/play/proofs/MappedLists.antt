-- Lists of points, each element mapped.
use Rattle.std.proofs.Common.{◌≡◌, ℕ, ◌<◌, Bool, List, [], ◌∷◌, ◌++◌, length, get_or, map, ap, ◌∙◌, subst, arith}
use Rattle.std.specs.List.{All, AllPairs, Contains}
use Rattle.std.proofs.lemmas.Grind.{common_steps}
use Rattle.std.proofs.lemmas.List.{length-map, get_or-map}
use Rattle.std.proofs.lemmas.List.Elements.{All-map, All-weaker}
use Rattle.play.specs.Listing.{Lists}

module _ {X Y : Type 0} (f : X → Y) where
  -- What a list has, the mapped list has mapped.
  contains_mapped : (xs : List X) (x : X) → Contains xs x → Contains (map f xs) (f x)
  contains_mapped xs x c =
      let long = length-map xs f in
      let inside : c.0 < length xs = c.1 in
      (c.0, omega arith, get_or-map f xs c.0 x (f x) inside ∙ ap f c.2)

  -- A map that keeps the order of any two elements keeps that of a list.
  pairs_mapped : (Before : X → X → Type 0) (After : Y → Y → Type 0) → ((a b : X) → Before a b → After (f a) (f b)) → (xs : List X) → AllPairs Before xs → AllPairs After (map f xs)
  pairs_mapped Before After keeps [] h i j d lt within = absurd (omega arith)
  pairs_mapped Before After keeps (x ∷ xs) h i j d lt within =
      let long = length-map (x ∷ xs) f in
      let inside : j < length (x ∷ xs) = omega arith in
      let low : get_or (map f (x ∷ xs)) i d ≡ f (get_or (x ∷ xs) i x) = get_or-map f (x ∷ xs) i x d (omega arith) in
      let high : get_or (map f (x ∷ xs)) j d ≡ f (get_or (x ∷ xs) j x) = get_or-map f (x ∷ xs) j x d inside in
      rw (low, high) (keeps (get_or (x ∷ xs) i x) (get_or (x ∷ xs) j x) (h i j x lt inside))

  -- The list of what is made of each chosen point, mapped.
  pub lists_map : (Chosen : ℕ → List Bool → Type 0) (at : ℕ → List Bool → X) (at' : ℕ → List Bool → Y) (Before : X → X → Type 0) (After : Y → Y → Type 0)
      → ((k : ℕ) (v : List Bool) → f (at k v) ≡ at' k v) → ((a b : X) → Before a b → After (f a) (f b)) → (xs : List X) → Lists Chosen at Before xs → Lists Chosen at' After (map f xs)
  lists_map Chosen at at' Before After same keeps xs h = record {
    each = λ k v o. subst (Contains (map f xs)) (same k v) (contains_mapped xs (at k v) (h.each k v o));
    only = All-map (λ y. (k : ℕ) × (v : List Bool) × Chosen k v × (y ≡ at' k v)) f xs
        (All-weaker (λ x. (k : ℕ) × (v : List Bool) × Chosen k v × (x ≡ at k v)) (λ x. (k : ℕ) × (v : List Bool) × Chosen k v × (f x ≡ at' k v)) (λ x t. (t.0, t.1, t.2, ap f t.3 ∙ same t.0 t.1)) xs h.only);
    order = pairs_mapped Before After keeps xs h.order;
  }

module _ {X : Type 0} (Before : X → X → Type 0) (xs : List X) (y : X) (h : AllPairs Before (xs ++ y ∷ [])) where
  -- In a list in order, what stands before the last is in order, and before the last.
  pub pairs_front : AllPairs Before xs
  pairs_front i j d lt within =
      let low : get_or (xs ++ y ∷ []) i d ≡ get_or xs i d = grind (arith, common_steps) in
      let high : get_or (xs ++ y ∷ []) j d ≡ get_or xs j d = grind (arith, common_steps) in
      rw (low, high) at (h i j d lt (grind (arith, common_steps)))

  pub pairs_last : All (λ x. Before x y) xs
  pairs_last i d within =
      let low : get_or (xs ++ y ∷ []) i d ≡ get_or xs i d = grind (arith, common_steps) in
      let last : get_or (xs ++ y ∷ []) (length xs) d ≡ y = grind (arith, common_steps) in
      rw (low, last) at (h i (length xs) d within (grind (arith, common_steps)))
