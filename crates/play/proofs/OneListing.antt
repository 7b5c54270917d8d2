-- In a strict order there is one list of the same points.
use Rattle.std.proofs.Common.{◌≡◌, ℕ, Bool, List, sym, subst}
use Rattle.std.specs.List.{Contains}
use Rattle.std.proofs.lemmas.List.Elements.{All-contains}
use Rattle.book.proofs.ListsInOrder.{same_list}
use Rattle.play.specs.Listing.{Lists}

module _ {X : Type 0} (Chosen : ℕ → List Bool → Type 0) (at : ℕ → List Bool → X) (Before : X → X → Type 0) where
  -- What one list has, any other of the same points has.
  lists_within : (xs ys : List X) → Lists Chosen at Before xs → Lists Chosen at Before ys → (x : X) → Contains xs x → Contains ys x
  lists_within xs ys a b x c =
      let t = All-contains (λ x. (k : ℕ) × (v : List Bool) × Chosen k v × (x ≡ at k v)) xs x a.only c in
      subst (Contains ys) (sym t.3) (b.each t.0 t.1 t.2)

  pub lists_one : ((x y : X) → Before x y → Before y x → ⊥) → (xs ys : List X) → Lists Chosen at Before xs → Lists Chosen at Before ys → xs ≡ ys
  lists_one never_both xs ys a b = same_list Before never_both xs ys a.order b.order (lists_within xs ys a b) (lists_within ys xs b a)
