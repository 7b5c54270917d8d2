-- Tests of some or of every element of a list, and their duals.
use Rattle.std.proofs.Common.{All, ◌≡◌, ℕ, Bool, true, false, not, ◌&&◌, ◌||◌, List, [], ◌∷◌, refl, ap, ◌∙◌, ⊎_elim, arith}
use Rattle.std.proofs.lemmas.List.Elements.{All-head, All-tail}
use Rattle.std.proofs.lemmas.Bool.{and_parts, and_left, and_right, or_cases, or_from}
use Rattle.std.specs.List.{list_any, list_all}

and_dual : (a b : Bool) → (not a && not b) ≡ not (a || b)
and_dual true b = refl
and_dual false b = refl

or_dual : (a b : Bool) → (not a || not b) ≡ not (a && b)
or_dual true b = refl
or_dual false b = refl

-- Where p is the contrary of q at each element, so are the two tests of the list.
module _ {A : Type 0} (p q : A → Bool) where
  abbrev Contrary : A → Type 0
  Contrary x = p x ≡ not (q x)

  pub every_dual : (xs : List A) → All (λ x. p x ≡ not (q x)) xs → list_all p xs ≡ not (list_any q xs)
  every_dual [] h = refl
  every_dual (x ∷ xs) h =
      ap (λ (b : Bool). b && list_all p xs) (All-head Contrary x xs h) ∙ ap (λ (b : Bool). not (q x) && b) (every_dual xs (All-tail Contrary x xs h))
      ∙ and_dual (q x) (list_any q xs)

  pub some_dual : (xs : List A) → All (λ x. p x ≡ not (q x)) xs → list_any p xs ≡ not (list_all q xs)
  some_dual [] h = refl
  some_dual (x ∷ xs) h =
      ap (λ (b : Bool). b || list_any p xs) (All-head Contrary x xs h) ∙ ap (λ (b : Bool). not (q x) || b) (some_dual xs (All-tail Contrary x xs h))
      ∙ or_dual (q x) (list_all q xs)

-- Where p excludes q, every p leaves no q, and some p leaves not every q.
module _ {A : Type 0} (p q : A → Bool) (apart : (x : A) → p x ≡ true → q x ≡ false) where
  pub every_excludes : (xs : List A) → list_all p xs ≡ true → list_any q xs ≡ false
  every_excludes [] h = refl
  every_excludes (x ∷ xs) h =
      let both = and_parts (p x) (list_all p xs) h in
      or_from (q x) (list_any q xs) (apart x both.0) (every_excludes xs both.1)

  pub some_excludes : (xs : List A) → list_any p xs ≡ true → list_all q xs ≡ false
  some_excludes [] h = let z : ◌≡◌ {A = ℕ} 0 1 = cc in absurd (omega arith)
  some_excludes (x ∷ xs) h =
      ⊎_elim (λ (e : p x ≡ true). and_left (q x) (list_all q xs) (apart x e))
      (λ (e : list_any p xs ≡ true). and_right (q x) (list_all q xs) (some_excludes xs e)) (or_cases (p x) (list_any p xs) h)
