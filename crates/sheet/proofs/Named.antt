-- The literals of a rule, one position after the other.
use Rattle.std.proofs.Common.{All, ◌≡◌, ℕ, zero, suc, ◌<◌, Bool, true, false, cond, ◌&&◌, ◌||◌, List, ◌∷◌, Decides, refl, arith}
use Rattle.std.proofs.lemmas.List.Elements.{All-nil, All-cons}
use Rattle.std.proofs.lemmas.Bool.Decides.{Decides-below_and, Decides-below_or, Decides-and}
use Rattle.std.proofs.lemmas.Bool.{false≢true}
use Rattle.prefix.specs.Bits.{bit}
use Rattle.std.specs.List.{list_any, list_all}
use Rattle.sheet.specs.Rules.{literal_at, literals, holds, fails}
use Rattle.sheet.specs.declared.literal.Literal.{Literal}
use Rattle.sheet.specs.declared.rule.Rule.{Rule}

-- What clauses ask of one rule: that all its literals fail, or that some holds.
abbrev pub all_fail : ℕ → List Bool → Rule → Bool
all_fail n u r = list_all (fails u) (literals r n)

abbrev pub some_holds : ℕ → List Bool → Rule → Bool
some_holds n v r = list_any (holds v) (literals r n)

-- What terms ask of one rule: that some literal of it fails, or that all hold.
abbrev pub some_fails : ℕ → List Bool → Rule → Bool
some_fails n u r = list_any (fails u) (literals r n)

abbrev pub all_hold : ℕ → List Bool → Rule → Bool
all_hold n v r = list_all (holds v) (literals r n)

itself : (b : Bool) → Decides b (b ≡ true)
itself b = (λ h. h, λ h. h)

decides_if : (b x : Bool) → Decides (cond b x true) (b ≡ true → x ≡ true)
decides_if true x = (λ h _. h, λ f. f refl)
decides_if false x = (λ _ e. absurd (false≢true e), λ _. refl)

module _ {A : Type 0} (p : A → Bool) (x : A) (xs : List A) where
  every-cond : (b : Bool) → list_all p (cond b (x ∷ xs) xs) ≡ (cond b (p x) true && list_all p xs)
  every-cond true = refl
  every-cond false = refl

  some-cond : (b : Bool) → list_any p (cond b (x ∷ xs) xs) ≡ ((b && p x) || list_any p xs)
  some-cond true = refl
  some-cond false = refl

module _ (r : Rule) (p : Literal → Bool) where
  -- All literals within n positions pass where each that the rule names does.
  pub decides_every : (n : ℕ) → Decides (list_all p (literals r n)) ((i : ℕ) → i < n → bit r.named i ≡ true → p (literal_at r i) ≡ true)
  decides_every n =
      Decides-below_and (λ i. cond (bit r.named i) (p (literal_at r i)) true) (λ i. bit r.named i ≡ true → p (literal_at r i) ≡ true)
      (λ i. list_all p (literals r i)) (λ i. decides_if (bit r.named i) (p (literal_at r i))) refl
      (λ i. every-cond p (literal_at r i) (literals r i) (bit r.named i)) n

  pub decides_some : (n : ℕ) → Decides (list_any p (literals r n)) ((i : ℕ) × (i < n) × ((bit r.named i ≡ true) × (p (literal_at r i) ≡ true)))
  decides_some n =
      Decides-below_or (λ i. bit r.named i && p (literal_at r i)) (λ i. (bit r.named i ≡ true) × (p (literal_at r i) ≡ true))
      (λ i. list_any p (literals r i)) (λ i. Decides-and (bit r.named i) (p (literal_at r i)) (itself (bit r.named i)) (itself (p (literal_at r i)))) refl
      (λ i. some-cond p (literal_at r i) (literals r i) (bit r.named i)) n

-- What holds at each of n positions holds of the literals there.
pub all-literals : (r : Rule) (P : Literal → Type 0) (n : ℕ) → ((i : ℕ) → i < n → P (literal_at r i)) → All P (literals r n)
all-literals r P zero f = All-nil P
all-literals r P (suc n) f =
    let rest = all-literals r P n (λ i h. f i (omega arith)) in
    elim (bit r.named n) as (λ b. All P (cond b (literal_at r n ∷ literals r n) (literals r n))) [ true ↦ All-cons P (literal_at r n) (literals r n) (f n (omega arith)) rest | false ↦ rest ]
