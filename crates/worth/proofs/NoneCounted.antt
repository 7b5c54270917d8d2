-- The count of a part line is 0 exactly when no policy wins from there.
use Rattle.std.proofs.Common.{◌≡◌, ◌≢◌, ℕ, zero, suc, ◌+◌, ◌*◌, ◌<◌, min, Bool, true, false, cond, ◌||◌, ◌&&◌, List, [], ◌∷◌, ◌++◌, sym, refl, ap, ◌∙◌, zero-mul, mul-zero, mul-suc, arith}
use Rattle.std.proofs.lemmas.Bool.{true≢false, false_from_ne_true, true_from_ne_false}
use Rattle.prefix.specs.Policies.{Winnable}
use Rattle.prefix.specs.declared.kind.Kind.{Kind}
use Rattle.prefix.specs.declared.kind.Kind.TheVariants.{Report, Reply}
use Rattle.worth.specs.Scales.{yes_no}
use Rattle.worth.specs.Counts.{capped, count}
use Rattle.worth.specs.Counted.{same_count}
use Rattle.worth.specs.Counting.{NoneCounted}
use Rattle.worth.specs.Worth.{worth}
use Rattle.worth.proofs.Policies.{yes_means_winnable}

-- Whether a number is above 0.
abbrev positive : ℕ → Bool
positive zero = false
positive (suc n) = true

positive_above : (n : ℕ) → 0 < n → positive n ≡ true
positive_above zero h = absurd (omega arith)
positive_above (suc n) h = refl

positive_zero : (n : ℕ) → positive n ≡ false → n ≡ 0
positive_zero zero h = refl
positive_zero (suc n) h = absurd (true≢false h)

-- A sum of counts is above 0 where one of them is, a product where both are.
positive_either : (a b : ℕ) → positive (min (a + b) 1000000) ≡ (positive a || positive b)
positive_either zero zero = refl
positive_either zero (suc b) = positive_above (min (0 + suc b) 1000000) (omega arith)
positive_either (suc a) b = positive_above (min (suc a + b) 1000000) (omega arith)

positive_both : (a b : ℕ) → positive (min (a * b) 1000000) ≡ (positive a && positive b)
positive_both zero b = ap (λ (n : ℕ). positive (min n 1000000)) (zero-mul b)
positive_both (suc a) zero = ap (λ (n : ℕ). positive (min n 1000000)) (mul-zero (suc a))
positive_both (suc a) (suc b) = positive_above (min (suc a * suc b) 1000000) (omega (arith, mul-suc (suc a) b))

-- The count of a whole line is above 0 where the line is kept.
positive_line : (b : Bool) → positive (cond b (capped 1) (capped 0)).value ≡ cond b true false
positive_line true = refl
positive_line false = refl

module _ (kept : List Bool → Bool) where
  -- The count is above 0 where the yes-no worth is yes.
  positive_yes : (ks : List Kind) (u : List Bool) → positive (worth count kept ks u).value ≡ worth yes_no kept ks u
  positive_yes [] u = positive_line (kept u)
  positive_yes (Reply ∷ ks) u =
      let t = positive_yes ks (u ++ true ∷ []) in
      let f = positive_yes ks (u ++ false ∷ []) in
      cc (positive_either (worth count kept ks (u ++ true ∷ [])).value (worth count kept ks (u ++ false ∷ [])).value)
  positive_yes (Report ∷ ks) u =
      let f = positive_yes ks (u ++ false ∷ []) in
      let t = positive_yes ks (u ++ true ∷ []) in
      cc (positive_both (worth count kept ks (u ++ false ∷ [])).value (worth count kept ks (u ++ true ∷ [])).value)

  -- Where the count is not 0, some policy wins; where it is 0, none does; where none does, it is 0.
  pub some_wins : (ks : List Kind) (u : List Bool) → worth count kept ks u ≢ capped 0 → Winnable kept ks u
  some_wins ks u ne =
      (yes_means_winnable kept ks u).0
      (sym (positive_yes ks u) ∙ true_from_ne_false (positive (worth count kept ks u).value) (λ e. ne (same_count (worth count kept ks u) (capped 0) (positive_zero (worth count kept ks u).value e))))

  pub none_wins : (ks : List Kind) (u : List Bool) → worth count kept ks u ≡ capped 0 → Winnable kept ks u → ⊥
  none_wins ks u e w = true≢false (sym ((yes_means_winnable kept ks u).1 w) ∙ sym (positive_yes ks u) ∙ ap (λ c. positive c.value) e)

  pub none_counts : (ks : List Kind) (u : List Bool) → (Winnable kept ks u → ⊥) → worth count kept ks u ≡ capped 0
  none_counts ks u h =
      same_count (worth count kept ks u) (capped 0)
      (positive_zero (worth count kept ks u).value
      (positive_yes ks u ∙ false_from_ne_true (worth yes_no kept ks u) (λ y. h ((yes_means_winnable kept ks u).0 y))))

pub none_counted : NoneCounted
none_counted kept ks u = (none_wins kept ks u, none_counts kept ks u)
