-- What a walk comes to from a part line whose worth is known, and how each step of the walk keeps that.
use Rattle.std.proofs.Common.{◌≡◌, ℕ, zero, suc, ◌+◌, ◌<◌, ◌≤◌, Bool, true, false, cond, not, ltb, ◌≢◌, List, [], ◌∷◌, ◌++◌, length, get_or, drop, set, sym, refl, ap, ◌∙◌, subst, add-one, arith, get_or-set_other, get_or-set_same}
use mathlib.Core.Bool.{beq}
use Rattle.std.proofs.lemmas.Bool.{cond-true, cond-false, lt-ltb, le-ltb}
use Rattle.prefix.specs.Bits.{bit, bits}
use Rattle.prefix.specs.Kinds.{is_report}
use Rattle.prefix.specs.declared.kind.Kind.{Kind}
use Rattle.prefix.proofs.Masks.{bits_push, bits_same}
use Rattle.worth.specs.Scales.{Joins, joined}
use Rattle.worth.specs.Worth.{worth}
use Rattle.worth.proofs.Branches.{worth_joins}
use Rattle.worth.proofs.Turns.{second, second_same, second_not, SameTo}

module _ {W : Type 0} (j : Joins W) (kept : List Bool → Bool) (ks : List Kind) where
  -- The worth of the part line u of length d.
  abbrev pub deep : ℕ → List Bool → W
  deep d u = worth j kept (drop d ks) u

  -- What position k + 1 makes of the worth v of its last branch: the first branch's worth is in the cell, or the second branch is still to be walked.
  abbrev pub step : ℕ → ℕ → List W → W → W
  step line k cells v =
      cond (second ks line k)
      (joined j (is_report ks (suc k)) (get_or cells k j.lost) v)
      (joined j (is_report ks (suc k)) v (deep (suc k) (bits k line ++ is_report ks (suc k) ∷ [])))

module _ {W : Type 0} (j : Joins W) (kept : List Bool → Bool) (ks : List Kind) (start : ℕ) where
  -- What a walk that began at length `start` comes to once the worth of its part line of length d is v.
  unfoldable pub climb : ℕ → ℕ → List W → W → W
  climb zero line cells v = v
  climb (suc k) line cells v = cond (ltb k start) v (climb k line cells (step j kept ks line k cells v))

  pub climb_base : (d line : ℕ) (xs : List W) (v : W) → d ≤ start → climb d line xs v ≡ v
  unfolding climb
  climb_base zero line xs v h = refl
  climb_base (suc k) line xs v h = cond-true (ltb k start) _ _ (lt-ltb k start h)

  climb_step : (k line : ℕ) (xs : List W) (v : W) → start ≤ k → climb (suc k) line xs v ≡ climb k line xs (step j kept ks line k xs v)
  unfolding climb
  climb_step k line xs v h = cond-false (ltb k start) _ _ (le-ltb k start h)

  climb_second : (k line : ℕ) (xs : List W) (v : W) → start ≤ k → second ks line k ≡ true → climb (suc k) line xs v ≡ climb k line xs (joined j (is_report ks (suc k)) (get_or xs k j.lost) v)
  climb_second k line xs v h e = climb_step k line xs v h ∙ ap (climb k line xs) (cond-true (second ks line k) _ _ e)

  climb_first : (k line : ℕ) (xs : List W) (v : W) → start ≤ k → second ks line k ≡ false
      → climb (suc k) line xs v ≡ climb k line xs (joined j (is_report ks (suc k)) v (deep j kept ks (suc k) (bits k line ++ is_report ks (suc k) ∷ [])))
  climb_first k line xs v h e = climb_step k line xs v h ∙ ap (climb k line xs) (cond-false (second ks line k) _ _ e)

  climb_same : (d a b : ℕ) (xs ys : List W) (v : W) → SameTo d a b → ((i : ℕ) → i < d → get_or xs i j.lost ≡ get_or ys i j.lost) → climb d a xs v ≡ climb d b ys v
  unfolding climb
  climb_same zero a b xs ys v s c = refl
  climb_same (suc k) a b xs ys v s c =
      let q : Bool = is_report ks (suc k) in
      let e : bit a k ≡ bit b k = s k (omega arith) in
      let f : get_or xs k j.lost ≡ get_or ys k j.lost = c k (omega arith) in
      let front : bits k a ≡ bits k b = bits_same k a b (λ i l. s i (omega arith)) in
      let to : Bool → W → List Bool → W = λ x y z. cond (beq x q) (joined j q y v) (joined j q v (deep j kept ks (suc k) (z ++ q ∷ []))) in
      let t : step j kept ks a k xs v ≡ step j kept ks b k ys v =
      ap (λ (x : Bool). to x (get_or xs k j.lost) (bits k a)) e ∙ ap (λ (y : W). to (bit b k) y (bits k a)) f ∙ ap (λ (z : List Bool). to (bit b k) (get_or ys k j.lost) z) front in
      ap (λ (z : W). cond (ltb k start) v z)
      (climb_same k a b xs ys (step j kept ks a k xs v) (λ i l. s i (omega arith)) (λ i l. c i (omega arith)) ∙ ap (climb k b ys) t)

  -- Down into the first branch.
  pub climb_down : (d line to : ℕ) (xs : List W) → start ≤ d → d < length ks → bit to d ≡ not (is_report ks (suc d)) → SameTo d to line
      → climb (d + 1) to xs (deep j kept ks (d + 1) (bits (d + 1) to)) ≡ climb d line xs (deep j kept ks d (bits d line))
  climb_down d line to xs st h e s =
      let q : Bool = is_report ks (suc d) in
      let front : bits d to ≡ bits d line = bits_same d to line s in
      let whole : bits (suc d) to ≡ bits d line ++ not q ∷ [] = bits_push d to ∙ ap (λ t. t ++ bit to d ∷ []) front ∙ ap (λ (x : Bool). bits d line ++ x ∷ []) e in
      let D : List Bool → W = deep j kept ks (suc d) in
      let one : climb (suc d) to xs (D (bits (suc d) to)) ≡ climb d to xs (joined j q (D (bits (suc d) to)) (D (bits d to ++ q ∷ []))) =
      climb_first d to xs (D (bits (suc d) to)) st (ap (λ (x : Bool). beq x q) e ∙ second_not q) in
      let two : joined j q (D (bits (suc d) to)) (D (bits d to ++ q ∷ [])) ≡ deep j kept ks d (bits d line) =
      ap (λ z. joined j q (D z) (D (bits d to ++ q ∷ []))) whole ∙ ap (λ z. joined j q (D (bits d line ++ not q ∷ [])) (D (z ++ q ∷ []))) front
      ∙ sym (worth_joins j kept ks d (bits d line) h) in
      let three : climb d to xs (deep j kept ks d (bits d line)) ≡ climb d line xs (deep j kept ks d (bits d line)) =
      climb_same d to line xs xs (deep j kept ks d (bits d line)) s (λ i l. refl) in
      rw add-one (one ∙ ap (climb d to xs) two ∙ three)

  -- Up from the second branch.
  pub climb_up : (d k line : ℕ) (xs : List W) (x v : W) → d ≡ suc k → start ≤ k → second ks line k ≡ true → get_or xs k j.lost ≡ x
      → climb k line xs (joined j (is_report ks (suc k)) x v) ≡ climb d line xs v
  climb_up d k line xs x v e st b r =
      sym (ap (λ (z : ℕ). climb z line xs v) e ∙ climb_second k line xs v st b ∙ ap (λ z. climb k line xs (joined j (is_report ks (suc k)) z v)) r)

  -- Up from a first branch that the second cannot change.
  pub climb_cut : (d k line : ℕ) (xs : List W) (v : W) → d ≡ suc k → start ≤ k → second ks line k ≡ false → ((b : W) → joined j (is_report ks (suc k)) v b ≡ v)
      → climb k line xs v ≡ climb d line xs v
  climb_cut d k line xs v e st b q =
      sym (ap (λ (z : ℕ). climb z line xs v) e ∙ climb_first k line xs v st b
      ∙ ap (climb k line xs) (q (deep j kept ks (suc k) (bits k line ++ is_report ks (suc k) ∷ []))))

  -- Over from the first branch into the second.
  pub climb_over : (d k line to : ℕ) (xs : List W) (v : W) → d ≡ suc k → start ≤ k → k < length xs → second ks line k ≡ false → bit to k ≡ is_report ks (suc k) → SameTo k to line
      → climb d to (set xs k v) (deep j kept ks d (bits d to)) ≡ climb d line xs v
  climb_over d k line to xs v e st h b t s =
      let q : Bool = is_report ks (suc k) in
      let front : bits k to ≡ bits k line = bits_same k to line s in
      let whole : bits (suc k) to ≡ bits k line ++ q ∷ [] = bits_push k to ∙ ap (λ t. t ++ bit to k ∷ []) front ∙ ap (λ (x : Bool). bits k line ++ x ∷ []) t in
      let D : List Bool → W = deep j kept ks (suc k) in
      let ys : List W = set xs k v in
      let one : climb (suc k) to ys (D (bits (suc k) to)) ≡ climb k to ys (joined j q (get_or ys k j.lost) (D (bits (suc k) to))) =
      climb_second k to ys (D (bits (suc k) to)) st (ap (λ (x : Bool). beq x q) t ∙ second_same q) in
      let two : joined j q (get_or ys k j.lost) (D (bits (suc k) to)) ≡ joined j q v (D (bits k line ++ q ∷ [])) =
      ap (λ z. joined j q z (D (bits (suc k) to))) (get_or-set_same xs k v j.lost h) ∙ ap (λ z. joined j q v (D z)) whole in
      let three : climb k to ys (joined j q v (D (bits k line ++ q ∷ []))) ≡ climb k line xs (joined j q v (D (bits k line ++ q ∷ []))) =
      climb_same k to line ys xs (joined j q v (D (bits k line ++ q ∷ []))) s (λ i l. let ne : i ≢ k = omega arith in get_or-set_other xs k i v j.lost ne) in
      let four : climb (suc k) to ys (D (bits (suc k) to)) ≡ climb (suc k) line xs v = one ∙ ap (climb k to ys) two ∙ three ∙ sym (climb_first k line xs v st b) in
      subst (λ (d : ℕ). climb d to ys (deep j kept ks d (bits d to)) ≡ climb d line xs v) (sym e) four
