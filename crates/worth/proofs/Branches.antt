-- The worth of a part line from those of its two branches, and where nothing is to be walked.
use Rattle.std.proofs.Common.{◌≡◌, ℕ, zero, suc, ◌<◌, ◌≤◌, min, Bool, true, false, cond, not, List, [], ◌∷◌, ◌++◌, length, drop, sym, refl, ap, ◌∙◌, subst, append_assoc, append-nil, arith, length-drop}
use Rattle.std.proofs.lemmas.List.{drop_all}
use Rattle.std.proofs.lemmas.Bool.{not-false}
use Rattle.prefix.specs.Bits.{bits}
use Rattle.prefix.specs.Kinds.{is_report}
use Rattle.prefix.specs.Prefixes.{kinds}
use Rattle.prefix.specs.declared.kind.Kind.{Kind}
use Rattle.prefix.specs.declared.kind.Kind.TheVariants.{Report, Reply}
use Rattle.prefix.specs.declared.prefix.Prefix.{Prefix}
use Rattle.prefix.proofs.Masks.{length-bits}
use Rattle.prefix.proofs.Positions.{length-kinds}
use Rattle.sheet.specs.Meaning.{Sound}
use Rattle.worth.specs.Scales.{Joins, Lawful, joined}
use Rattle.worth.specs.Worth.{worth}

module _ {W : Type 0} (j : Joins W) (kept : List Bool → Bool) where
  -- Whether a report is next says which branch comes first, and how they join.
  pub worth_joins : (ks : List Kind) (d : ℕ) (u : List Bool) → d < length ks → worth j kept (drop d ks) u
      ≡ joined j (is_report ks (suc d)) (worth j kept (drop (suc d) ks) (u ++ not (is_report ks (suc d)) ∷ [])) (worth j kept (drop (suc d) ks) (u ++ is_report ks (suc d) ∷ []))
  worth_joins [] d u h = absurd (omega arith)
  worth_joins (Report ∷ ks) zero u h = refl
  worth_joins (Reply ∷ ks) zero u h = refl
  worth_joins (q ∷ ks) (suc d) u h = worth_joins ks d u (omega arith)

  pub worth_end : (ks : List Kind) (u : List Bool) → worth j kept (drop (length ks) ks) u ≡ cond (kept u) j.won j.lost
  worth_end ks u = ap (λ rest. worth j kept rest u) (drop_all (length ks) ks (omega arith))

  -- No kept line begins with u, so none begins with u and one value more.
  abbrev NoneFrom : ℕ → List Bool → Type 0
  NoneFrom n u = (v : List Bool) → length v ≡ n → kept (u ++ v) ≡ false

  none_more : (n : ℕ) (u : List Bool) (x : Bool) → NoneFrom (suc n) u → NoneFrom n (u ++ x ∷ [])
  none_more n u x h v e = subst (λ w. kept w ≡ false) (sym (append_assoc u (x ∷ []) v)) (h (x ∷ v) (ap suc e))

  -- Then the worth is lost.
  none_lost : Lawful j → (ks : List Kind) (u : List Bool) → NoneFrom (length ks) u → worth j kept ks u ≡ j.lost
  none_lost l [] u h = ap (λ (b : Bool). cond b j.won j.lost) (subst (λ w. kept w ≡ false) (append-nil u) (h [] refl))
  none_lost l (Report ∷ ks) u h =
      let f = none_lost l ks (u ++ false ∷ []) (none_more (length ks) u false h) in
      let t = none_lost l ks (u ++ true ∷ []) (none_more (length ks) u true h) in
      cc (l.lost-both j.lost)
  none_lost l (Reply ∷ ks) u h =
      let f = none_lost l ks (u ++ false ∷ []) (none_more (length ks) u false h) in
      let t = none_lost l ks (u ++ true ∷ []) (none_more (length ks) u true h) in
      cc (l.lost-either j.lost)

  module _ (ks : List Kind) (broken : List Bool → Bool) (sound : Sound (length ks) kept broken) where
    -- A broken part line is lost.
    pub broken_lost : Lawful j → (d : ℕ) (u : List Bool) → length u ≡ d → d ≤ length ks → broken u ≡ true → worth j kept (drop d ks) u ≡ j.lost
    broken_lost l d u e h b = none_lost l (drop d ks) u (λ v f. sound.part u v (omega (arith, length-drop d ks)) b)

    -- A whole line that is not broken is won.
    pub whole-won : (d : ℕ) (u : List Bool) → length u ≡ d → d ≡ length ks → broken u ≡ false → worth j kept (drop d ks) u ≡ j.won
    whole-won d u e h b =
        ap (λ (z : ℕ). worth j kept (drop z ks) u) h ∙ worth_end ks u
        ∙ ap (λ (k : Bool). cond k j.won j.lost) (not-false (kept u) (sym (sound.whole u (e ∙ h)) ∙ b))

-- The same, by what `broken` answers of a sheet of prefix p.
module _ {W : Type 0} (j : Joins W) (kept broken : List Bool → Bool) (p : Prefix) (sound : Sound p.length kept broken) (d line : ℕ) (within : d ≤ p.length) where
  long : length (kinds p) ≡ p.length
  long = length-kinds p.length p.reports

  sound_kinds : Sound (length (kinds p)) kept broken
  sound_kinds = subst (λ (n : ℕ). Sound n kept broken) (sym long) sound

  asked : broken (bits (min d p.length) line) ≡ broken (bits d line)
  asked = let e : min d p.length ≡ d = omega arith in ap (λ (k : ℕ). broken (bits k line)) e

  pub answer_lost : Lawful j → true ≡ broken (bits (min d p.length) line) → j.lost ≡ worth j kept (drop d (kinds p)) (bits d line)
  answer_lost l b = sym (broken_lost j kept (kinds p) broken sound_kinds l d (bits d line) (length-bits d line) (let n = long in omega arith) (sym asked ∙ sym b))

  pub answer_won : false ≡ broken (bits (min d p.length) line) → d ≡ p.length → j.won ≡ worth j kept (drop d (kinds p)) (bits d line)
  answer_won b end = sym (whole-won j kept (kinds p) broken sound_kinds d (bits d line) (length-bits d line) (end ∙ sym long) (sym asked ∙ sym b))
