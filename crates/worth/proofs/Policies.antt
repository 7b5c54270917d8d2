-- The yes-no worth of a part line is yes exactly when some policy wins from there.
use Rattle.std.proofs.Common.{◌≡◌, ℕ, zero, suc, Bool, true, false, cond, ◌||◌, List, [], ◌∷◌, ◌++◌, Ok, Err, Result, sym, refl, ap, ◌∙◌, append_assoc, append-nil, arith}
use Rattle.std.proofs.lemmas.Bool.{and_parts, and_from, or_left, or_right}
use Rattle.prefix.specs.Policies.{Policy, after_reply, after_report, line, WinsFrom, Winnable}
use Rattle.prefix.specs.declared.kind.Kind.{Kind}
use Rattle.prefix.specs.declared.kind.Kind.TheVariants.{Report, Reply}
use Rattle.prefix.specs.declared.prefix.Prefix.{Prefix}
use Rattle.worth.specs.Scales.{yes_no}
use Rattle.worth.specs.Worth.{worth, Asked}
use Rattle.worth.specs.Winning.{YesMeansWinnable, Told}
use Rattle.worth.specs.declared.fault.WorthFault.{WorthFault}

or_some : (f : Bool → Bool) (b : Bool) → f b ≡ true → (f true || f false) ≡ true
or_some f true h = or_left (f true) (f false) h
or_some f false h = or_right (f true) (f false) h

-- Of two branches one of which is won: on where on is, else off.
or_pick : (f : Bool → Bool) (b : Bool) → f true ≡ b → (f true || f false) ≡ true → f b ≡ true
or_pick f true e h = e
or_pick f false e h = sym (ap (λ (x : Bool). x || f false) e) ∙ h

yes_kept : (b : Bool) → cond b true false ≡ true → b ≡ true
yes_kept true h = refl
yes_kept false h = h

module _ (kept : List Bool → Bool) where
  abbrev pub yes : List Kind → List Bool → Bool
  yes ks u = worth yes_no kept ks u

  -- One value more stands at the part line's end or at the front of what follows.
  shift : (u : List Bool) (x : Bool) (t : List Bool) → kept (u ++ x ∷ t) ≡ kept ((u ++ x ∷ []) ++ t)
  shift u x t = ap kept (sym (append_assoc u (x ∷ []) t))

  pub wins_yes : (ks : List Kind) (u : List Bool) (p : Policy) → WinsFrom kept ks u p → yes ks u ≡ true
  wins_yes [] u p w = ap (λ (b : Bool). cond b true false) (ap kept (sym (append-nil u)) ∙ w [] refl)
  wins_yes (Report ∷ ks) u p w =
      and_from (yes ks (u ++ false ∷ [])) (yes ks (u ++ true ∷ []))
      (wins_yes ks (u ++ false ∷ []) (after_report false p) (λ s e. sym (shift u false (line ks (after_report false p) s)) ∙ w (false ∷ s) (ap suc e)))
      (wins_yes ks (u ++ true ∷ []) (after_report true p) (λ s e. sym (shift u true (line ks (after_report true p) s)) ∙ w (true ∷ s) (ap suc e)))
  wins_yes (Reply ∷ ks) u p w =
      or_some (λ x. yes ks (u ++ x ∷ [])) (p 1 [])
      (wins_yes ks (u ++ p 1 [] ∷ []) (after_reply p) (λ s e. sym (shift u (p 1 []) (line ks (after_reply p) s)) ∙ w s e))

  -- What to play at the position after the first i: on wherever on is still worth yes.
  unfoldable pub best : List Kind → List Bool → ℕ → List Bool → Bool
  best [] u i v = false
  best (Report ∷ ks) u zero v = false
  best (Report ∷ ks) u (suc i) [] = false
  best (Report ∷ ks) u (suc i) (x ∷ v) = best ks (u ++ x ∷ []) i v
  best (Reply ∷ ks) u zero v = yes ks (u ++ true ∷ [])
  best (Reply ∷ ks) u (suc i) v = best ks (u ++ yes ks (u ++ true ∷ []) ∷ []) i v

  -- A policy that plays so.
  abbrev pub PlaysBest : List Kind → List Bool → Policy → Type 0
  PlaysBest ks u p = (i : ℕ) (v : List Bool) → p (suc i) v ≡ best ks u i v

  best_after_report : (ks : List Kind) (u : List Bool) (p : Policy) (x : Bool) → PlaysBest (Report ∷ ks) u p → PlaysBest ks (u ++ x ∷ []) (after_report x p)
  unfolding best
  best_after_report ks u p x b i v = b (suc i) (x ∷ v)

  best_here : (ks : List Kind) (u : List Bool) (p : Policy) → PlaysBest (Reply ∷ ks) u p → p 1 [] ≡ yes ks (u ++ true ∷ [])
  unfolding best
  best_here ks u p b = b zero []

  best_after_reply : (ks : List Kind) (u : List Bool) (p : Policy) → PlaysBest (Reply ∷ ks) u p → PlaysBest ks (u ++ p 1 [] ∷ []) (after_reply p)
  unfolding best
  best_after_reply ks u p b i v = b (suc i) v ∙ ap (λ (x : Bool). best ks (u ++ x ∷ []) i v) (sym (b zero []))

  pub yes_wins : (ks : List Kind) (u : List Bool) (p : Policy) → PlaysBest ks u p → yes ks u ≡ true → WinsFrom kept ks u p
  yes_wins [] u p b y s e = ap kept (append-nil u) ∙ yes_kept (kept u) y
  yes_wins (Report ∷ ks) u p b y [] e = absurd (omega arith)
  yes_wins (Report ∷ ks) u p b y (false ∷ s) e =
      shift u false (line ks (after_report false p) s)
      ∙ yes_wins ks (u ++ false ∷ []) (after_report false p) (best_after_report ks u p false b) (and_parts (yes ks (u ++ false ∷ [])) (yes ks (u ++ true ∷ [])) y).0 s (omega arith)
  yes_wins (Report ∷ ks) u p b y (true ∷ s) e =
      shift u true (line ks (after_report true p) s)
      ∙ yes_wins ks (u ++ true ∷ []) (after_report true p) (best_after_report ks u p true b) (and_parts (yes ks (u ++ false ∷ [])) (yes ks (u ++ true ∷ [])) y).1 s (omega arith)
  yes_wins (Reply ∷ ks) u p b y s e =
      shift u (p 1 []) (line ks (after_reply p) s)
      ∙ yes_wins ks (u ++ p 1 [] ∷ []) (after_reply p) (best_after_reply ks u p b) (or_pick (λ x. yes ks (u ++ x ∷ [])) (p 1 []) (sym (best_here ks u p b)) y) s e

  abbrev best_policy : List Kind → List Bool → Policy
  best_policy ks u zero v = false
  best_policy ks u (suc i) v = best ks u i v

pub yes_means_winnable : YesMeansWinnable
yes_means_winnable kept ks u =
    (λ y. (best_policy kept ks u, yes_wins kept ks u (best_policy kept ks u) (λ i v. refl) y), λ w. wins_yes kept ks u w.0 w.1)

-- The yes-no worth, asked for, tells whether some policy wins.
pub worth_told : (kept : List Bool → Bool) (ks : List Kind) (u : List Bool) (p : Prefix) (before after : List Bool) (r : Result Bool WorthFault)
    → Asked yes_no p (worth yes_no kept ks u) before after r → Told (Winnable kept ks u) p before after r
worth_told kept ks u p before after (Ok won) h =
    let t = yes_means_winnable kept ks u in
    (h.0, (λ y. t.0 (sym h.1 ∙ y), λ w. h.1 ∙ t.1 w), h.2, h.3)
worth_told kept ks u p before after (Err fault) h = h
