-- The policy that is on exactly where on can still win: there is one, it wins where any does, and at the points it is the only one.
use Rattle.std.proofs.Common.{◌≡◌, ℕ, zero, suc, Bool, true, false, List, [], ◌∷◌, ◌++◌, take, drop, sym, refl, ap, ◌∙◌, append_assoc, append-nil, arith, Decides, subst}
use native.Mathlib.Numerals.{unary_clauses}
use Rattle.std.proofs.lemmas.Bool.Decides.{same_from_decides}
use Rattle.prefix.specs.Points.{Point}
use Rattle.prefix.specs.Policies.{Policy, after_reply, after_report, line, Winnable}
use Rattle.prefix.specs.declared.kind.Kind.{Kind}
use Rattle.prefix.specs.declared.kind.Kind.TheVariants.{Report, Reply}
use Rattle.prefix.proofs.Lines.{none_not_reply, report_not_reply}
use Rattle.worth.proofs.Policies.{yes, best, yes_wins, yes_means_winnable}
use Rattle.play.specs.Found.{Searched}
use Rattle.play.specs.Searching.{OnCanWin, OnWhereItCanWin}

module _ (kept : List Bool → Bool) where
  -- The worth of the part line so far, then on, after the part line u.
  abbrev worth_on : List Kind → List Bool → Policy → ℕ → List Bool → Bool
  worth_on ks u p i v = yes kept (drop (suc i) ks) ((u ++ line (take i ks) p v) ++ true ∷ [])

  -- A policy that is on at each point exactly where that worth is yes plays what is best.
  plays_best : (ks : List Kind) (u : List Bool) (p : Policy) → ((i : ℕ) (v : List Bool) → Point ks (suc i) v → p (suc i) v ≡ worth_on ks u p i v)
      → (i : ℕ) (v : List Bool) → Point ks (suc i) v → p (suc i) v ≡ best kept ks u i v
  unfolding best
  plays_best [] u p h i v o = none_not_reply o.0
  plays_best (Report ∷ ks) u p h zero v o = report_not_reply o.0
  plays_best (Report ∷ ks) u p h (suc i) [] o = let e = o.1 in absurd (omega arith)
  plays_best (Report ∷ ks) u p h (suc i) (x ∷ v) o =
      plays_best ks (u ++ x ∷ []) (after_report x p)
      (λ j w l. h (suc j) (x ∷ w) (l.0, ap suc l.1) ∙ ap (λ t. yes kept (drop (suc j) ks) (t ++ true ∷ [])) (sym (append_assoc u (x ∷ []) (line (take j ks) (after_report x p) w))))
      i v (o.0, let e = o.1 in omega arith)
  plays_best (Reply ∷ ks) u p h zero (x ∷ v) o = let e = o.1 in absurd (omega arith)
  plays_best (Reply ∷ ks) u p h zero [] o = h zero [] o ∙ ap (λ t. yes kept ks (t ++ true ∷ [])) (append-nil u)
  plays_best (Reply ∷ ks) u p h (suc i) v o =
      let here : p 1 [] ≡ yes kept ks (u ++ true ∷ []) = h zero [] (refl, refl) ∙ ap (λ t. yes kept ks (t ++ true ∷ [])) (append-nil u) in
      plays_best ks (u ++ p 1 [] ∷ []) (after_reply p)
      (λ j w l. h (suc j) w l ∙ ap (λ t. yes kept (drop (suc j) ks) (t ++ true ∷ [])) (sym (append_assoc u (p 1 [] ∷ []) (line (take j ks) (after_reply p) w))))
      i v o
      ∙ ap (λ (b : Bool). best kept ks (u ++ b ∷ []) i v) here

  -- And what is best is on where that worth is yes.
  best_plays : (ks : List Kind) (u : List Bool) (p : Policy) → ((i : ℕ) (v : List Bool) → p (suc i) v ≡ best kept ks u i v)
      → (i : ℕ) (v : List Bool) → Point ks (suc i) v → p (suc i) v ≡ worth_on ks u p i v
  unfolding best
  best_plays [] u p h i v o = none_not_reply o.0
  best_plays (Report ∷ ks) u p h zero v o = report_not_reply o.0
  best_plays (Report ∷ ks) u p h (suc i) [] o = let e = o.1 in absurd (omega arith)
  best_plays (Report ∷ ks) u p h (suc i) (x ∷ v) o =
      best_plays ks (u ++ x ∷ []) (after_report x p) (λ j w. h (suc j) (x ∷ w)) i v (o.0, let e = o.1 in omega arith)
      ∙ ap (λ t. yes kept (drop (suc i) ks) (t ++ true ∷ [])) (append_assoc u (x ∷ []) (line (take i ks) (after_report x p) v))
  best_plays (Reply ∷ ks) u p h zero (x ∷ v) o = let e = o.1 in absurd (omega arith)
  best_plays (Reply ∷ ks) u p h zero [] o = h zero [] ∙ ap (λ t. yes kept ks (t ++ true ∷ [])) (sym (append-nil u))
  best_plays (Reply ∷ ks) u p h (suc i) v o =
      best_plays ks (u ++ p 1 [] ∷ []) (after_reply p) (λ j w. h (suc j) w ∙ ap (λ (b : Bool). best kept ks (u ++ b ∷ []) j w) (sym (h zero []))) i v o
      ∙ ap (λ t. yes kept (drop (suc i) ks) (t ++ true ∷ [])) (append_assoc u (p 1 [] ∷ []) (line (take i ks) (after_reply p) v))

  abbrev pub best_policy : List Kind → Policy
  best_policy ks zero v = false
  best_policy ks (suc i) v = best kept ks [] i v

  -- By worths, and by policies.
  on_by_worth : (ks : List Kind) (p : Policy) → OnWhereItCanWin kept ks p → (i : ℕ) (v : List Bool) → Point ks (suc i) v → p (suc i) v ≡ worth_on ks [] p i v
  on_by_worth ks p h i v o =
      let t = yes_means_winnable kept (drop (suc i) ks) (line (take i ks) p v ++ true ∷ []) in
      same_from_decides (p (suc i) v) (worth_on ks [] p i v) (simp unary_clauses at (h (suc i) v o)) t

  by_worth_on : (ks : List Kind) (p : Policy) → ((i : ℕ) (v : List Bool) → Point ks (suc i) v → p (suc i) v ≡ worth_on ks [] p i v) → OnWhereItCanWin kept ks p
  by_worth_on ks p h zero v o = none_not_reply o.0
  by_worth_on ks p h (suc i) v o =
      let t = yes_means_winnable kept (drop (suc i) ks) (line (take i ks) p v ++ true ∷ []) in
      subst (λ (b : Bool). Decides b (OnCanWin kept ks p (suc i) v)) (sym (h i v o)) (simp unary_clauses t)

  pub best_is_on : (ks : List Kind) → OnWhereItCanWin kept ks (best_policy ks)
  best_is_on ks = by_worth_on ks (best_policy ks) (best_plays ks [] (best_policy ks) (λ i v. refl))

  pub best_wins : (ks : List Kind) → Winnable kept ks [] → Searched kept ks (best_policy ks)
  best_wins ks w = record {
    wins = yes_wins kept ks [] (best_policy ks) (λ i v. refl) ((yes_means_winnable kept ks []).1 w);
    on = best_is_on ks;
    only = only;
  }
    where
      only : (q : Policy) → OnWhereItCanWin kept ks q → (k : ℕ) (v : List Bool) → Point ks k v → q k v ≡ best_policy ks k v
      only q h zero v o = none_not_reply o.0
      only q h (suc i) v o = plays_best ks [] q (on_by_worth ks q h) i v o
