-- What rows mean, and that their values come to the same.
use Rattle.std.proofs.Common.{◌≡◌, ℕ, zero, suc, ◌-◌, ◌/◌, ◌%◌, ◌^◌, ◌<◌, min, Bool, true, false, not, ◌&&◌, ◌||◌, eqb, List, [], ◌∷◌, Decides, sym, refl, ap, ◌∙◌, subst, arith}
use mathlib.Core.Bool.{beq}
use lib.Bits.{bit_and}
use Rattle.std.specs.Int.{bit_at}
use Rattle.std.specs.List.{list_any}
use Rattle.std.specs.Cmp.{booleans_Decides}
use Rattle.std.proofs.lemmas.Nat.Bits.{bit_at_and, same_from_bits}
use Rattle.std.proofs.lemmas.Bool.{and_parts, and_from, false≢true}
use Rattle.std.proofs.lemmas.Bool.Decides.{Decides-eqb, Decides-and, Decides-like}
use Rattle.std.proofs.lemmas.List.Folds.{Any-from_list_any, list_any-from_Any}
use Rattle.prefix.specs.Bits.{odd, bit, bits, mask_value}
use Rattle.prefix.specs.Kinds.{is_report, is_reply, report_values}
use Rattle.prefix.specs.Lines.{setting_before}
use Rattle.prefix.specs.Prefixes.{kinds}
use Rattle.prefix.specs.declared.kind.Kind.{Kind}
use Rattle.prefix.specs.declared.kind.Kind.TheVariants.{Report, Reply}
use Rattle.prefix.specs.declared.prefix.Prefix.{Prefix}
use Rattle.prefix.proofs.Masks.{four_cases, and_bit, bit_first, bit_half}
use Rattle.prefix.proofs.Cuts.{before_decides}
use Rattle.book.specs.Guards.{answer, same_side}
use Rattle.book.specs.declared.side.Side.{Side}
use Rattle.book.specs.declared.side.Side.TheVariants.{On, Off}
use Rattle.book.specs.Rows.{WellMade, Agrees, SomeRow}
use Rattle.book.specs.RowGuards.{within, well_made, as_wanted, row_agrees, row_guards}
use Rattle.book.specs.declared.row.Row.{Row}

itself : (b : Bool) → Decides b (b ≡ true)
itself b = (λ h. h, λ h. h)

-- Of two bits the lower one is the first, where the second is on as soon as the first is.
lower : (r s : ℕ) → r < 2 → s < 2 → (eqb r 1 ≡ true → eqb s 1 ≡ true) → min r s ≡ r
lower = four_cases (λ r s. (eqb r 1 ≡ true → eqb s 1 ≡ true) → min r s ≡ r) (λ _. refl) (λ _. refl) (λ f. absurd (false≢true (f refl))) (λ _. refl)

pub within_decides : (a b : ℕ) → Decides (within a b) ((k : ℕ) → mask_value a k ≡ true → mask_value b k ≡ true)
within_decides a b = (λ h. each ((Decides-eqb (bit_and a b) a).0 h), λ f. (Decides-eqb (bit_and a b) a).1 (same_from_bits (bit_and a b) a (same f)))
  where
    each : bit_and a b ≡ a → (k : ℕ) → mask_value a k ≡ true → mask_value b k ≡ true
    each e zero h = h
    each e (suc i) h = (and_parts (bit a i) (bit b i) (sym (and_bit a b i) ∙ ap (λ (z : ℕ). bit z i) e ∙ h)).1

    same : ((k : ℕ) → mask_value a k ≡ true → mask_value b k ≡ true) → (i : ℕ) → bit_at (bit_and a b) i ≡ bit_at a i
    same f i = bit_at_and a b i ∙ lower (bit_at a i) (bit_at b i) (omega arith) (omega arith) (f (suc i))

well_made_decides : (p : Prefix) (r : Row) → Decides (well_made p r) (WellMade p r)
well_made_decides p r =
    let before = p.reports % 2 ^ (r.position - 1) in
    let reply = is_reply (kinds p) r.position in
    let looks = within r.looked_at before in
    let wants = within r.wanted_on r.looked_at in
    Decides-like (reply && looks && wants)
    (λ h. record { reply = h.0.0; looks = λ k l. (before_decides p r.position k).0 (h.0.1 k l); wants = h.1 })
    (λ h. ((h.reply, λ k l. (before_decides p r.position k).1 (h.looks k l)), h.wants))
    (Decides-and (reply && looks) wants (Decides-and reply looks (itself reply) (within_decides r.looked_at before)) (within_decides r.wanted_on r.looked_at))

-- One position: it is not looked at, or has the wanted value.
one_decides : (l w x : Bool) → Decides (not l || beq x w) (l ≡ true → x ≡ w)
one_decides true w x = (λ h _. (booleans_Decides x w).0 h, λ f. (booleans_Decides x w).1 (f refl))
one_decides false w x = (λ _ h. absurd (false≢true h), λ _. refl)

-- Every report among the kinds is as the masks l and w want it in the mask m.
abbrev Wanted : List Kind → ℕ → ℕ → ℕ → ℕ → Type 0
Wanted ks d l w m = (i : ℕ) → i < d → is_report ks (suc i) ≡ true → bit l i ≡ true → bit m i ≡ bit w i

as_wanted_decides : (ks : List Kind) (d l w m : ℕ) → Decides (as_wanted (report_values ks (bits d l)) (report_values ks (bits d w)) (report_values ks (bits d m))) (Wanted ks d l w m)
as_wanted_decides [] d l w m = (λ _ i _ h _. absurd (false≢true h), λ _. refl)
as_wanted_decides (q ∷ ks) zero l w m = (λ _ i h _ _. absurd (omega arith), λ _. refl)
as_wanted_decides (Report ∷ ks) (suc d) l w m =
    let first = not (odd l) || beq (odd m) (odd w) in
    let rest = as_wanted (report_values ks (bits d (l / 2))) (report_values ks (bits d (w / 2))) (report_values ks (bits d (m / 2))) in
    Decides-like (first && rest) there back
    (Decides-and first rest (one_decides (odd l) (odd w) (odd m)) (as_wanted_decides ks d (l / 2) (w / 2) (m / 2)))
  where
    there : (odd l ≡ true → odd m ≡ odd w) × Wanted ks d (l / 2) (w / 2) (m / 2) → Wanted (Report ∷ ks) (suc d) l w m
    there h zero _ _ e = bit_first m ∙ h.0 (sym (bit_first l) ∙ e) ∙ sym (bit_first w)
    there h (suc i) lt is e = sym (bit_half m i) ∙ h.1 i (omega arith) is (bit_half l i ∙ e) ∙ bit_half w i

    back : Wanted (Report ∷ ks) (suc d) l w m → (odd l ≡ true → odd m ≡ odd w) × Wanted ks d (l / 2) (w / 2) (m / 2)
    back h = (
      λ e. sym (bit_first m) ∙ h zero (omega arith) refl (bit_first l ∙ e) ∙ bit_first w,
      λ i lt is e. bit_half m i ∙ h (suc i) (omega arith) is (sym (bit_half l i) ∙ e) ∙ sym (bit_half w i),
    )
as_wanted_decides (Reply ∷ ks) (suc d) l w m =
    let rest = as_wanted (report_values ks (bits d (l / 2))) (report_values ks (bits d (w / 2))) (report_values ks (bits d (m / 2))) in
    Decides-like rest there back (as_wanted_decides ks d (l / 2) (w / 2) (m / 2))
  where
    there : Wanted ks d (l / 2) (w / 2) (m / 2) → Wanted (Reply ∷ ks) (suc d) l w m
    there h zero _ is _ = absurd (false≢true is)
    there h (suc i) lt is e = sym (bit_half m i) ∙ h i (omega arith) is (bit_half l i ∙ e) ∙ bit_half w i

    back : Wanted (Reply ∷ ks) (suc d) l w m → Wanted ks d (l / 2) (w / 2) (m / 2)
    back h i lt is e = bit_half m i ∙ h (suc i) (omega arith) is (sym (bit_half l i) ∙ e) ∙ sym (bit_half w i)

module _ (p : Prefix) (r : Row) (m : ℕ) where
  -- A row that is well made looks at reports before its position alone.
  values_from : WellMade p r → Wanted (kinds p) (r.position - 1) r.looked_at r.wanted_on m → (k : ℕ) → mask_value r.looked_at k ≡ true → mask_value m k ≡ mask_value r.wanted_on k
  values_from made h zero e = refl
  values_from made h (suc i) e = let at = made.looks (suc i) e in let near = at.1 in h i (omega arith) at.0 e

  pub agrees_decides : Decides (row_agrees p r (setting_before p r.position m)) (Agrees p r m)
  agrees_decides =
      let made = well_made p r in
      let values = as_wanted (setting_before p r.position r.looked_at) (setting_before p r.position r.wanted_on) (setting_before p r.position m) in
      Decides-like (made && values) (λ h. record { made = h.0; values = values_from h.0 h.1 }) (λ h. (h.made, λ i _ _ e. h.values (suc i) e))
      (Decides-and made values (well_made_decides p r) (as_wanted_decides (kinds p) (r.position - 1) r.looked_at r.wanted_on m))

same_side_decides : (s t : Side) → Decides (same_side s t) (s ≡ t)
same_side_decides On On = (λ _. refl, λ _. refl)
same_side_decides On Off = (λ h. absurd (false≢true h), λ e. sym (ap (same_side On) e))
same_side_decides Off On = (λ h. absurd (false≢true h), λ e. sym (ap (same_side Off) e))
same_side_decides Off Off = (λ _. refl, λ _. refl)

module _ (p : Prefix) (side : Side) (k m : ℕ) where
  abbrev tested : Row → Bool
  tested r = eqb r.position k && same_side r.side side && row_agrees p r (setting_before p k m)

  abbrev Met : Row → Type 0
  Met r = (r.position ≡ k) × (r.side ≡ side) × Agrees p r m

  agrees_at : (r : Row) → r.position ≡ k → Decides (row_agrees p r (setting_before p k m)) (Agrees p r m)
  agrees_at r e = subst (λ (k : ℕ). Decides (row_agrees p r (setting_before p k m)) (Agrees p r m)) e (agrees_decides p r m)

  met_decides : (r : Row) → Decides (tested r) (Met r)
  met_decides r =
      let at = Decides-and (eqb r.position k) (same_side r.side side) (Decides-eqb r.position k) (same_side_decides r.side side) in (
        λ h.
            let all = and_parts (eqb r.position k && same_side r.side side) (row_agrees p r (setting_before p k m)) h in
            let both = at.0 all.0 in
            (both.0, both.1, (agrees_at r both.0).0 all.1),
        λ h. and_from (eqb r.position k && same_side r.side side) (row_agrees p r (setting_before p k m)) (at.1 (h.0, h.1)) ((agrees_at r h.0).1 h.2),
      )

  pub some_row_decides : (rows : List Row) → Decides (answer p (row_guards p rows) side k m) (SomeRow p rows side k m)
  some_row_decides rows = (
    λ h.
        let found = Any-from_list_any tested rows (and_parts (is_reply (kinds p) k) (list_any tested rows) h).1 in
        (found.0, found.1, found.2, found.3, (met_decides found.1).0 found.4),
    λ h. and_from (is_reply (kinds p) k) (list_any tested rows) (subst (λ (k : ℕ). is_reply (kinds p) k ≡ true) h.4.0 h.4.2.made.reply)
        (list_any-from_Any tested rows (h.0, h.1, h.2, h.3, (met_decides h.1).1 h.4)),
  )
