-- The choices of a policy as they are listed, one point more at a time.
use Rattle.std.proofs.Common.{◌≡◌, ℕ, ◌+◌, ◌≤◌, ◌<◌, Bool, true, ◌⊎◌, List, [], ◌∷◌, ◌++◌, length, refl, sym, ap, ◌∙◌, subst, ⊎_elim, inl, inr, arith}
use Rattle.std.proofs.lemmas.Bool.{cases_lt}
use Rattle.std.proofs.lemmas.Bool.Decides.{nat_tests}
use Rattle.prefix.specs.Kinds.{is_reply, reports_before}
use Rattle.prefix.specs.Lines.{setting_before, SettingMask}
use Rattle.prefix.specs.Points.{Point, points_at}
use Rattle.prefix.specs.Policies.{Policy}
use Rattle.prefix.specs.Prefixes.{kinds}
use Rattle.prefix.specs.Settings.{number}
use Rattle.prefix.specs.declared.kind.Kind.{Kind}
use Rattle.prefix.specs.declared.prefix.Prefix.{Prefix}
use Rattle.prefix.proofs.Settings.{number-apart}
use Rattle.prefix.proofs.Replies.{reply_within, point_of}
use Rattle.book.specs.CopySteps.{comes_before}
use Rattle.book.specs.Guards.{Guards, answer}
use Rattle.book.specs.declared.side.Side.TheVariants.{On}
use Rattle.book.proofs.Copies.{answer_at, number_within}
use Rattle.play.specs.Listing.{Lists}
use Rattle.jobs.specs.Choices.{choice_of, ListedBefore}
use Rattle.jobs.specs.Steps.{ListsTo}
use Rattle.jobs.specs.declared.choice.Choice.{Choice}
use Rattle.play.proofs.Listing.{lists_same, lists_push}

-- What coming before a position and a setting means.
before_true : (k s j n : ℕ) → comes_before k s j n ≡ true → (j < k) ⊎ ((j ≡ k) × (n < s))
before_true k s j n h = grind (arith, nat_tests)

before_less : (k s j n : ℕ) → (j < k) ⊎ ((j ≡ k) × (n < s)) → comes_before k s j n ≡ true
before_less k s j n h = grind (arith, nat_tests)

module _ (ks : List Kind) (p : Policy) where
  -- The points before position k and setting s.
  abbrev Earlier : ℕ → ℕ → ℕ → List Bool → Type 0
  Earlier k s j w = Point ks j w × (comes_before k s j (number w) ≡ true)

  -- One point more.
  pub choice_listed : (k s : ℕ) (v : List Bool) (cs : List Choice) → Point ks k v → number v ≡ s → ListsTo ks p k s cs → ListsTo ks p k (s + 1) (cs ++ choice_of p k v ∷ [])
  choice_listed k s v cs o n h = lists_push (Earlier k s) (choice_of p) ListedBefore (Earlier k (s + 1)) k v cs before to (o, before_less k (s + 1) k (number v) (inr (refl, omega arith))) from h
    where
      before : (j : ℕ) (w : List Bool) → Earlier k s j w → ListedBefore (choice_of p j w) (choice_of p k v)
      before j w e = ⊎_elim (λ (l : j < k). inl l) (λ (t : (j ≡ k) × (number w < s)). inr (t.0, omega arith)) (before_true k s j (number w) e.1)

      to : (j : ℕ) (w : List Bool) → Earlier k s j w → Earlier k (s + 1) j w
      to j w e = (e.0, before_less k (s + 1) j (number w) (⊎_elim (λ (l : j < k). inl l) (λ (t : (j ≡ k) × (number w < s)). inr (t.0, omega arith)) (before_true k s j (number w) e.1)))

      same : (j : ℕ) (w : List Bool) → Point ks j w → j ≡ k → number w ≡ s → w ≡ v
      same j w q e f = number-apart w v (q.1 ∙ ap (reports_before ks) e ∙ sym o.1) (f ∙ sym n)

      at_position : (j : ℕ) (w : List Bool) → Point ks j w → j ≡ k → (number w < s) ⊎ (number w ≡ s) → Earlier k s j w ⊎ ((j ≡ k) × (w ≡ v))
      at_position j w q e c = ⊎_elim (λ (l : number w < s). inl (q, before_less k s j (number w) (inr (e, l)))) (λ (f : number w ≡ s). inr (e, same j w q e f)) c

      from : (j : ℕ) (w : List Bool) → Earlier k (s + 1) j w → Earlier k s j w ⊎ ((j ≡ k) × (w ≡ v))
      from j w e = ⊎_elim (λ (l : j < k). inl (e.0, before_less k s j (number w) (inl l))) (λ (t : (j ≡ k) × (number w < s + 1)). at_position j w e.0 t.0 (⊎_elim (λ (l : number w < s). inl l) (λ (l : s ≤ number w). inr (omega arith)) (cases_lt (number w) s))) (before_true k (s + 1) j (number w) e.1)

  -- All points of a position.
  pub position_listed : (k : ℕ) (cs : List Choice) → ListsTo ks p k (points_at ks k) cs → ListsTo ks p (k + 1) 0 cs
  position_listed k cs h = lists_same (Earlier k (points_at ks k)) (choice_of p) ListedBefore (Earlier (k + 1) 0) cs to from h
    where
      to : (j : ℕ) (w : List Bool) → Earlier k (points_at ks k) j w → Earlier (k + 1) 0 j w
      to j w e = (e.0, before_less (k + 1) 0 j (number w) (⊎_elim (λ (l : j < k). inl (omega arith)) (λ (t : (j ≡ k) × (number w < points_at ks k)). inl (omega arith)) (before_true k (points_at ks k) j (number w) e.1)))

      within : (j : ℕ) (w : List Bool) → Point ks j w → (j < k) ⊎ (j ≡ k) → Earlier k (points_at ks k) j w
      within j w q c = (q, before_less k (points_at ks k) j (number w) (⊎_elim (λ (l : j < k). inl l) (λ (e : j ≡ k). inr (e, number_within ks k j w q e)) c))

      not_past : (j : ℕ) (w : List Bool) → Earlier (k + 1) 0 j w → j < k + 1
      not_past j w e = ⊎_elim (λ (l : j < k + 1). l) (λ (t : (j ≡ k + 1) × (number w < 0)). absurd (omega arith)) (before_true (k + 1) 0 j (number w) e.1)

      from : (j : ℕ) (w : List Bool) → Earlier (k + 1) 0 j w → Earlier k (points_at ks k) j w
      from j w e = within j w e.0 (⊎_elim (λ (l : j < k). inl l) (λ (l : k ≤ j). inr (omega (arith, not_past j w e))) (cases_lt j k))

  -- All positions.
  pub all_listed : (cs : List Choice) → ListsTo ks p (length ks + 1) 0 cs → Lists (Point ks) (choice_of p) ListedBefore cs
  all_listed cs h = lists_same (Earlier (length ks + 1) 0) (choice_of p) ListedBefore (Point ks) cs (λ j w e. e.0) (λ j w q. (q, before_less (length ks + 1) 0 j (number w) (inl (omega (arith, reply_within ks j q.0))))) h

-- The choice that is made of a question's answer.
pub choice_pushed : (q p : Prefix) (h : Guards) (k s m : ℕ) (x : Bool) (cs ds : List Choice) → q ≡ p → is_reply (kinds p) k ≡ true → SettingMask p k s m → x ≡ answer q h On k m
    → ds ≡ cs ++ record { position = k; setting = s; value = x } ∷ [] → ListsTo (kinds p) (h On) k s cs → ListsTo (kinds p) (h On) k (s + 1) ds
choice_pushed q p h k s m x cs ds e reply setting answers all listed =
    let v = setting_before p k m in
    let n : number v ≡ s = setting.setting in
    let value : h On k v ≡ x = sym (answers ∙ answer_at q p h On k m e reply) in
    let same : choice_of (h On) k v ≡ record { position = k; setting = s; value = x } = λ i. record { position = k; setting = n i; value = value i } in
    subst (ListsTo (kinds p) (h On) k (s + 1)) (ap (λ (c : Choice). cs ++ c ∷ []) same ∙ sym all) (choice_listed (kinds p) (h On) k s v cs (point_of p k m reply) n listed)
