-- Verdicts on a book: when it is accepted, and that there is only one.
use Rattle.std.proofs.Common.{◌≡◌, ◌≢◌, ℕ, suc, ◌+◌, ◌^◌, ◌<◌, ◌≤◌, Bool, true, false, not, List, length, take, sym, refl, ap, ◌∙◌, subst, ⊎_elim, arith}
use Rattle.std.proofs.lemmas.Bool.{true≢false, cases_lt, cases_order}
use Rattle.std.proofs.lemmas.List.{length-take-le}
use Rattle.prefix.specs.Kinds.{kind_at, some_reply, report_count, reports_before}
use Rattle.prefix.specs.Points.{Point}
use Rattle.prefix.specs.Settings.{Setting, number}
use Rattle.prefix.specs.declared.kind.Kind.{Kind}
use Rattle.prefix.proofs.Lines.{line_alike}
use Rattle.prefix.proofs.Positions.{before_le}
use Rattle.prefix.proofs.Replies.{reply_kind}
use Rattle.prefix.proofs.Settings.{number-below, number-apart}
use Rattle.book.specs.Guards.{Guards}
use Rattle.book.specs.declared.side.Side.TheVariants.{On}
use Rattle.play.specs.Checking.{MeansWinning, front, OneYes, BothAre, FirstBoth, LineIs, NoFault, FaultOn, FirstFault, Judged, OneVerdict, Concludes}
use Rattle.play.specs.Filling.{first_setting}
use Rattle.play.specs.Verdicts.{verdict_number}
use Rattle.play.specs.declared.verdict.Verdict.{Verdict}
use Rattle.play.specs.declared.verdict.Verdict.TheVariants.{Accepted, Silent, Torn, Broken}
use Rattle.play.proofs.Numbers.{first_has}

not_itself : (b : Bool) → b ≢ not b
not_itself true e = true≢false e
not_itself false e = true≢false (sym e)

-- A verdict is accepted, or a fault.
is_accepted : (v : Verdict) → verdict_number v ≡ 0 → v ≡ Accepted
is_accepted Accepted e = refl
is_accepted (Silent k n) e = absurd (omega arith)
is_accepted (Torn k n) e = absurd (omega arith)
is_accepted (Broken n) e = absurd (omega arith)

module _ (kept : List Bool → Bool) (g : Guards) (ks : List Kind) where
  both_not_one : (x : Bool) (k : ℕ) (v : List Bool) → BothAre x g k v → OneYes g k v → ⊥
  both_not_one x k v both one = not_itself x (sym both.1 ∙ one ∙ ap not both.0)

  -- What comes first on one setting is one.
  module _ (s : List Bool) where
    no_earlier : (x y : Bool) (k l : ℕ) → FirstBoth x g ks s k → FirstBoth y g ks s l → k < l → ⊥
    no_earlier x y k l f h lt = both_not_one x k (front ks k s) f.both (h.before k lt f.reply)

    same_position : (x y : Bool) (k l : ℕ) → FirstBoth x g ks s k → FirstBoth y g ks s l → k ≡ l
    same_position x y k l f h =
        ⊎_elim (λ e. e) (⊎_elim (λ lt. absurd (no_earlier x y k l f h lt)) (λ lt. absurd (no_earlier y x l k h f lt))) (cases_order k l)

    same_side : (x y : Bool) (k l : ℕ) → FirstBoth x g ks s k → FirstBoth y g ks s l → x ≡ y
    same_side x y k l f h = sym f.both.0 ∙ ap (λ (i : ℕ). g On i (front ks i s)) (same_position x y k l f h) ∙ h.both.0

    not_line : (x y : Bool) (k : ℕ) → FirstBoth x g ks s k → LineIs y kept g ks s → ⊥
    not_line x y k f h = both_not_one x k (front ks k s) f.both (h.each k f.reply)

    one_fault_on : (v w : Verdict) → FaultOn kept g ks s v → FaultOn kept g ks s w → v ≡ w
    one_fault_on Accepted w f h = absurd f
    one_fault_on (Silent k n) Accepted f h = absurd h
    one_fault_on (Silent k n) (Silent l m) f h = ap (λ (i : ℕ). Silent i n) (same_position false false k l f.1 h.1) ∙ ap (Silent l) (sym f.0 ∙ h.0)
    one_fault_on (Silent k n) (Torn l m) f h = absurd (true≢false (same_side true false l k h.1 f.1))
    one_fault_on (Silent k n) (Broken m) f h = absurd (not_line false false k f.1 h.1)
    one_fault_on (Torn k n) Accepted f h = absurd h
    one_fault_on (Torn k n) (Silent l m) f h = absurd (true≢false (same_side true false k l f.1 h.1))
    one_fault_on (Torn k n) (Torn l m) f h = ap (λ (i : ℕ). Torn i n) (same_position true true k l f.1 h.1) ∙ ap (Torn l) (sym f.0 ∙ h.0)
    one_fault_on (Torn k n) (Broken m) f h = absurd (not_line true false k f.1 h.1)
    one_fault_on (Broken n) Accepted f h = absurd h
    one_fault_on (Broken n) (Silent l m) f h = absurd (not_line false false l h.1 f.1)
    one_fault_on (Broken n) (Torn l m) f h = absurd (not_line true false l h.1 f.1)
    one_fault_on (Broken n) (Broken m) f h = ap Broken (sym f.0 ∙ h.0)

    some_fault : (v : Verdict) → FaultOn kept g ks s v → NoFault kept g ks s → ⊥
    some_fault Accepted f h = f
    some_fault (Silent k n) f h = not_line false true k f.1 h
    some_fault (Torn k n) f h = not_line true true k f.1 h
    some_fault (Broken n) f h = true≢false (sym h.line_is ∙ f.1.line_is)

  -- A book that means a policy that wins has no fault on any setting,
  pub accepts_whole : MeansWinning kept g ks → (s : List Bool) → Setting ks s → NoFault kept g ks s
  accepts_whole a s e =
      let long : (k : ℕ) → length (front ks k s) ≡ reports_before ks k = λ k. length-take-le (reports_before ks k) s (omega (arith, before_le ks k, e)) in
      record {
        each = λ k r. let o : Point ks k (front ks k s) = (reply_kind (kind_at ks k) r, long k) in a.means.off k (front ks k s) o ∙ ap not (sym (a.means.on k (front ks k s) o));
        line_is = ap kept (line_alike ks (g On) a.policy (λ i v o. a.means.on (suc i) v o) s) ∙ a.wins s e;
      }

  -- and a book without one means such a policy.
  pub whole_accepts : ((s : List Bool) → Setting ks s → NoFault kept g ks s) → MeansWinning kept g ks
  whole_accepts whole = record {
    policy = g On;
    means = record {
      on = λ k v o. refl;
      off = λ k v o.
          let has = (first_has ks).has k v o in
          let same : front ks k (first_setting ks k v) ≡ v = ap (λ (i : ℕ). take i (first_setting ks k v)) (sym o.1) ∙ has.1 in
          subst (OneYes g k) same ((whole (first_setting ks k v) has.0).each k (ap some_reply o.0));
    };
    wins = λ s e. (whole s e).line_is;
  }

  fault_not_accepts : (v : Verdict) → FirstFault kept g ks v → MeansWinning kept g ks → ⊥
  fault_not_accepts v f a = some_fault f.setting v f.fault (accepts_whole a f.setting f.is_setting)

  later_fault : (v w : Verdict) (f : FirstFault kept g ks v) (h : FirstFault kept g ks w) → number f.setting < number h.setting → ⊥
  later_fault v w f h lt = some_fault f.setting v f.fault (h.earlier f.setting f.is_setting lt)

  one_fault : (v w : Verdict) → FirstFault kept g ks v → FirstFault kept g ks w → v ≡ w
  one_fault v w f h =
      ⊎_elim
      (λ e.
      let same : f.setting ≡ h.setting = number-apart f.setting h.setting (f.is_setting ∙ sym h.is_setting) e in
      one_fault_on h.setting v w (subst (λ s. FaultOn kept g ks s v) same f.fault) h.fault)
      (⊎_elim (λ lt. absurd (later_fault v w f h lt)) (λ lt. absurd (later_fault w v h f lt))) (cases_order (number f.setting) (number h.setting))

  fault_of : (v : Verdict) → 1 ≤ verdict_number v → Judged kept g ks v → FirstFault kept g ks v
  fault_of Accepted some j = absurd (omega arith)
  fault_of (Silent k n) some j = j
  fault_of (Torn k n) some j = j
  fault_of (Broken n) some j = j

  judged_fault : (v : Verdict) → FirstFault kept g ks v → Judged kept g ks v
  judged_fault Accepted f = absurd f.fault
  judged_fault (Silent k n) f = f
  judged_fault (Torn k n) f = f
  judged_fault (Broken n) f = f

  fault_numbered : (v : Verdict) → FirstFault kept g ks v → 1 ≤ verdict_number v
  fault_numbered Accepted f = absurd f.fault
  fault_numbered (Silent k n) f = omega arith
  fault_numbered (Torn k n) f = omega arith
  fault_numbered (Broken n) f = omega arith

  judged_accepts : (v : Verdict) → verdict_number v ≡ 0 → Judged kept g ks v → MeansWinning kept g ks
  judged_accepts v none j = subst (Judged kept g ks) (is_accepted v none) j

  pub one_verdict : OneVerdict kept g ks
  one_verdict v w a b =
      ⊎_elim
      (λ some. ⊎_elim
      (λ more. one_fault v w (fault_of v some a) (fault_of w more b))
      (λ none. absurd (fault_not_accepts v (fault_of v some a) (judged_accepts w (omega arith) b)))
      (cases_lt 0 (verdict_number w)))
      (λ none. ⊎_elim
      (λ some. absurd (fault_not_accepts w (fault_of w some b) (judged_accepts v (omega arith) a)))
      (λ nothing. is_accepted v (omega arith) ∙ sym (is_accepted w (omega arith)))
      (cases_lt 0 (verdict_number w)))
      (cases_lt 0 (verdict_number v))

  -- No setting of a number below n has a fault.
  abbrev pub NoneBelow : ℕ → Type 0
  NoneBelow n = (s : List Bool) → Setting ks s → number s < n → NoFault kept g ks s

  pub none_below_first : NoneBelow 0
  none_below_first s e h = absurd (omega arith)

  -- Whole settings of one number are one.
  pub none_below_next : (s : List Bool) → Setting ks s → NoFault kept g ks s → NoneBelow (number s) → NoneBelow (number s + 1)
  none_below_next s e here f t l h =
      ⊎_elim (λ lt. f t l lt) (λ ge. subst (NoFault kept g ks) (number-apart s t (e ∙ sym l) (omega arith)) here) (cases_lt (number t) (number s))

  -- Past the last setting the book is accepted.
  pub concludes_accepted : (tried : ℕ) → 1 ≤ tried → tried ≤ 2 ^ report_count ks → NoneBelow (2 ^ report_count ks) → Concludes kept g ks (record { verdict = Accepted; tried = tried })
  concludes_accepted tried some few f =
      let a = whole_accepts (λ s e. f s e (subst (λ (i : ℕ). number s < 2 ^ i) e (number-below s))) in
      record { judged = a; accepted = (λ _. a, λ _. refl); tried = (some, few) }

  -- At a fault it is not.
  pub concludes_fault : (v : Verdict) (tried : ℕ) (s : List Bool) → 1 ≤ tried → tried ≤ 2 ^ report_count ks → Setting ks s → NoneBelow (number s) → FaultOn kept g ks s v
      → Concludes kept g ks (record { verdict = v; tried = tried })
  concludes_fault v tried s some few e f at =
      let first : FirstFault kept g ks v = record { setting = s; is_setting = e; earlier = f; fault = at } in
      record {
        judged = judged_fault v first;
        accepted = (λ none. absurd (omega (arith, fault_numbered v first)), λ a. absurd (fault_not_accepts v first a));
        tried = (some, few);
      }
