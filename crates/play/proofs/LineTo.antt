-- The line of a setting, with the replies of a policy so far, one position further.
use Rattle.std.proofs.Common.{◌≡◌, ℕ, zero, suc, ◌+◌, ◌-◌, ◌<◌, ◌≤◌, min, ◌≢◌, Bool, true, false, ◌&&◌, List, [], ◌∷◌, ◌++◌, length, take, drop, Some, None, Option, Decides, sym, refl, ap, ◌∙◌, subst, arith}
use Rattle.std.proofs.lemmas.Bool.{true≢false, false≢true}
use Rattle.std.proofs.lemmas.Bool.Decides.{same_from_decides}
use Rattle.prefix.specs.Bits.{bit, bits, mask_value, Changed}
use Rattle.prefix.specs.Kinds.{kind_at, some_report, some_reply, is_report, is_reply, report_values}
use Rattle.prefix.specs.Lines.{setting_before, SettingMask}
use Rattle.prefix.specs.Points.{Point}
use Rattle.prefix.specs.Policies.{Policy, line, Winnable}
use Rattle.prefix.specs.Prefixes.{kind_of, kinds}
use Rattle.prefix.specs.declared.kind.Kind.{Kind}
use Rattle.prefix.specs.declared.kind.Kind.TheVariants.{Report, Reply}
use Rattle.prefix.specs.declared.prefix.Prefix.{Prefix}
use Rattle.prefix.proofs.Before.{setting_length, report_values_push, report_values_same}
use Rattle.prefix.proofs.Masks.{bits_push, bits_same, changed_here}
use Rattle.prefix.proofs.Positions.{kind-inside, length-kinds}
use Rattle.prefix.proofs.Replies.{reply_kind, reply_within, point_of}
use Rattle.book.specs.Guards.{Guards, answer}
use Rattle.book.specs.declared.side.Side.TheVariants.{On}
use Rattle.play.specs.Filling.{first_number}
use Rattle.play.specs.Searching.{OnWhereItCanWin}
use Rattle.play.specs.Steps.{GuardsTo}
use Rattle.play.specs.LineTo.{LineTo}
use Rattle.play.proofs.Lines.{line_report, line_reply}
use Rattle.play.proofs.MetPoints.{met_earlier}
use Rattle.play.proofs.Numbers.{first_at_most, first_only}

report_kind : (o : Option Kind) → some_report o ≡ true → o ≡ Some Report
report_kind None e = absurd (true≢false (sym e))
report_kind (Some Reply) e = absurd (true≢false (sym e))
report_kind (Some Report) e = refl

no_reply : (o : Option Kind) → some_reply o ≡ true → some_report o ≡ false
no_reply None e = refl
no_reply (Some Reply) e = refl
no_reply (Some Report) e = absurd (true≢false (sym e))

other_kind : (k : Kind) → some_reply (Some k) ≡ false → some_report (Some k) ≡ true
other_kind Report e = refl
other_kind Reply e = absurd (true≢false e)

-- A position without a reply has a report.
pub report_else : (q : Prefix) (j : ℕ) → 1 ≤ j → j ≤ q.length → is_reply (kinds q) j ≡ false → is_report (kinds q) j ≡ true
report_else q zero h l e = absurd (omega arith)
report_else q (suc i) h l e =
    let k = kind-inside q.length q.reports i (omega arith) in
    ap some_report k ∙ other_kind (kind_of (bit q.reports i)) (sym (ap some_reply k) ∙ e)

-- Masks with the same reports give the same settings.
same_values : (ks : List Kind) (m a : ℕ) → ((i : ℕ) → is_report ks i ≡ true → mask_value m i ≡ mask_value a i) → (d : ℕ) → report_values ks (bits d m) ≡ report_values ks (bits d a)
same_values ks m a h zero = refl
same_values ks m a h (suc i) = go (is_report ks (suc i)) refl (same_values ks m a h i)
  where
    go : (b : Bool) → is_report ks (suc i) ≡ b → report_values ks (bits i m) ≡ report_values ks (bits i a) → report_values ks (bits (suc i) m) ≡ report_values ks (bits (suc i) a)
    go true e f =
        report_values_push ks i m e ∙ ap (λ t. t ++ bit m i ∷ []) f ∙ ap (λ (x : Bool). report_values ks (bits i a) ++ x ∷ []) (h (suc i) e)
        ∙ sym (report_values_push ks i a e)
    go false e f = report_values_same ks i m e ∙ f ∙ sym (report_values_same ks i a e)

module _ (q : Prefix) (p : Policy) (a : ℕ) where
  pub line_first : LineTo q p a 1 a
  line_first = record { reports = λ i r. refl; replies = refl }

  pub setting_same : (j m : ℕ) → LineTo q p a j m → setting_before q j m ≡ setting_before q j a
  setting_same j m f = same_values (kinds q) m a f.reports (j - 1)

  pub line_past_report : (j m : ℕ) → 1 ≤ j → is_report (kinds q) j ≡ true → LineTo q p a j m → LineTo q p a (j + 1) m
  line_past_report zero m h r f = absurd (omega arith)
  line_past_report (suc i) m h r f =
      let ks = kinds q in
      let here : suc i - 1 ≡ i = omega arith in
      let next : suc i + 1 - 1 ≡ suc i = omega arith in
      let before : bits i m ≡ line (take i ks) p (report_values ks (bits i m)) = subst (λ (d : ℕ). bits d m ≡ line (take d ks) p (report_values ks (bits d m))) here f.replies in
      let long : length (report_values ks (bits i m)) ≡ _ = ap (λ (d : ℕ). length (report_values ks (bits d m))) (sym here) ∙ setting_length q (suc i) m in
      record {
        reports = f.reports;
        replies = subst (λ (d : ℕ). bits d m ≡ line (take d ks) p (report_values ks (bits d m))) (sym next)
            (bits_push i m ∙ ap (λ t. t ++ bit m i ∷ []) before ∙ sym (line_report ks p i (report_values ks (bits i m)) (bit m i) (report_kind (kind_at ks (suc i)) r) long)
            ∙ ap (line (take (suc i) ks) p) (sym (report_values_push ks i m r)));
      }

  pub line_past_reply : (j m m' : ℕ) (x : Bool) → j ≤ q.length → is_reply (kinds q) j ≡ true → Changed m j x m' → x ≡ p j (setting_before q j m) → LineTo q p a j m → LineTo q p a (j + 1) m'
  line_past_reply zero m m' x h r c e f = absurd (false≢true r)
  line_past_reply (suc i) m m' x h r c e f =
      let ks = kinds q in
      let here : suc i - 1 ≡ i = omega arith in
      let next : suc i + 1 - 1 ≡ suc i = omega arith in
      let no : is_report ks (suc i) ≡ false = no_reply (kind_at ks (suc i)) r in
      let front : bits i m' ≡ bits i m = bits_same i m' m (λ k l. c.elsewhere (suc k) (λ n. absurd (omega arith))) in
      let before : bits i m ≡ line (take i ks) p (report_values ks (bits i m)) = subst (λ (d : ℕ). bits d m ≡ line (take d ks) p (report_values ks (bits d m))) here f.replies in
      let long : length (report_values ks (bits i m)) ≡ _ = ap (λ (d : ℕ). length (report_values ks (bits d m))) (sym here) ∙ setting_length q (suc i) m in
      let value : bit m' i ≡ p (suc i) (report_values ks (bits i m)) = changed_here m (suc i) i m' x c refl (let few = q.ok.1 in omega arith) ∙ e ∙ ap (λ (d : ℕ). p (suc i) (report_values ks (bits d m))) here in
      record {
        reports = λ k t. c.elsewhere k (λ n. true≢false (sym t ∙ ap (is_report ks) n ∙ no)) ∙ f.reports k t;
        replies = subst (λ (d : ℕ). bits d m' ≡ line (take d ks) p (report_values ks (bits d m'))) (sym next)
            (bits_push i m' ∙ ap (λ t. t ++ bit m' i ∷ []) (front ∙ before) ∙ ap (λ (y : Bool). line (take i ks) p (report_values ks (bits i m)) ++ y ∷ []) value
            ∙ sym (line_reply ks p i (report_values ks (bits i m)) (reply_kind (kind_at ks (suc i)) r) long)
            ∙ ap (line (take (suc i) ks) p) (sym (report_values_same ks i m' no ∙ ap (report_values ks) front)));
      }

-- The part line before a reply, and then on.
pub with_on : (q : Prefix) (j m m' : ℕ) → is_reply (kinds q) j ≡ true → Changed m j true m' → bits (min j q.length) m' ≡ bits (j - 1) m ++ true ∷ []
with_on q zero m m' r c = absurd (false≢true r)
with_on q (suc i) m m' r c =
    let few = q.ok.1 in
    let within : suc i ≤ q.length = omega (arith, reply_within (kinds q) (suc i) (reply_kind (kind_at (kinds q) (suc i)) r), length-kinds q.length q.reports) in
    let all : min (suc i) q.length ≡ suc i = omega arith in
    let here : i ≡ suc i - 1 = omega arith in
    ap (λ (d : ℕ). bits d m') all ∙ bits_push i m' ∙ ap (λ t. t ++ bit m' i ∷ []) (bits_same i m' m (λ k l. c.elsewhere (suc k) (λ n. absurd (omega arith))))
    ∙ ap (λ (x : Bool). bits i m ++ x ∷ []) (changed_here m (suc i) i m' true c refl (omega arith)) ∙ ap (λ (d : ℕ). bits d m ++ true ∷ []) here

-- What a policy that is on exactly where on can win says at the point of a reply.
module _ (kept : List Bool → Bool) (q : Prefix) (p : Policy) (on_where : OnWhereItCanWin kept (kinds q) p) (s a j m : ℕ) (within : j ≤ q.length) (reply : is_reply (kinds q) j ≡ true)
    (setting : SettingMask q (q.length + 1) s a) (so_far : LineTo q p a j m) where
  -- Where the point is new, by whether some policy wins from there with on.
  pub value_new : (x : Bool) → Decides x (Winnable kept (drop j (kinds q)) (bits (j - 1) m ++ true ∷ [])) → x ≡ p j (setting_before q j m)
  value_new x d =
      same_from_decides x (p j (setting_before q j m))
      (subst (λ u. Decides x (Winnable kept (drop j (kinds q)) (u ++ true ∷ []))) so_far.replies d)
      (on_where j (setting_before q j m) (point_of q j m reply))

  -- Where it is not, by its guard.
  pub value_old : (g : Guards) → first_number (kinds q) j (setting_before q j m) ≢ s → GuardsTo (kinds q) p s j g → answer q g On j m ≡ p j (setting_before q j m)
  value_old g old f =
      let v = setting_before q j m in
      let same = setting_same q p a j m so_far in
      let early : first_number (kinds q) j v < s = omega (arith, first_at_most q j s a within setting, ap (first_number (kinds q) j) same, old) in
      ap (λ (b : Bool). b && g On j v) reply ∙ f On j v (point_of q j m reply) ∙ ap (λ (b : Bool). b && p j v) (met_earlier (kinds q) j v s j early)

  -- No other point of the position is new.
  pub only_here : (w : List Bool) → Point (kinds q) j w → first_number (kinds q) j w ≡ s → w ≡ setting_before q j m
  only_here w o e = first_only q j s a within setting w o e ∙ sym (setting_same q p a j m so_far)
