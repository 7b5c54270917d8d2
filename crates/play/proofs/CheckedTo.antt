-- A setting checked one position further.
use Rattle.std.proofs.Common.{◌≡◌, ℕ, ◌+◌, ◌-◌, ◌≤◌, min, Bool, true, false, not, List, take, sym, ap, ◌∙◌, subst, ⊎_elim, arith}
use Rattle.std.proofs.Math.Bool.{not-not}
use Rattle.std.proofs.lemmas.Bool.{true≢false, false≢true, cases_lt}
use Rattle.std.proofs.lemmas.List.{take_all, take_at}
use Rattle.prefix.specs.Bits.{bits, Changed}
use Rattle.prefix.specs.Kinds.{kind_at, is_reply, reports_before}
use Rattle.prefix.specs.Lines.{setting_before}
use Rattle.prefix.specs.Policies.{line}
use Rattle.prefix.specs.Prefixes.{kinds}
use Rattle.prefix.specs.Settings.{Setting, number}
use Rattle.prefix.specs.declared.prefix.Prefix.{Prefix}
use Rattle.prefix.proofs.Before.{setting_length}
use Rattle.prefix.proofs.Masks.{length-bits}
use Rattle.prefix.proofs.Positions.{length-kinds}
use Rattle.prefix.proofs.Replies.{reply_kind, reply_within}
use Rattle.sheet.specs.Meaning.{Sound}
use Rattle.book.specs.Guards.{Guards}
use Rattle.book.specs.declared.side.Side.TheVariants.{On}
use Rattle.play.specs.Checking.{front, OneYes, OneYesBefore, BothAre, FirstBoth, LineIs, FaultOn}
use Rattle.play.specs.CheckSteps.{setting_of, CheckedTo, BothSay}
use Rattle.play.specs.LineTo.{LineTo}
use Rattle.play.specs.declared.verdict.Verdict.{Verdict}
use Rattle.play.specs.declared.verdict.Verdict.TheVariants.{Accepted, Silent, Torn, Broken}
use Rattle.play.proofs.LineTo.{report_else, line_first, setting_same, line_past_report, line_past_reply}
use Rattle.play.proofs.Numbers.{later, whole_is, length-whole}

module _ (g : Guards) (q : Prefix) (a : ℕ) where
  pub whole_setting : Setting (kinds q) (setting_of q a)
  whole_setting = length-whole q (q.length + 1) a (omega arith)

  -- The point at a position is the front of the whole setting.
  point_at : (j m : ℕ) → j ≤ q.length → LineTo q (g On) a j m → front (kinds q) j (setting_of q a) ≡ setting_before q j m
  point_at j m h f =
      let inside : j ≤ q.length + 1 = omega arith in
      ap (take (reports_before (kinds q) j)) (whole_is q j a inside)
      ∙ take_at (setting_before q j a) (later q j a inside) (reports_before (kinds q) j) (setting_length q j a)
      ∙ sym (setting_same q (g On) a j m f)

  one_more : (j : ℕ) → OneYesBefore g (kinds q) (setting_of q a) j → (is_reply (kinds q) j ≡ true → OneYes g j (front (kinds q) j (setting_of q a))) → OneYesBefore g (kinds q) (setting_of q a) (j + 1)
  one_more j f here i h r =
      ⊎_elim (λ lt. f i lt r) (λ ge. let e : j ≡ i = omega arith in
      subst (λ (k : ℕ). OneYes g k (front (kinds q) k (setting_of q a))) e (here (subst (λ (k : ℕ). is_reply (kinds q) k ≡ true) (sym e) r))) (cases_lt i j)

  pub checked_first : CheckedTo g q a 1 a
  checked_first = record {
    one_yes = λ j h r. let e : j ≡ 0 = omega arith in absurd (false≢true (ap (is_reply (kinds q)) (sym e) ∙ r));
    line = line_first q (g On) a;
  }

  pub checked_past_report : (j m : ℕ) → 1 ≤ j → j ≤ q.length → is_reply (kinds q) j ≡ false → CheckedTo g q a j m → CheckedTo g q a (j + 1) m
  checked_past_report j m some within none f = record {
    one_yes = one_more j f.one_yes (λ r. absurd (true≢false (sym r ∙ none)));
    line = line_past_report q (g On) a j m some (report_else q j some within none) f.line;
  }

  pub checked_past_reply : (j m m' : ℕ) (x : Bool) → j ≤ q.length → is_reply (kinds q) j ≡ true → Changed m j x m' → x ≡ g On j (setting_before q j m) → OneYes g j (setting_before q j m)
      → CheckedTo g q a j m → CheckedTo g q a (j + 1) m'
  checked_past_reply j m m' x within r c e one f = record {
    one_yes = one_more j f.one_yes (λ _. subst (OneYes g j) (sym (point_at j m within f.line)) one);
    line = line_past_reply q (g On) a j m m' x within r c e f.line;
  }

  -- Where a reply has both guards the same, that is what the setting comes to.
  both_first : (x : Bool) (j m : ℕ) → j ≤ q.length → is_reply (kinds q) j ≡ true → BothAre x g j (setting_before q j m) → CheckedTo g q a j m → FirstBoth x g (kinds q) (setting_of q a) j
  both_first x j m within r both f = record {
    reply = r;
    both = subst (BothAre x g j) (sym (point_at j m within f.line)) both;
    before = f.one_yes;
  }

  pub stopped : (kept : List Bool → Bool) (v : Verdict) (n j m : ℕ) → number (setting_of q a) ≡ n → j ≤ q.length → is_reply (kinds q) j ≡ true → CheckedTo g q a j m → BothSay g j (setting_before q j m) n v
      → FaultOn kept g (kinds q) (setting_of q a) v
  stopped kept Accepted n j m e within r f h = absurd h
  stopped kept (Broken s) n j m e within r f h = absurd h
  stopped kept (Silent k s) n j m e within r f h = (e ∙ sym h.1, subst (FirstBoth false g (kinds q) (setting_of q a)) (sym h.0) (both_first false j m within r h.2 f))
  stopped kept (Torn k s) n j m e within r f h = (e ∙ sym h.1, subst (FirstBoth true g (kinds q) (setting_of q a)) (sym h.0) (both_first true j m within r h.2 f))

  -- Past the last position the line is that of the on-guards.
  whole_line : (m : ℕ) → CheckedTo g q a (q.length + 1) m → bits q.length m ≡ line (kinds q) (g On) (setting_of q a)
  whole_line m f =
      let all : q.length + 1 - 1 ≡ q.length = omega arith in
      ap (λ (d : ℕ). bits d m) (sym all) ∙ f.line.replies
      ∙ ap (λ l. line l (g On) (setting_before q (q.length + 1) m)) (take_all (q.length + 1 - 1) (kinds q) (omega (arith, length-kinds q.length q.reports)))
      ∙ ap (line (kinds q) (g On)) (setting_same q (g On) a (q.length + 1) m f.line)

  -- The sheet p is asked for the values of the first l.
  pub ended : (kept broken : List Bool → Bool) (p : Prefix) (l m : ℕ) (x : Bool) → p ≡ q → l ≡ q.length → Sound p.length kept broken → x ≡ broken (bits (min l p.length) m) → CheckedTo g q a (q.length + 1) m
      → LineIs (not x) kept g (kinds q) (setting_of q a)
  ended kept broken p l m x same long sound e f =
      let sizes : p.length ≡ q.length = ap (λ (r : Prefix). r.length) same in
      let all : min l p.length ≡ q.length = omega arith in
      let asked : x ≡ broken (bits q.length m) = e ∙ ap (λ (d : ℕ). broken (bits d m)) all in
      let said : broken (bits q.length m) ≡ not (kept (bits q.length m)) = sound.whole (bits q.length m) (length-bits q.length m ∙ sym sizes) in
      record {
        each = λ k r. f.one_yes k (omega (arith, reply_within (kinds q) k (reply_kind (kind_at (kinds q) k) r), length-kinds q.length q.reports)) r;
        line_is = ap kept (sym (whole_line m f)) ∙ sym (not-not (kept (bits q.length m))) ∙ ap not (sym (asked ∙ said));
      }
