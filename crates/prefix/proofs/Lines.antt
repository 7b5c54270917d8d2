-- A policy's line on a setting: that it is the only one of its make, and when two are the same.
use Rattle.std.proofs.Common.{◌≡◌, ℕ, zero, suc, Bool, false, List, [], ◌∷◌, length, get_or, take, Some, None, Option, refl, ap, ◌∙◌, arith}
use Rattle.prefix.specs.Kinds.{kind_at, report_values}
use Rattle.prefix.specs.Points.{Point}
use Rattle.prefix.specs.Settings.{Setting}
use Rattle.prefix.specs.Policies.{Policy, after_reply, after_report, line, Plays, OneLine}
use Rattle.prefix.specs.declared.kind.Kind.{Kind}
use Rattle.prefix.specs.declared.kind.Kind.TheVariants.{Report, Reply}

-- A report is no reply, and no position is none.
pub report_not_reply : {A : Type 0} → Some Report ≡ Some Reply → A
report_not_reply e = let z : ◌≡◌ {A = ℕ} 0 1 = cc in absurd (omega arith)

pub none_not_reply : {A : Type 0} → ◌≡◌ {A = Option Kind} None (Some Reply) → A
none_not_reply e = let z : ◌≡◌ {A = ℕ} 0 1 = cc in absurd (omega arith)

pub length-line : (ks : List Kind) (p : Policy) (s : List Bool) → Setting ks s → length (line ks p s) ≡ length ks
length-line [] p s e = refl
length-line (Reply ∷ ks) p s e = ap suc (length-line ks (after_reply p) s e)
length-line (Report ∷ ks) p [] e = absurd (omega arith)
length-line (Report ∷ ks) p (x ∷ s) e = ap suc (length-line ks (after_report x p) s (omega arith))

pub reports-line : (ks : List Kind) (p : Policy) (s : List Bool) → Setting ks s → report_values ks (line ks p s) ≡ s
reports-line [] p [] e = refl
reports-line [] p (x ∷ s) e = absurd (omega arith)
reports-line (Reply ∷ ks) p s e = reports-line ks (after_reply p) s e
reports-line (Report ∷ ks) p [] e = absurd (omega arith)
reports-line (Report ∷ ks) p (x ∷ s) e = ap (λ t. x ∷ t) (reports-line ks (after_report x p) s (omega arith))

replies-line : (ks : List Kind) (p : Policy) (s : List Bool) → Setting ks s → (i : ℕ) → kind_at ks (suc i) ≡ Some Reply
    → get_or (line ks p s) i false ≡ p (suc i) (report_values ks (take i (line ks p s)))
replies-line [] p s e i r = none_not_reply r
replies-line (Reply ∷ ks) p s e zero r = refl
replies-line (Reply ∷ ks) p s e (suc i) r = replies-line ks (after_reply p) s e i r
replies-line (Report ∷ ks) p [] e i r = absurd (omega arith)
replies-line (Report ∷ ks) p (x ∷ s) e zero r = report_not_reply r
replies-line (Report ∷ ks) p (x ∷ s) e (suc i) r = replies-line ks (after_report x p) s (omega arith) i r

-- The rest of a line that plays a policy plays the rest of the policy.
only-line : (ks : List Kind) (p : Policy) (s w : List Bool) → Plays ks p s w → w ≡ line ks p s
only-line [] p s [] h = refl
only-line [] p s (y ∷ w) h = let l = h.whole in absurd (omega arith)
only-line (q ∷ ks) p s [] h = let l = h.whole in absurd (omega arith)
only-line (Reply ∷ ks) p s (y ∷ w) h =
    let l = h.whole in
    let rest = only-line ks (after_reply p) s w (record { whole = omega arith; reports = h.reports; replies = λ i r. h.replies (suc i) r }) in
    ap (λ (z : Bool). z ∷ w) (h.replies zero refl) ∙ ap (λ t. p 1 [] ∷ t) rest
only-line (Report ∷ ks) p [] (y ∷ w) h = let e : ◌≡◌ {A = ℕ} 0 1 = cc h.reports in absurd (omega arith)
only-line (Report ∷ ks) p (x ∷ s) (y ∷ w) h =
    let l = h.whole in
    let same : y ≡ x = cc h.reports in
    let rest : report_values ks w ≡ s = cc h.reports in
    let more = only-line ks (after_report x p) s w (record {
      whole = omega arith;
      reports = rest;
      replies = λ i r. h.replies (suc i) r ∙ ap (λ (z : Bool). p (suc (suc i)) (z ∷ report_values ks (take i w))) same;
    }) in
    ap (λ (z : Bool). z ∷ w) same ∙ ap (λ t. x ∷ t) more

pub one_line : (ks : List Kind) → OneLine ks
one_line ks = record {
  plays = λ p s e. record { whole = length-line ks p s e; reports = reports-line ks p s e; replies = replies-line ks p s e };
  only = only-line ks;
}

-- Policies that say the same at the points give the same lines.
pub line_alike : (ks : List Kind) (p r : Policy) → ((i : ℕ) (v : List Bool) → Point ks (suc i) v → p (suc i) v ≡ r (suc i) v) → (s : List Bool) → line ks p s ≡ line ks r s
line_alike [] p r h s = refl
line_alike (Reply ∷ ks) p r h s =
    ap (λ (x : Bool). x ∷ line ks (after_reply p) s) (h 0 [] (refl, refl))
    ∙ ap (λ t. r 1 [] ∷ t) (line_alike ks (after_reply p) (after_reply r) (λ i v o. h (suc i) v o) s)
line_alike (Report ∷ ks) p r h [] = refl
line_alike (Report ∷ ks) p r h (x ∷ s) = ap (λ t. x ∷ t) (line_alike ks (after_report x p) (after_report x r) (λ i v o. h (suc i) (x ∷ v) (o.0, ap suc o.1)) s)
