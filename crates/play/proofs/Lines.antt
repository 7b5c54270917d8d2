-- A policy's line on the first positions, one position longer.
use Rattle.std.proofs.Common.{◌≡◌, ℕ, zero, suc, Bool, List, [], ◌∷◌, ◌++◌, length, take, Some, None, Option, sym, refl, ap, arith}
use Rattle.prefix.specs.Kinds.{kind_at, report_count}
use Rattle.prefix.specs.Policies.{Policy, after_reply, after_report, line}
use Rattle.prefix.specs.declared.kind.Kind.{Kind}
use Rattle.prefix.specs.declared.kind.Kind.TheVariants.{Report, Reply}
use Rattle.prefix.proofs.Lines.{none_not_reply, report_not_reply}

none_not_report : {A : Type 0} → ◌≡◌ {A = Option Kind} None (Some Report) → A
none_not_report e = let z : ◌≡◌ {A = ℕ} 0 1 = cc in absurd (omega arith)

-- At a report it gets the report's value.
pub line_report : (ks : List Kind) (p : Policy) (i : ℕ) (v : List Bool) (x : Bool) → kind_at ks (suc i) ≡ Some Report → length v ≡ report_count (take i ks)
    → line (take (suc i) ks) p (v ++ x ∷ []) ≡ line (take i ks) p v ++ x ∷ []
line_report [] p i v x r e = none_not_report r
line_report (Reply ∷ ks) p zero v x r e = report_not_reply (sym r)
line_report (Report ∷ ks) p zero [] x r e = refl
line_report (Report ∷ ks) p zero (y ∷ v) x r e = absurd (omega arith)
line_report (Reply ∷ ks) p (suc i) v x r e = ap (λ t. p 1 [] ∷ t) (line_report ks (after_reply p) i v x r e)
line_report (Report ∷ ks) p (suc i) [] x r e = absurd (omega arith)
line_report (Report ∷ ks) p (suc i) (y ∷ v) x r e = ap (λ t. y ∷ t) (line_report ks (after_report y p) i v x r (omega arith))

-- At a reply it gets what the policy says there.
pub line_reply : (ks : List Kind) (p : Policy) (i : ℕ) (v : List Bool) → kind_at ks (suc i) ≡ Some Reply → length v ≡ report_count (take i ks)
    → line (take (suc i) ks) p v ≡ line (take i ks) p v ++ p (suc i) v ∷ []
line_reply [] p i v r e = none_not_reply r
line_reply (Report ∷ ks) p zero v r e = report_not_reply r
line_reply (Reply ∷ ks) p zero [] r e = refl
line_reply (Reply ∷ ks) p zero (y ∷ v) r e = absurd (omega arith)
line_reply (Reply ∷ ks) p (suc i) v r e = ap (λ t. p 1 [] ∷ t) (line_reply ks (after_reply p) i v r e)
line_reply (Report ∷ ks) p (suc i) [] r e = absurd (omega arith)
line_reply (Report ∷ ks) p (suc i) (y ∷ v) r e = ap (λ t. y ∷ t) (line_reply ks (after_report y p) i v r (omega arith))
