-- Prefixes are equal where their lengths and their masks of reports are.
use Rattle.std.proofs.Common.{◌≡◌, ◌≢◌, ℕ, true, false, ◌&&◌, eqb, sym, ap, ◌∙◌, subst}
use Rattle.std.proofs.lemmas.Bool.{true≢false, and_parts, and_from, eqb-true, eq-eqb}
use Rattle.std.proofs.Math.Bridge.{le_prop}
use Rattle.prefix.specs.Limits.{Limits}
use Rattle.prefix.specs.declared.prefix.Prefix.{Prefix}

limits_same : (n m : ℕ) (a b : Limits n m) → a ≡ b
limits_same n m a b =
    ap (λ x. (x, a.1, a.2, a.3)) (le_prop a.0 b.0) ∙ ap (λ x. (b.0, x, a.2, a.3)) (le_prop a.1 b.1)
    ∙ ap (λ x. (b.0, b.1, x, a.3)) (le_prop a.2 b.2) ∙ ap (λ x. (b.0, b.1, b.2, x)) (le_prop a.3 b.3)

pub same_prefix : (p q : Prefix) → p.length ≡ q.length → p.reports ≡ q.reports → p ≡ q
same_prefix p q e f =
    subst (λ (n : ℕ). (ok : Limits n q.reports) → p ≡ record { length = n; reports = q.reports; ok = ok }) e
    (subst (λ (m : ℕ). (ok : Limits p.length m) → p ≡ record { length = p.length; reports = m; ok = ok }) f
    (λ ok. ap (λ (o : Limits p.length p.reports). record { length = p.length; reports = p.reports; ok = o }) (limits_same p.length p.reports p.ok ok)))
    q.ok

-- What the test for equality says of two prefixes.
pub prefix_tells : (p q : Prefix) → (eqb p.length q.length && eqb p.reports q.reports) ≡ true → p ≡ q
prefix_tells p q e = let b = and_parts _ _ e in same_prefix p q (eqb-true _ _ b.0) (eqb-true _ _ b.1)

pub prefix_differs : (p q : Prefix) → (eqb p.length q.length && eqb p.reports q.reports) ≡ false → p ≢ q
prefix_differs p q e s = true≢false (sym (and_from _ _ (eq-eqb _ _ (ap (λ r. r.length) s)) (eq-eqb _ _ (ap (λ r. r.reports) s))) ∙ e)
