-- Sums over the replies of a prefix, and what they are at most.
use Rattle.std.proofs.Common.{◌≡◌, ℕ, zero, suc, ◌+◌, ◌-◌, ◌*◌, ◌≤◌, ◌<◌, true, cond, leb, List, [], ◌∷◌, length, Some, None, Option, ◌⊎◌, inl, inr, mul-add, mul-suc, sym, refl, ap, ◌∙◌, ⊎_elim, arith}
use Rattle.std.proofs.lemmas.Bool.{leb-true, agree_below, agree_below_at}
use Rattle.std.proofs.Math.Nat.{mul-le-mul_left}
use Rattle.std.proofs.lemmas.List.{take_all}
use Rattle.prefix.specs.Kinds.{kind_at, some_reply, is_reply, report_count, reports_before}
use Rattle.prefix.specs.Points.{sum_to}
use Rattle.prefix.specs.Prefixes.{kinds}
use Rattle.prefix.specs.declared.kind.Kind.{Kind}
use Rattle.prefix.specs.declared.kind.Kind.TheVariants.{Report, Reply}
use Rattle.prefix.specs.declared.prefix.Prefix.{Prefix}
use Rattle.prefix.proofs.Lines.{report_not_reply, none_not_reply}
use Rattle.prefix.proofs.Positions.{before_le, count-whole, length-kinds}

none_not_report : {A : Type 0} → ◌≡◌ {A = Option Kind} None (Some Report) → A
none_not_report e = let z : ◌≡◌ {A = ℕ} 0 1 = cc in absurd (omega arith)

-- Each position has a kind; after a report there is one more before, after a reply as many.
kind_some : (ks : List Kind) (i : ℕ) → i < length ks → (kind_at ks (suc i) ≡ Some Report) ⊎ (kind_at ks (suc i) ≡ Some Reply)
kind_some [] i h = absurd (omega arith)
kind_some (Report ∷ ks) zero h = inl refl
kind_some (Reply ∷ ks) zero h = inr refl
kind_some (q ∷ ks) (suc i) h = kind_some ks i (omega arith)

after_report : (ks : List Kind) (i : ℕ) → kind_at ks (suc i) ≡ Some Report → reports_before ks (suc (suc i)) ≡ suc (reports_before ks (suc i))
after_report [] i h = none_not_report h
after_report (Report ∷ ks) zero h = refl
after_report (Reply ∷ ks) zero h = report_not_reply (sym h)
after_report (Report ∷ ks) (suc i) h = ap suc (after_report ks i h)
after_report (Reply ∷ ks) (suc i) h = after_report ks i h

after_reply : (ks : List Kind) (i : ℕ) → kind_at ks (suc i) ≡ Some Reply → reports_before ks (suc (suc i)) ≡ reports_before ks (suc i)
after_reply [] i h = none_not_reply h
after_reply (Report ∷ ks) zero h = report_not_reply h
after_reply (Reply ∷ ks) zero h = refl
after_reply (Report ∷ ks) (suc i) h = ap suc (after_reply ks i h)
after_reply (Reply ∷ ks) (suc i) h = after_reply ks i h

-- What a position adds to the sum: g of the number of reports before it at a reply, nothing elsewhere.
abbrev pub of_reply : (ℕ → ℕ) → List Kind → ℕ → ℕ
of_reply g ks k = cond (is_reply ks k) (g (reports_before ks k)) 0

-- A reply with more reports before it adds no less.
abbrev pub Grows : (ℕ → ℕ) → Type 0
Grows g = (u r : ℕ) → u ≤ r → g u ≤ g r

module _ (g : ℕ → ℕ) (grows : Grows g) (ks : List Kind) where
  abbrev largest : ℕ
  largest = g (report_count ks)

  report_none : (i : ℕ) → kind_at ks (suc i) ≡ Some Report → of_reply g ks (suc i) ≡ 0
  report_none i h = ap (λ q. cond (some_reply q) (g (reports_before ks (suc i))) 0) h

  reply_few : (i : ℕ) → kind_at ks (suc i) ≡ Some Reply → of_reply g ks (suc i) ≤ largest
  reply_few i h =
      let here : of_reply g ks (suc i) ≡ g (reports_before ks (suc i)) = ap (λ q. cond (some_reply q) (g (reports_before ks (suc i))) 0) h in
      omega (arith, here, grows (reports_before ks (suc i)) (report_count ks) (before_le ks (suc i)))

  -- Each reply adds at most the largest, each report nothing: with the largest for each report too, the sum is at most the largest for each position.
  sum_few : (i : ℕ) → i ≤ length ks → sum_to (of_reply g ks) i + largest * reports_before ks (suc i) ≤ largest * i
  sum_few zero h = let z : reports_before ks 1 ≡ 0 = refl in omega (arith, ap (λ (n : ℕ). largest * n) z)
  sum_few (suc i) h =
      ⊎_elim
      (λ r. omega (arith, sum_few i (omega arith), report_none i r, ap (λ (n : ℕ). largest * n) (after_report ks i r), mul-suc largest (reports_before ks (suc i)), mul-suc largest i))
      (λ r. omega (arith, sum_few i (omega arith), reply_few i r, ap (λ (n : ℕ). largest * n) (after_reply ks i r), mul-suc largest i))
      (kind_some ks i (omega arith))

-- Of 24 positions with r reports 24 - r are replies.
others : (a r s : ℕ) → r ≤ 12 → s + a * r ≤ a * 24 → s ≤ a * (24 - r)
others a r s h k =
    let split : 24 ≡ (24 - r) + r = omega arith in
    let parts : a * 24 ≡ a * (24 - r) + a * r = ap (λ (n : ℕ). a * n) split ∙ mul-add a (24 - r) r in
    omega arith

-- A bound for 24 positions, of which the last are replies, with each number of reports, is one for every prefix.
pub few_of_replies : (g : ℕ → ℕ) → Grows g → (most : ℕ) → agree_below (λ r. leb (g r * (24 - r)) most) (λ _. true) 13 ≡ true
    → (p : Prefix) → sum_to (of_reply g (kinds p)) (length (kinds p)) ≤ most
few_of_replies g grows most tested p =
    let ks = kinds p in
    let r = report_count ks in
    let n : length ks ≡ p.length = length-kinds p.length p.reports in
    let reports : r ≤ 12 = omega (arith, count-whole p.length p.reports p.ok.2, p.ok.3) in
    let all : reports_before ks (suc (length ks)) ≡ r = ap report_count (take_all (length ks) ks (omega arith)) in
    let positions : g r * length ks ≤ g r * 24 = mul-le-mul_left (g r) (omega (arith, n, p.ok.1)) in
    let sum : sum_to (of_reply g ks) (length ks) + g r * r ≤ g r * 24 =
    omega (arith, sum_few g grows ks (length ks) (omega arith), ap (λ (i : ℕ). g r * i) all, positions) in
    let here : g r * (24 - r) ≤ most = leb-true (g r * (24 - r)) most (agree_below_at (λ u. leb (g u * (24 - u)) most) (λ _. true) 13 r tested (omega arith)) in
    omega (arith, others (g r) r (sum_to (of_reply g ks) (length ks)) reports sum, here)
