-- How many turns a walk has left: what its loop's measure counts.
use Rattle.std.proofs.Common.{◌≡◌, ℕ, zero, suc, ◌+◌, ◌-◌, ◌<◌, Bool, true, false, cond, not, List, length, sym, refl, ap, ◌∙◌, add-one, arith}
use mathlib.Core.Bool.{beq}
use Rattle.std.proofs.lemmas.Bool.{true≢false}
use Rattle.prefix.specs.Bits.{bit}
use Rattle.prefix.specs.Kinds.{is_report}
use Rattle.prefix.specs.declared.kind.Kind.{Kind}

-- The turns of a whole walk below a part line with h values still to give.
unfoldable pub turns : ℕ → ℕ
turns zero = 1
turns (suc h) = turns h + turns h + 3

turns_pos : (h : ℕ) → 0 < turns h
unfolding turns
turns_pos zero = omega arith
turns_pos (suc h) = omega arith

-- Whether a line has the second value at position k + 1: on at a report, off at a reply.
abbrev pub second : List Kind → ℕ → ℕ → Bool
second ks line k = beq (bit line k) (is_report ks (suc k))

-- The turns left once the worth of the part line of length d is known: one up from a second branch, and the whole second branch after a first.
unfoldable pub cost : List Kind → ℕ → ℕ → ℕ
cost ks zero line = 0
cost ks (suc k) line = cond (second ks line k) 1 (turns (length ks - suc k) + 2) + cost ks k line

-- The turns left in all.
abbrev pub left : List Kind → ℕ → ℕ → Bool → ℕ
left ks d line known = cond known (cost ks d line) (turns (length ks - d) + cost ks d line)

pub second_same : (b : Bool) → beq b b ≡ true
second_same true = refl
second_same false = refl

pub second_not : (b : Bool) → beq (not b) b ≡ false
second_not true = refl
second_not false = refl

-- Two masks with the same values at the first d positions.
abbrev pub SameTo : ℕ → ℕ → ℕ → Type 0
SameTo d a b = (i : ℕ) → i < d → bit a i ≡ bit b i

-- One step down from length d: the line `to` has the first value at the next position.
pub record Down (ks : List Kind) (d line to : ℕ) : Type 0 where
  pub inside : d < length ks
  pub first : bit to d ≡ not (is_report ks (suc d))
  pub before : SameTo d to line

-- Over from the first branch at position k + 1: the line `to` has the second value there.
pub record Over (ks : List Kind) (k line to : ℕ) : Type 0 where
  pub was : second ks line k ≡ false
  pub second : bit to k ≡ is_report ks (suc k)
  pub before : SameTo k to line

module _ (ks : List Kind) where
  cost_same : (d a b : ℕ) → SameTo d a b → cost ks d a ≡ cost ks d b
  unfolding cost
  cost_same zero a b s = refl
  cost_same (suc k) a b s =
      ap (λ (x : Bool). cond (beq x (is_report ks (suc k))) 1 (turns (length ks - suc k) + 2) + cost ks k a) (s k (omega arith))
      ∙ ap (λ (z : ℕ). cond (second ks b k) 1 (turns (length ks - suc k) + 2) + z) (cost_same k a b (λ i l. s i (omega arith)))

  cost_second : (k line : ℕ) → second ks line k ≡ true → cost ks (suc k) line ≡ 1 + cost ks k line
  unfolding cost
  cost_second k line e = ap (λ (x : Bool). cond x 1 (turns (length ks - suc k) + 2) + cost ks k line) e

  cost_first : (k line : ℕ) → second ks line k ≡ false → cost ks (suc k) line ≡ turns (length ks - suc k) + 2 + cost ks k line
  unfolding cost
  cost_first k line e = ap (λ (x : Bool). cond x 1 (turns (length ks - suc k) + 2) + cost ks k line) e

  -- Each way through the loop leaves fewer, whether the worth was known before it and is known after it.
  pub fewer_known : (d line : ℕ) (before after : Bool) → before ≡ false → after ≡ true → left ks d line after < left ks d line before
  fewer_known d line false true e f = omega (arith, turns_pos (length ks - d))
  fewer_known d line true after e f = absurd (true≢false e)
  fewer_known d line false false e f = absurd (true≢false (sym f))

  pub fewer_down : (d line to : ℕ) (before after : Bool) → before ≡ false → after ≡ false → d < length ks → bit to d ≡ not (is_report ks (suc d)) → SameTo d to line
      → left ks (d + 1) to after < left ks d line before
  unfolding turns
  fewer_down d line to before after e f h t s =
      let first = cost_first d to (ap (λ (x : Bool). beq x (is_report ks (suc d))) t ∙ second_not (is_report ks (suc d))) in
      let same = cost_same d to line s in
      let m : length ks - d ≡ suc (length ks - suc d) = omega arith in
      let two : turns (length ks - d) ≡ turns (length ks - suc d) + turns (length ks - suc d) + 3 = ap turns m in
      rw (e, f, add-one) (omega arith)

  pub fewer_up : (d k line : ℕ) (before : Bool) → before ≡ true → d ≡ suc k → (b : Bool) → second ks line k ≡ b → left ks k line true < left ks d line before
  fewer_up d k line before e m true b = rw (e, m) (omega (arith, cost_second k line b))
  fewer_up d k line before e m false b = rw (e, m) (omega (arith, cost_first k line b))

  pub fewer_over : (d k line to : ℕ) (before : Bool) → before ≡ true → d ≡ suc k → second ks line k ≡ false → bit to k ≡ is_report ks (suc k) → SameTo k to line → left ks d to false < left ks d line before
  fewer_over d k line to before e m b t s =
      let first = cost_first k line b in
      let there = cost_second k to (ap (λ (x : Bool). beq x (is_report ks (suc k))) t ∙ second_same (is_report ks (suc k))) in
      let same = cost_same k to line s in
      rw (e, m) (omega arith)
