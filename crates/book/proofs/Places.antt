-- Each guard has a bit of its own, within the words of its prefix.
use Rattle.std.proofs.Common.{◌≡◌, ℕ, ◌+◌, ◌-◌, ◌*◌, ◌/◌, ◌^◌, ◌≤◌, ◌<◌, max, Bool, cond, List, length, Some, sym, refl, ap, ◌∙◌, subst, ⊎_elim, arith, pow_mono}
use Rattle.std.proofs.lemmas.Nat.{pow-add}
use Rattle.std.proofs.lemmas.Bool.{cases_lt, cases_order}
use Rattle.prefix.specs.Kinds.{kind_at, some_reply, reports_before}
use Rattle.prefix.specs.Points.{Point, sum_to}
use Rattle.prefix.specs.Settings.{number}
use Rattle.prefix.specs.declared.kind.Kind.{Kind}
use Rattle.prefix.specs.declared.kind.Kind.TheVariants.{Reply}
use Rattle.prefix.proofs.Points.{sum_next, sum_grows}
use Rattle.prefix.proofs.Replies.{reply_within, reply_from_one}
use Rattle.prefix.proofs.Settings.{number-below, number-apart}
use Rattle.book.specs.declared.side.Side.{Side}
use Rattle.book.specs.declared.side.Side.TheVariants.{On, Off}
use Rattle.book.specs.Tables.{block_words, words_at, words_before, word_count, word_of, bit_of, OwnBits}

-- The number of one of 2 ^ u settings lies in a block's words.
in_block : (u s : ℕ) → s < 2 ^ u → s / 64 < max 1 (2 ^ u / 64)
in_block u s h =
    ⊎_elim (λ (l : u < 6). let m : 2 ^ u ≤ 2 ^ 6 = pow_mono (let w : u ≤ 6 = omega arith in w) in omega arith)
    (λ (l : 6 ≤ u).
    let e : u ≡ (u - 6) + 6 = omega arith in
    let m : 2 ^ u ≡ 2 ^ (u - 6) * 64 = ap (λ (n : ℕ). 2 ^ n) e ∙ pow-add 2 (u - 6) 6 in
    omega arith)
    (cases_lt u 6)

module _ (ks : List Kind) where
  -- The blocks of a reply end where those of the positions after it begin.
  blocks_end : (k : ℕ) → kind_at ks k ≡ Some Reply → words_before ks k + 2 * block_words ks k ≡ sum_to (words_at ks) k
  blocks_end k r =
      let two : words_at ks k ≡ 2 * block_words ks k = ap (λ q. cond (some_reply q) (2 * block_words ks k) 0) r in
      omega (arith, two, sum_next (words_at ks) k (reply_from_one ks k r))

  offset : (k : ℕ) (v : List Bool) → Point ks k v → number v / 64 < block_words ks k
  offset k v o = in_block (reports_before ks k) (number v) (omega (arith, number-below v, ap (λ (n : ℕ). 2 ^ n) o.1))

  word_from : (side : Side) (k : ℕ) (v : List Bool) → words_before ks k ≤ word_of ks side k v
  word_from On k v = omega arith
  word_from Off k v = omega arith

  word_to : (side : Side) (k : ℕ) (v : List Bool) → Point ks k v → word_of ks side k v < sum_to (words_at ks) k
  word_to On k v o = omega (arith, offset k v o, blocks_end k o.0)
  word_to Off k v o = omega (arith, offset k v o, blocks_end k o.0)

  word_inside : (side : Side) (k : ℕ) (v : List Bool) → Point ks k v → word_of ks side k v < word_count ks
  word_inside side k v o = omega (arith, word_to side k v o, sum_grows (words_at ks) k (length ks) (reply_within ks k o.0))

  not_later : (s side : Side) (j k : ℕ) (w v : List Bool) → Point ks j w → word_of ks s j w ≡ word_of ks side k v → j < k → ⊥
  not_later s side j k w v o e l =
      omega (arith, word_to s j w o, word_from side k v, sum_grows (words_at ks) j (k - 1) (omega arith))

  same_position : (s side : Side) (j k : ℕ) (w v : List Bool) → Point ks j w → Point ks k v → word_of ks s j w ≡ word_of ks side k v → j ≡ k
  same_position s side j k w v o q e =
      ⊎_elim (λ (h : j ≡ k). h)
      (⊎_elim (λ (l : j < k). absurd (not_later s side j k w v o e l)) (λ (l : k < j). absurd (not_later side s k j v w q (sym e) l)))
      (cases_order j k)

  same_side : (s side : Side) (k : ℕ) (w v : List Bool) → Point ks k w → Point ks k v → word_of ks s k w ≡ word_of ks side k v → s ≡ side
  same_side On On k w v o q e = refl
  same_side Off Off k w v o q e = refl
  same_side On Off k w v o q e = absurd (omega (arith, offset k w o))
  same_side Off On k w v o q e = absurd (omega (arith, offset k v q))

  same_word : (s side : Side) (k : ℕ) (w v : List Bool) → s ≡ side → word_of ks s k w ≡ word_of ks side k v → number w / 64 ≡ number v / 64
  same_word On On k w v z e = omega arith
  same_word Off Off k w v z e = omega arith
  same_word On Off k w v z e = let a : ◌≡◌ {A = ℕ} 0 1 = cc z in absurd (omega arith)
  same_word Off On k w v z e = let a : ◌≡◌ {A = ℕ} 0 1 = cc z in absurd (omega arith)

  -- The bit of a guard is that of no other.
  own_bit : (s side : Side) (j k : ℕ) (w v : List Bool) → Point ks j w → Point ks k v → word_of ks s j w ≡ word_of ks side k v → bit_of w ≡ bit_of v → (s ≡ side) × (j ≡ k) × (w ≡ v)
  own_bit s side j k w v o q e b =
      let at : j ≡ k = same_position s side j k w v o q e in
      let here : Point ks k w = subst (λ (i : ℕ). Point ks i w) at o in
      let same : word_of ks s k w ≡ word_of ks side k v = subst (λ (i : ℕ). word_of ks s i w ≡ word_of ks side k v) at e in
      let sides = same_side s side k w v here q same in
      let words = same_word s side k w v sides same in
      let numbers : number w ≡ number v = omega (arith, words, b) in
      (sides, at, number-apart w v (here.1 ∙ sym q.1) numbers)

  pub own_bits : OwnBits ks
  own_bits = record { inside = word_inside; own = own_bit }
