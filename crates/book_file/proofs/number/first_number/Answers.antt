use Rattle.std.proofs.Common.{◌≡◌, ℕ, ◌+◌, ◌*◌, ◌%◌, ◌^◌, ◌<◌, ◌≤◌, length, ◌⊎◌, min, ap, ⊎_elim, inl, inr, arith}
use Rattle.std.proofs.lemmas.Bool.{cases_lt}
use Rattle.book_file.proofs.Grouping.{none_read, marked_before, group_fits, marked_more, number_ends, zero_last, all_marked}
use Rattle.book_file.proofs.number.first_number.Goals as goal

-- The value with one group more.
next : (v g b i : ℕ) → g ≡ b % 128 → v + g * 2 ^ (7 * i) % 4294967296 ≡ v + b % 128 * 2 ^ (7 * i) % 4294967296
next v g b i e = ap (λ (x : ℕ). v + x * 2 ^ (7 * i) % 4294967296) e

pub loop-index-init : goal.loop-index-init
loop-index-init c = none_read c.args.bytes.now

pub overflow_add-value : goal.overflow_add-value
overflow_add-value c =
    omega (arith, group_fits c.args.bytes.now c.loop-index.index c.loop-index.value c.loop-index.invariant (omega arith) _ (omega arith) (next _ _ _ c.loop-index.index c.from.ensures))

pub returns-then-index-gt0 : goal.returns-then-index-gt0
returns-then-index-gt0 c =
    zero_last c.args.bytes.now c.loop-index.index (marked_before c.args.bytes.now c.loop-index.index c.loop-index.value c.loop-index.invariant (omega arith)) c.if-byte-eq0.true c.if-index-gt0.true

pub returns-then-byte-lt128 : goal.returns-then-byte-lt128
returns-then-byte-lt128 c =
    number_ends c.args.bytes.now c.loop-index.index c.loop-index.value c.loop-index.invariant (omega arith) _ (omega arith) (next _ _ _ c.loop-index.index c.from.ensures) c.if-byte-lt128.true
    (λ z. omega (arith, c.else-byte-eq0.either))

pub loop-index-preserved : goal.loop-index-preserved
loop-index-preserved c =
    marked_more c.args.bytes.now c.loop-index.index c.loop-index.value c.loop-index.invariant (omega arith) _ (omega arith) (next _ _ _ c.loop-index.index c.from.ensures) c.if-byte-lt128.false (omega (arith, c.type_inv.bytes c.loop-index.index))

-- The loop went through all bytes, or through four.
whole : (i n : ℕ) → min n 4 ≤ i → (n ≤ i) ⊎ (4 ≤ i)
whole i n h = ⊎_elim (λ (l : i < n). inr (omega arith)) (λ (l : n ≤ i). inl l) (cases_lt i n)

pub returns : goal.returns
returns c =
    all_marked c.args.bytes.now c.loop-index.index (marked_before c.args.bytes.now c.loop-index.index c.loop-index.value c.loop-index.invariant (omega arith))
    (whole c.loop-index.index (length c.args.bytes.now) (omega arith))
