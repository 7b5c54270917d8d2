-- Masks bit by bit, and as lists of values.
use Rattle.std.proofs.Common.{◌≡◌, ℕ, zero, suc, ◌+◌, ◌-◌, ◌*◌, ◌/◌, ◌%◌, ◌^◌, ◌<◌, ◌≤◌, min, Bool, true, false, not, ◌&&◌, eqb, ◌⊎◌, [], ◌∷◌, ◌++◌, length, get_or, sym, refl, ap, ◌∙◌, subst, ⊎_elim, one-mul, pow-suc, div-one, add-one, one-add, arith, pow_mono}
use mathlib.Core.Bool.{beq}
use Prim.Native.Nat.{differ}
use lib.Bits.{bit_and, bit_xor, and_step, xor_step, and_shr, xor_shr}
use Rattle.std.proofs.lemmas.Nat.{pow_pos, pow-add, shl-shr, shr-shr, mod_below, field_of, mod-pow-add, shr_below}
use Rattle.std.proofs.lemmas.Bool.{true≢false, cases_lt, cases_order}
use Rattle.prefix.specs.Bits.{odd, bit, bits, mask_value, Changed}

pub two_cases : (P : ℕ → Type 0) → P 0 → P 1 → (r : ℕ) → r < 2 → P r
two_cases P a b zero h = a
two_cases P a b (suc zero) h = b
two_cases P a b (suc (suc r)) h = absurd (omega arith)

-- Two bits at a time: what holds of four pairs.
pub four_cases : (P : ℕ → ℕ → Type 0) → P 0 0 → P 0 1 → P 1 0 → P 1 1 → (r s : ℕ) → r < 2 → s < 2 → P r s
four_cases P a b c d r s h k = two_cases (λ r. P r s) (two_cases (P 0) a b s k) (two_cases (P 1) c d s k) r h

pub and_odd : (a b : ℕ) → odd (bit_and a b) ≡ (odd a && odd b)
and_odd a b =
    let e : bit_and a b % 2 ≡ min (a % 2) (b % 2) = omega (arith, and_step a b) in
    ap (λ (z : ℕ). eqb z 1) e
    ∙ four_cases (λ r s. eqb (min r s) 1 ≡ (eqb r 1 && eqb s 1)) refl refl refl refl (a % 2) (b % 2) (omega arith) (omega arith)

pub xor_odd : (a b : ℕ) → odd (bit_xor a b) ≡ not (beq (odd a) (odd b))
xor_odd a b =
    let d : differ (a % 2) (b % 2) < 2 = four_cases (λ r s. differ r s < 2) (omega arith) (omega arith) (omega arith) (omega arith) (a % 2) (b % 2) (omega arith) (omega arith) in
    let e : bit_xor a b % 2 ≡ differ (a % 2) (b % 2) = omega (arith, xor_step a b) in
    ap (λ (z : ℕ). eqb z 1) e
    ∙ four_cases (λ r s. eqb (differ r s) 1 ≡ not (beq (eqb r 1) (eqb s 1))) refl refl refl refl (a % 2) (b % 2) (omega arith) (omega arith)

pub and_bit : (a b i : ℕ) → bit (bit_and a b) i ≡ (bit a i && bit b i)
and_bit a b i = ap odd (and_shr a b i) ∙ and_odd (a / 2 ^ i) (b / 2 ^ i)

pub xor_bit : (a b i : ℕ) → bit (bit_xor a b) i ≡ not (beq (bit a i) (bit b i))
xor_bit a b i = ap odd (xor_shr a b i) ∙ xor_odd (a / 2 ^ i) (b / 2 ^ i)

pub bit_half : (m i : ℕ) → bit (m / 2) i ≡ bit m (suc i)
bit_half m i = ap odd (shr-shr m 1 i ∙ ap (λ (e : ℕ). m / 2 ^ e) (one-add i))

pub bit_first : (m : ℕ) → bit m 0 ≡ odd m
bit_first m = ap odd (div-one m)

-- Past its digits a number has no bit.
pub bit_past : (m d i : ℕ) → m < 2 ^ d → d ≤ i → bit m i ≡ false
bit_past m d i h k =
    let up : 2 ^ d ≤ 2 ^ i = pow_mono k in
    let low : m < 2 ^ (0 + i) = subst (λ (z : ℕ). m < 2 ^ z) (omega arith) (let l : m < 2 ^ i = omega arith in l) in
    let z : m / 2 ^ i ≡ 0 = omega (arith, shr_below m 0 i low) in
    ap odd z

pub bit_mod_in : (m d i : ℕ) → i < d → bit (m % 2 ^ d) i ≡ bit m i
bit_mod_in m d i h =
    let j : ℕ = d - suc i in
    let e : suc j + i ≡ d = omega arith in
    let two : m / 2 ^ i % 2 ^ suc j % 2 ≡ m / 2 ^ i % 2 = omega (arith, ap (λ (q : ℕ). m / 2 ^ i % 2 ^ q) (sym (add-one j)) ∙ mod-pow-add (m / 2 ^ i) j 1) in
    ap (λ (n : ℕ). odd (m % 2 ^ n / 2 ^ i)) (sym e) ∙ ap odd (field_of m (suc j) i) ∙ ap (λ (z : ℕ). eqb z 1) two

pub bit_mod_out : (m d i : ℕ) → d ≤ i → bit (m % 2 ^ d) i ≡ false
bit_mod_out m d i h = bit_past (m % 2 ^ d) d i (mod_below m (2 ^ d) (pow_pos d)) h

bit_pow_here : (k : ℕ) → bit (2 ^ k) k ≡ true
bit_pow_here k = ap odd (ap (λ (z : ℕ). z / 2 ^ k) (sym (one-mul (2 ^ k))) ∙ shl-shr 1 k)

bit_pow_above : (k i : ℕ) → i < k → bit (2 ^ k) i ≡ false
bit_pow_above k i h =
    let j : ℕ = k - suc i in
    let e : k ≡ suc j + i = omega arith in
    let f : 2 ^ k / 2 ^ i ≡ 2 ^ suc j = ap (λ (z : ℕ). 2 ^ z / 2 ^ i) e ∙ ap (λ (z : ℕ). z / 2 ^ i) (pow-add 2 (suc j) i) ∙ shl-shr (2 ^ suc j) i in
    let z : 2 ^ k / 2 ^ i % 2 ≡ 0 = omega (arith, f, pow-suc 2 j) in
    ap (λ (z : ℕ). eqb z 1) z

pub bit_pow_else : (k i : ℕ) → (i ≡ k → ⊥) → bit (2 ^ k) i ≡ false
bit_pow_else k i ne =
    ⊎_elim (λ (h : i < k). bit_pow_above k i h)
    (λ (h : k ≤ i). let l : k < i = strictly h in bit_past (2 ^ k) (suc k) i (omega (arith, pow-suc 2 k, pow_pos k)) l)
    (cases_lt i k)
  where
    strictly : k ≤ i → k < i
    strictly h = ⊎_elim (λ (e : i ≡ k). absurd (ne e)) (⊎_elim (λ (l : i < k). omega arith) (λ (l : k < i). l)) (cases_order i k)

beq_true_not : (b : Bool) → not (beq b true) ≡ not b
beq_true_not true = refl
beq_true_not false = refl

beq_false_not : (b : Bool) → not (beq b false) ≡ b
beq_false_not true = refl
beq_false_not false = refl

pub flip_here : (m k : ℕ) → bit (bit_xor m (2 ^ k)) k ≡ not (bit m k)
flip_here m k = xor_bit m (2 ^ k) k ∙ ap (λ (b : Bool). not (beq (bit m k) b)) (bit_pow_here k) ∙ beq_true_not (bit m k)

pub flip_else : (m k i : ℕ) → (i ≡ k → ⊥) → bit (bit_xor m (2 ^ k)) i ≡ bit m i
flip_else m k i ne = xor_bit m (2 ^ k) i ∙ ap (λ (b : Bool). not (beq (bit m i) b)) (bit_pow_else k i ne) ∙ beq_false_not (bit m i)

-- Numbers with the same bits are the same.
pub bits-apart : (d a b : ℕ) → a < 2 ^ d → b < 2 ^ d → ((i : ℕ) → i < d → bit a i ≡ bit b i) → a ≡ b
bits-apart zero a b h k f = omega arith
bits-apart (suc d) a b h k f =
    let p : 2 ^ suc d ≡ 2 ^ d * 2 = pow-suc 2 d in
    let half : a / 2 ≡ b / 2 = bits-apart d (a / 2) (b / 2) (omega arith) (omega arith) (λ i l. bit_half a i ∙ f (suc i) (omega arith) ∙ sym (bit_half b i)) in
    let last : odd a ≡ odd b = sym (bit_first a) ∙ f zero (omega arith) ∙ bit_first b in
    let low : a % 2 ≡ b % 2 = four_cases (λ r s. eqb r 1 ≡ eqb s 1 → r ≡ s) (λ _. refl) (λ e. absurd (true≢false (sym e))) (λ e. absurd (true≢false e)) (λ _. refl) (a % 2) (b % 2) (omega arith) (omega arith) last in
    omega arith

pub length-bits : (d m : ℕ) → length (bits d m) ≡ d
length-bits zero m = refl
length-bits (suc d) m = ap suc (length-bits d (m / 2))

pub get_or-bits : (d m i : ℕ) (x : Bool) → i < d → get_or (bits d m) i x ≡ bit m i
get_or-bits zero m i x h = absurd (omega arith)
get_or-bits (suc d) m zero x h = sym (bit_first m)
get_or-bits (suc d) m (suc i) x h = get_or-bits d (m / 2) i x (omega arith) ∙ bit_half m i

pub bits_push : (d m : ℕ) → bits (suc d) m ≡ bits d m ++ bit m d ∷ []
bits_push zero m = ap (λ (x : Bool). x ∷ []) (sym (bit_first m))
bits_push (suc d) m =
    ap (λ t. odd m ∷ t) (bits_push d (m / 2)) ∙ ap (λ (x : Bool). odd m ∷ (bits d (m / 2) ++ x ∷ [])) (bit_half m d)

-- Masks with the same first bits give the same values.
pub bits_same : (d a b : ℕ) → ((i : ℕ) → i < d → bit a i ≡ bit b i) → bits d a ≡ bits d b
bits_same zero a b f = refl
bits_same (suc d) a b f =
    bits_push d a ∙ ap (λ t. t ++ bit a d ∷ []) (bits_same d a b (λ i h. f i (omega arith)))
    ∙ ap (λ (x : Bool). bits d b ++ x ∷ []) (f d (omega arith)) ∙ sym (bits_push d b)

-- The value of a mask at positions that are not there.
pub value_outside : (m p : ℕ) → m < 2 ^ 32 → (p ≡ 0) ⊎ (32 < p) → mask_value m p ≡ false
value_outside m zero h o = refl
value_outside m (suc i) h o = ⊎_elim (λ e. absurd (omega arith)) (λ l. bit_past m 32 i h (omega arith)) o

pub value_inside : (m p i : ℕ) → p ≡ suc i → mask_value m p ≡ bit m i
value_inside m p i e = ap (mask_value m) e

not_is : (a b : Bool) → beq a b ≡ false → not a ≡ b
not_is true true h = absurd (true≢false h)
not_is true false h = refl
not_is false true h = refl
not_is false false h = absurd (true≢false h)

-- Turning the one value that differs.
pub flip_changes : (m i : ℕ) (v : Bool) → beq (bit m i) v ≡ false → Changed m (suc i) v (bit_xor m (2 ^ i))
flip_changes m i v d = record {
  here = λ _ _. flip_here m i ∙ not_is (bit m i) v d;
  elsewhere = else;
}
  where
    else : (k : ℕ) → (k ≡ suc i → ⊥) → mask_value (bit_xor m (2 ^ i)) k ≡ mask_value m k
    else zero ne = refl
    else (suc j) ne = flip_else m i j (λ e. ne (ap suc e))

-- What a changed mask has at the position changed, and at those before it.
module _ (m p k m' : ℕ) (v : Bool) (c : Changed m p v m') (at : p ≡ suc k) where
  pub changed_here : k < 32 → bit m' k ≡ v
  changed_here h = sym (value_inside m' p k at) ∙ c.here (omega arith) (omega arith)

  pub changed_before : (i : ℕ) → i < k → bit m' i ≡ bit m i
  changed_before i h = c.elsewhere (suc i) (λ e. omega arith)
