-- The mask of the literals that fail, and what it tells of a rule.
use Rattle.std.proofs.Common.{◌≡◌, ℕ, suc, ◌-◌, ◌^◌, ◌<◌, ◌≤◌, min, Bool, true, false, not, ◌&&◌, eqb, ltb, leb, get_or, sym, refl, ap, ◌∙◌, ⊎_elim, arith}
use mathlib.Core.Bool.{beq}
use lib.Bits.{bit_and, bit_xor, and_mask}
use Rattle.std.proofs.lemmas.Bool.{and_parts, and_from, and_left, and_right, cases_lt, cases_Bool, lt-ltb, le-ltb, eq-eqb, ne_eqb, eqb-true, ltb-true, both_ways}
use Rattle.std.proofs.lemmas.Nat.{and_le_l}
use Rattle.std.proofs.lemmas.Bool.Decides.{same_from_decides}
use Rattle.prefix.specs.Bits.{bit, bits}
use Rattle.prefix.proofs.Masks.{and_bit, xor_bit, bit_mod_in, bit_mod_out, bit_past, bits-apart, length-bits, get_or-bits}
use Rattle.std.specs.List.{list_any, list_all}
use Rattle.sheet.specs.Rules.{fails, literal_at, literals}
use Rattle.sheet.specs.declared.rule.Rule.{Rule}
use Rattle.sheet.proofs.Named.{decides_every, decides_some}

-- A mask of 32 bits cut down to the first d positions.
pub cut_bit : (m d first i : ℕ) → first ≡ 2 ^ min d 32 - 1 → m < 2 ^ 32 → bit (bit_and m first) i ≡ (ltb i d && bit m i)
cut_bit m d first i e h =
    ap (λ (z : ℕ). bit z i) (ap (bit_and m) e ∙ and_mask m (min d 32))
    ∙ ⊎_elim
    (λ (l : i < min d 32). let k : i < d = omega arith in bit_mod_in m (min d 32) i l ∙ sym (ap (λ (b : Bool). b && bit m i) (lt-ltb i d k)))
    (λ (l : min d 32 ≤ i).
    bit_mod_out m (min d 32) i l
    ∙ ⊎_elim (λ (k : i < d). sym (and_right (ltb i d) (bit m i) (bit_past m 32 i h (omega arith)))) (λ (k : d ≤ i). sym (and_left (ltb i d) (bit m i) (le-ltb i d k))) (cases_lt i d))
    (cases_lt i (min d 32))

-- Whether a rule's literal fails, by the masks.
fails-bit : (r : Rule) (d m i : ℕ) → fails (bits d m) (literal_at r i) ≡ (ltb i d && not (beq (bit m i) (bit r.wanted i)))
fails-bit r d m i =
    let P : Bool → Bool = λ v. not (beq v (bit r.wanted i)) in
    ap (λ (n : ℕ). leb (suc i) n && P (get_or (bits d m) i false)) (length-bits d m)
    ∙ ⊎_elim (λ (l : i < d). ap (λ (v : Bool). ltb i d && P v) (get_or-bits d m i false l))
    (λ (l : d ≤ i). and_left (ltb i d) (P (get_or (bits d m) i false)) (le-ltb i d l) ∙ sym (and_left (ltb i d) (P (bit m i)) (le-ltb i d l)))
    (cases_lt i d)

and_turn : (x a b : Bool) → (x && (a && b)) ≡ (a && (x && b))
and_turn true a b = refl
and_turn false true b = refl
and_turn false false b = refl

pub failing_bit : (r : Rule) (d m line first i : ℕ) → line ≡ m → first ≡ 2 ^ min d 32 - 1 → r.named < 2 ^ 32
    → bit (bit_and (bit_and r.named (bit_xor line r.wanted)) first) i ≡ (bit r.named i && fails (bits d m) (literal_at r i))
failing_bit r d m line first i same e h =
    let N = bit r.named i in
    let W = bit r.wanted i in
    cut_bit (bit_and r.named (bit_xor line r.wanted)) d first i e (omega (arith, and_le_l r.named (bit_xor line r.wanted)))
    ∙ ap (λ (b : Bool). ltb i d && b) (and_bit r.named (bit_xor line r.wanted) i ∙ ap (λ (b : Bool). N && b) (xor_bit line r.wanted i))
    ∙ ap (λ (z : ℕ). ltb i d && (N && not (beq (bit z i) W))) same
    ∙ and_turn (ltb i d) N (not (beq (bit m i) W)) ∙ ap (λ (b : Bool). N && b) (sym (fails-bit r d m i))

-- Two tests that each give the other are equal.
same_tests : (a b : Bool) → (a ≡ true → b ≡ true) → (b ≡ true → a ≡ true) → a ≡ b
same_tests a b f g = same_from_decides a b (f, g) (λ h. h, λ h. h)

no_bit : (i : ℕ) → bit 0 i ≡ false
no_bit i = bit_past 0 0 i (omega arith) (omega arith)

-- F is the mask of the literals of r that fail at the first d values of the line m.
module _ (r : Rule) (n d m F : ℕ) (within : d ≤ n) (fits : F < 2 ^ 32)
    (marked : (i : ℕ) → bit F i ≡ (bit r.named i && fails (bits d m) (literal_at r i))) where
  parts : (i : ℕ) → bit F i ≡ true → (bit r.named i ≡ true) × (fails (bits d m) (literal_at r i) ≡ true)
  parts i h = and_parts (bit r.named i) (fails (bits d m) (literal_at r i)) (sym (marked i) ∙ h)

  whole : (i : ℕ) → bit r.named i ≡ true → fails (bits d m) (literal_at r i) ≡ true → bit F i ≡ true
  whole i h k = marked i ∙ and_from (bit r.named i) (fails (bits d m) (literal_at r i)) h k

  -- A literal that fails stands within n positions.
  near : (i : ℕ) → bit F i ≡ true → i < n
  near i h =
      let in-line = (and_parts (ltb i d) (not (beq (bit m i) (bit r.wanted i))) (sym (fails-bit r d m i) ∙ (parts i h).1)).0 in
      let l : i < d = ltb-true i d in-line in
      omega arith

  none_is_zero : list_any (fails (bits d m)) (literals r n) ≡ false → F ≡ 0
  none_is_zero none = bits-apart 32 F 0 fits (omega arith) (λ i _. off i ∙ sym (no_bit i))
    where
      off : (i : ℕ) → bit F i ≡ false
      off i =
          ⊎_elim (λ (h : bit F i ≡ true). absurd (both_ways _ none ((decides_some r (fails (bits d m)) n).1 (i, near i h, parts i h))))
          (λ (h : bit F i ≡ false). h) (cases_Bool (bit F i))

  some_not_zero : list_any (fails (bits d m)) (literals r n) ≡ true → F ≡ 0 → ⊥
  some_not_zero h z =
      let at = (decides_some r (fails (bits d m)) n).0 h in
      both_ways (bit F at.0) (ap (λ (f : ℕ). bit f at.0) z ∙ no_bit at.0) (whole at.0 at.2.0 at.2.1)

  pub any_fails_lem : not (eqb F 0) ≡ list_any (fails (bits d m)) (literals r n)
  any_fails_lem =
      ⊎_elim (λ (e : list_any (fails (bits d m)) (literals r n) ≡ true). ap not (ne_eqb F 0 (some_not_zero e)) ∙ sym e)
      (λ (e : list_any (fails (bits d m)) (literals r n) ≡ false). ap not (eq-eqb F 0 (none_is_zero e)) ∙ sym e)
      (cases_Bool (list_any (fails (bits d m)) (literals r n)))

  -- C is the mask of all literals within n positions.
  module _ (C : ℕ) (small : C < 2 ^ 32) (cut : (i : ℕ) → bit C i ≡ (ltb i n && bit r.named i)) where
    same_all : F ≡ C → list_all (fails (bits d m)) (literals r n) ≡ true
    same_all e =
        (decides_every r (fails (bits d m)) n).1
        (λ i l b. (parts i (ap (λ (f : ℕ). bit f i) e ∙ cut i ∙ and_from (ltb i n) (bit r.named i) (lt-ltb i n l) b)).1)

    all_same : list_all (fails (bits d m)) (literals r n) ≡ true → F ≡ C
    all_same all = bits-apart 32 F C fits small (λ i _. same_tests (bit F i) (bit C i) (there i) (back i))
      where
        there : (i : ℕ) → bit F i ≡ true → bit C i ≡ true
        there i b = cut i ∙ and_from (ltb i n) (bit r.named i) (lt-ltb i n (near i b)) (parts i b).0

        back : (i : ℕ) → bit C i ≡ true → bit F i ≡ true
        back i b =
            let both = and_parts (ltb i n) (bit r.named i) (sym (cut i) ∙ b) in
            whole i both.1 ((decides_every r (fails (bits d m)) n).0 all i (ltb-true i n both.0) both.1)

    same_masks : eqb F C ≡ list_all (fails (bits d m)) (literals r n)
    same_masks =
        same_tests (eqb F C) (list_all (fails (bits d m)) (literals r n)) (λ h. same_all (eqb-true F C h)) (λ h. eq-eqb F C (all_same h))

  pub all_fail_lem : (first : ℕ) → first ≡ 2 ^ min n 32 - 1 → r.named < 2 ^ 32 → eqb F (bit_and r.named first) ≡ list_all (fails (bits d m)) (literals r n)
  all_fail_lem first e h = same_masks (bit_and r.named first) (omega (arith, and_le_l r.named first)) (λ i. cut_bit r.named n first i e h)
