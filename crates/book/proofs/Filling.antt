-- What setting one bit and clearing the blocks make of the guards.
use Rattle.std.proofs.Common.{◌≡◌, ℕ, ◌+◌, ◌-◌, ◌^◌, ◌≤◌, ◌<◌, Bool, true, false, ◌&&◌, List, ◌++◌, length, get_or, take, drop, replicate, bit_or, nat_le, eqb, sym, refl, ap, ◌∙◌, append_assoc, subst, ⊎_elim, arith}
use Rattle.std.specs.Int.{bit_at}
use Rattle.std.proofs.lemmas.Nat.Bits.{bit_at-zero, bit_at_or, bit_at-pow_same, bit_at-pow_other, bit_at-lt}
use Rattle.std.proofs.lemmas.List.{get_or-set_same, get_or-set_other, length-set, get_or-replicate, get_or_append_left, length-append, length-replicate, length-drop, length-take-le, take_at, drop_at, drop-drop, drop-set-lt, replicate-append-replicate}
use Rattle.std.proofs.lemmas.Bool.{cases_order, leb-true, and_parts, and_right, cond-true, cond_both}
use Rattle.prefix.specs.Bits.{bit}
use Rattle.prefix.specs.Lines.{setting_before}
use Rattle.prefix.specs.Points.{Point, sum_to}
use Rattle.prefix.specs.Prefixes.{kinds}
use Rattle.prefix.specs.declared.prefix.Prefix.{Prefix}
use Rattle.prefix.proofs.Points.{sum_next, sum_grows}
use Rattle.prefix.proofs.Positions.{length-kinds}
use Rattle.prefix.proofs.Replies.{point_of}
use Rattle.book.specs.Guards.{AllNo, Added, can_add}
use Rattle.book.specs.declared.side.Side.{Side}
use Rattle.book.specs.Tables.{words_at, words_before, word_count, suffice, words_past, table_guards, word_of, bit_of, with_bit, words_after_add, with_zeros, words_after_clear}
use Rattle.book.proofs.Places.{own_bits}

-- One bit more of a word.
bit_here : (x b : ℕ) → bit (bit_or x (2 ^ b)) b ≡ true
bit_here x b = let e : bit_at (bit_or x (2 ^ b)) b ≡ 1 = omega (arith, bit_at_or x (2 ^ b) b, bit_at-pow_same b, bit_at-lt x b) in ap (λ (n : ℕ). eqb n 1) e

bit_else : (x b i : ℕ) → (i ≡ b → ⊥) → bit (bit_or x (2 ^ b)) i ≡ bit x i
bit_else x b i ne = let e : bit_at (bit_or x (2 ^ b)) i ≡ bit_at x i = omega (arith, bit_at_or x (2 ^ b) i, bit_at-pow_other b i ne) in ap (λ (n : ℕ). eqb n 1) e

no_bits : (i : ℕ) → bit 0 i ≡ false
no_bits i = ap (λ (n : ℕ). eqb n 1) (bit_at-zero i)

-- What is read of words with one bit more.
read_here : (ws : List ℕ) (w b : ℕ) → w < length ws → bit (get_or (with_bit ws w b) w 0) b ≡ true
read_here ws w b h = ap (λ (x : ℕ). bit x b) (get_or-set_same ws w (bit_or (get_or ws w 0) (2 ^ b)) 0 h) ∙ bit_here (get_or ws w 0) b

read_else : (ws : List ℕ) (w b j i : ℕ) → w < length ws → ((j ≡ w) → (i ≡ b) → ⊥) → bit (get_or (with_bit ws w b) j 0) i ≡ bit (get_or ws j 0) i
read_else ws w b j i h ne =
    ⊎_elim (λ (e : j ≡ w).
    ap (λ (n : ℕ). bit (get_or (with_bit ws w b) n 0) i) e
    ∙ ap (λ (x : ℕ). bit x i) (get_or-set_same ws w (bit_or (get_or ws w 0) (2 ^ b)) 0 h)
    ∙ bit_else (get_or ws w 0) b i (ne e) ∙ ap (λ (n : ℕ). bit (get_or ws n 0) i) (sym e))
    (λ d. ap (λ (x : ℕ). bit x i) (get_or-set_other ws w j (bit_or (get_or ws w 0) (2 ^ b)) 0 (⊎_elim (λ (l : j < w). omega arith) (λ (l : w < j). omega arith) d)))
    (cases_order j w)

module _ (p : Prefix) (ws : List ℕ) (side : Side) (k : ℕ) (v : List Bool) (o : Point (kinds p) k v) (room : suffice p ws ≡ true) where
  abbrev pub word : ℕ
  word = word_of (kinds p) side k v

  abbrev pub after : List ℕ
  after = with_bit ws word (bit_of v)

  inside : word < length ws
  inside = omega (arith, leb-true (word_count (kinds p)) (length ws) room, (own_bits (kinds p)).inside side k v o)

  room_after : suffice p after ≡ true
  room_after = ap (nat_le (word_count (kinds p))) (length-set ws word (bit_or (get_or ws word 0) (2 ^ bit_of v))) ∙ room

  -- The guard at the point is yes, and every other stays.
  pub bit_added : Added (kinds p) (table_guards p ws) side k v (table_guards p after)
  bit_added = record {
    here = ap (λ (b : Bool). b && bit (get_or after word 0) (bit_of v)) room_after ∙ read_here ws word (bit_of v) inside;
    elsewhere = λ s j w q ne.
        ap (λ (b : Bool). b && bit (get_or after (word_of (kinds p) s j w) 0) (bit_of w)) room_after
        ∙ read_else ws word (bit_of v) (word_of (kinds p) s j w) (bit_of w) inside (λ e b. ne ((own_bits (kinds p)).own s side j k w v q o e b))
        ∙ sym (ap (λ (b : Bool). b && bit (get_or ws (word_of (kinds p) s j w) 0) (bit_of w)) room);
  }

-- The bit of a point is within words that suffice.
pub point_inside : (p : Prefix) (ws : List ℕ) (side : Side) (k m : ℕ) → can_add (suffice p ws) p k ≡ true → word_of (kinds p) side k (setting_before p k m) < length ws
point_inside p ws side k m e = inside p ws side k (setting_before p k m) (point_of p k m (and_parts _ _ e).1) (and_parts _ _ e).0

-- So `add` makes one guard yes, where the words suffice and a reply stands.
pub add_fills : (p : Prefix) (ws : List ℕ) (side : Side) (k m : ℕ) → can_add (suffice p ws) p k ≡ true
    → Added (kinds p) (table_guards p ws) side k (setting_before p k m) (table_guards p (words_after_add p ws side k m))
add_fills p ws side k m e =
    let v = setting_before p k m in
    subst (λ (xs : List ℕ). Added (kinds p) (table_guards p ws) side k v (table_guards p xs)) (sym (cond-true _ _ _ e))
    (bit_added p ws side k v (point_of p k m (and_parts _ _ e).1) (and_parts _ _ e).0)

pub add_keeps_room : (p : Prefix) (ws : List ℕ) (side : Side) (k m : ℕ) → suffice p (words_after_add p ws side k m) ≡ suffice p ws
add_keeps_room p ws side k m =
    let v = setting_before p k m in
    let w = word_of (kinds p) side k v in
    cond_both (can_add (suffice p ws) p k) _ _ (λ (xs : List ℕ). suffice p xs ≡ suffice p ws)
    (λ _. ap (nat_le (word_count (kinds p))) (length-set ws w (bit_or (get_or ws w 0) (2 ^ bit_of v))))
    (λ _. refl)

-- Zeros after zeros.
pub zeroed_on : (a m n : ℕ) (ws : List ℕ) → a ≤ length ws → with_zeros (a + m) n (with_zeros a m ws) ≡ with_zeros a (m + n) ws
zeroed_on a m n ws h =
    let front : length (take a ws) ≡ a = length-take-le a ws h in
    let zs = replicate {A = ℕ} m 0 in
    let far = drop (a + m) ws in
    let whole : length (take a ws ++ zs) ≡ a + m = omega (arith, length-append (take a ws) zs, front, length-replicate {A = ℕ} m 0) in
    let same : with_zeros a m ws ≡ (take a ws ++ zs) ++ far = sym (append_assoc (take a ws) zs far) in
    let before : take (a + m) (with_zeros a m ws) ≡ take a ws ++ zs = ap (take (a + m)) same ∙ take_at (take a ws ++ zs) far (a + m) whole in
    let past : drop (a + m + n) (with_zeros a m ws) ≡ drop (a + (m + n)) ws =
    sym (drop-drop n (a + m) (with_zeros a m ws)) ∙ ap (λ l. drop n (drop (a + m) l)) same ∙ ap (drop n) (drop_at (take a ws ++ zs) far (a + m) whole) ∙ drop-drop n (a + m) ws
    ∙ ap (λ (i : ℕ). drop i ws) (let e : a + m + n ≡ a + (m + n) = omega arith in e) in
    ap (λ l. l ++ (replicate n 0 ++ drop (a + m + n) (with_zeros a m ws))) before
    ∙ ap (λ l. (take a ws ++ zs) ++ (replicate n 0 ++ l)) past
    ∙ append_assoc (take a ws) zs (replicate n 0 ++ drop (a + (m + n)) ws)
    ∙ ap (λ l. take a ws ++ l) (sym (append_assoc zs (replicate n 0) (drop (a + (m + n)) ws)) ∙ ap (λ l. l ++ drop (a + (m + n)) ws) (replicate-append-replicate m n 0))

-- Words past the blocks stay.
pub add_keeps_past : (p : Prefix) (ws : List ℕ) (side : Side) (k m : ℕ) → words_past p (words_after_add p ws side k m) ≡ words_past p ws
add_keeps_past p ws side k m =
    let v = setting_before p k m in
    cond_both (can_add (suffice p ws) p k) _ _ (λ (xs : List ℕ). words_past p xs ≡ words_past p ws)
    (λ e. drop-set-lt (word_count (kinds p)) ws (word_of (kinds p) side k v) _ ((own_bits (kinds p)).inside side k v (point_of p k m (and_parts _ _ e).1)))
    (λ _. refl)

pub clear_keeps_past : (p : Prefix) (ws : List ℕ) → words_past p (words_after_clear p ws) ≡ words_past p ws
clear_keeps_past p ws =
    let n = word_count (kinds p) in
    cond_both (suffice p ws) _ _ (λ (xs : List ℕ). words_past p xs ≡ words_past p ws)
    (λ _. drop_at (replicate n 0) (drop (0 + n) ws) n (length-replicate {A = ℕ} n 0) ∙ ap (λ (i : ℕ). drop i ws) (let e : 0 + n ≡ n = omega arith in e))
    (λ _. refl)

-- What `clear` leaves has the same length, and no guard in it is yes.
pub length-zeroed : (n : ℕ) (ws : List ℕ) → n ≤ length ws → length (with_zeros 0 n ws) ≡ length ws
length-zeroed n ws h = omega (arith, length-append (replicate {A = ℕ} n 0) (drop (0 + n) ws), length-replicate {A = ℕ} n 0, length-drop (0 + n) ws)

-- Clearing the blocks of position k after those of the positions before it.
pub zeroed_next : (p : Prefix) (k : ℕ) (ws now : List ℕ) → 1 ≤ k → now ≡ with_zeros 0 (words_before (kinds p) k) ws
    → with_zeros (words_before (kinds p) k) (words_at (kinds p) k) now ≡ with_zeros 0 (words_before (kinds p) (k + 1)) ws
zeroed_next p k ws now h e =
    let wb = words_before (kinds p) k in
    let wa = words_at (kinds p) k in
    let from : wb ≡ 0 + wb = omega arith in
    let next : wb + wa ≡ words_before (kinds p) (k + 1) = omega (arith, sum_next (words_at (kinds p)) k h, ap (sum_to (words_at (kinds p))) (let z : k + 1 - 1 ≡ k = omega arith in z)) in
    ap (with_zeros wb wa) e ∙ ap (λ (a : ℕ). with_zeros a wa (with_zeros 0 wb ws)) from ∙ zeroed_on 0 wb wa ws (omega arith) ∙ ap (λ (n : ℕ). with_zeros 0 n ws) next

-- The blocks of a position are among the words of all.
pub blocks_inside : (p : Prefix) (k : ℕ) → 1 ≤ k → k ≤ p.length → words_before (kinds p) k + words_at (kinds p) k ≤ word_count (kinds p)
blocks_inside p k h l =
    omega (arith, sum_next (words_at (kinds p)) k h, sum_grows (words_at (kinds p)) k (length (kinds p)) (omega (arith, length-kinds p.length p.reports)))

pub clear_keeps_room : (p : Prefix) (ws : List ℕ) → suffice p (words_after_clear p ws) ≡ suffice p ws
clear_keeps_room p ws =
    cond_both (suffice p ws) _ _ (λ (xs : List ℕ). suffice p xs ≡ suffice p ws)
    (λ e. ap (nat_le (word_count (kinds p))) (length-zeroed (word_count (kinds p)) ws (leb-true (word_count (kinds p)) (length ws) e)))
    (λ _. refl)

pub clear_empties : (p : Prefix) (ws : List ℕ) → AllNo (kinds p) (table_guards p (words_after_clear p ws))
clear_empties p ws side k v o =
    let n = word_count (kinds p) in
    let w = word_of (kinds p) side k v in
    cond_both (suffice p ws) _ _ (λ (xs : List ℕ). table_guards p xs side k v ≡ false)
    (λ e.
    let zero-word : get_or (with_zeros 0 n ws) w 0 ≡ 0 = get_or_append_left (replicate n 0) (drop (0 + n) ws) 0 w (omega (arith, length-replicate {A = ℕ} n 0, (own_bits (kinds p)).inside side k v o)) ∙ get_or-replicate n w 0 0 ((own_bits (kinds p)).inside side k v o) in
    and_right (suffice p (with_zeros 0 n ws)) _ (ap (λ (x : ℕ). bit x (bit_of v)) zero-word ∙ no_bits (bit_of v)))
    (λ e. ap (λ (b : Bool). b && bit (get_or ws w 0) (bit_of v)) e)
