-- Groups of seven bits: that each number below 2 ^ 28 has just one form, and which bytes begin with one.
use Rattle.std.proofs.Common.{All, ◌≡◌, ℕ, zero, suc, ◌+◌, ◌-◌, ◌*◌, ◌/◌, ◌%◌, ◌^◌, ◌<◌, ◌≤◌, ◌⊎◌, List, [], ◌∷◌, ◌++◌, length, take, drop, get_or, refl, sym, ap, ◌∙◌, subst, ⊎_elim, inl, inr, arith, length-append}
use Rattle.std.proofs.lemmas.Bool.{cases_lt, cases_order}
use Rattle.std.proofs.lemmas.List.{append_assoc, length_push, take_more, take-append-drop, get_or-take, length-take-le}
use Rattle.std.proofs.lemmas.List.Elements.{All-nil, All-cons, All-push, All-get_or}
use Rattle.std.proofs.lemmas.Nat.{pow-add}
use Rattle.std.proofs.Math.Nat.{pow-suc, mul_left_comm}
use Rattle.std.proofs.Math.ListN.{get_or-append}
use Rattle.std.proofs.Math.Seq.{get_or-append_seam}
use Rattle.book_file.specs.Numbers.{groups, number_bytes, group_value, IsNumber, OneForm, BeginsWith, NoNumber}

-- A group that others follow.
abbrev pub Marked : ℕ → Type 0
Marked b = (128 ≤ b) × (b < 256)

groups_one : (more n : ℕ) → n < 128 → groups more n ≡ n ∷ []
groups_one zero n h = refl
groups_one (suc more) n h = grind arith

pub groups_more : (more n : ℕ) → 128 ≤ n → groups (suc more) n ≡ (128 + n % 128) ∷ groups more (n / 128)
groups_more more n h = grind arith

-- A last group that is not 0 makes the value positive.
value_positive : (marked : List ℕ) (last : ℕ) → last < 128 → 0 < last → 0 < group_value (marked ++ last ∷ [])
value_positive [] last h k = omega arith
value_positive (b ∷ marked) last h k = omega (arith, value_positive marked last h k)

module _ (last : ℕ) (h : last < 128) where
  -- Groups in the shortest form are those of their value.
  grouped : (marked : List ℕ) (more : ℕ) → All Marked marked → length marked ≤ more → (last ≡ 0 → marked ≡ []) → groups more (group_value (marked ++ last ∷ [])) ≡ marked ++ last ∷ []
  grouped [] more all few short =
      let same : last % 128 + 128 * 0 ≡ last = omega arith in
      ap (groups more) same ∙ groups_one more last h
  grouped (b ∷ marked) zero all few short = absurd (omega arith)
  grouped (b ∷ marked) (suc more) all few short =
      let m = All-get_or Marked (b ∷ marked) 0 0 (omega arith) all in
      let some : 0 < last = ⊎_elim (λ (z : last ≡ 0). absurd (cons_not_nil b marked (short z))) (λ (p : 0 < last). p) (zero_or last) in
      let v = group_value (marked ++ last ∷ []) in
      let v_some : 0 < v = value_positive marked last h some in
      let low : (b % 128 + 128 * v) % 128 ≡ b % 128 = omega arith in
      let high : (b % 128 + 128 * v) / 128 ≡ v = omega arith in
      let byte : 128 + (b % 128 + 128 * v) % 128 ≡ b = omega arith in
      let rest = grouped marked more (λ i d l. All-get_or Marked (b ∷ marked) (suc i) d (omega arith) all) (omega arith) (λ z. absurd (omega arith)) in
      groups_more more (b % 128 + 128 * v) (omega arith)
      ∙ ap (λ (x : ℕ). x ∷ groups more ((b % 128 + 128 * v) / 128)) byte
      ∙ ap (λ (x : ℕ). b ∷ groups more x) high
      ∙ ap (λ (xs : List ℕ). b ∷ xs) rest
    where
      cons_not_nil : (x : ℕ) (xs : List ℕ) → x ∷ xs ≡ [] → ⊥
      cons_not_nil x xs e = let n : suc (length xs) ≡ 0 = ap length e in absurd (omega arith)

      zero_or : (n : ℕ) → (n ≡ 0) ⊎ (0 < n)
      zero_or n = ⊎_elim (λ (l : n < 1). inl (omega arith)) (λ (l : 1 ≤ n). inr l) (cases_lt n 1)

  value_below : (marked : List ℕ) → group_value (marked ++ last ∷ []) < 128 ^ suc (length marked)
  value_below [] = omega arith
  value_below (b ∷ marked) = let e = pow-suc 128 (suc (length marked)) in omega (arith, e, value_below marked)

-- The groups of a number, as a form of it.
pub record Formed (more n : ℕ) : Type 0 where
  pub marked : List ℕ
  pub last : ℕ
  pub parts : groups more n ≡ marked ++ last ∷ []
  pub few : length marked ≤ more
  pub each : All Marked marked
  pub ends : last < 128
  pub some : 0 < n → 0 < last
  pub single : n < 128 → marked ≡ []
  pub value : group_value (groups more n) ≡ n

formed_one : (more n : ℕ) → n < 128 → Formed more n
formed_one more n h = record {
  marked = [];
  last = n;
  parts = groups_one more n h;
  few = omega arith;
  each = All-nil Marked;
  ends = h;
  some = λ k. k;
  single = λ k. refl;
  value = ap group_value (groups_one more n h) ∙ (let e : n % 128 + 128 * 0 ≡ n = omega arith in e);
}

formed_more : (more n : ℕ) → 128 ≤ n → Formed more (n / 128) → Formed (suc more) n
formed_more more n l f = record {
  marked = (128 + n % 128) ∷ f.marked;
  last = f.last;
  parts = groups_more more n l ∙ ap (λ (xs : List ℕ). (128 + n % 128) ∷ xs) f.parts;
  few = omega (arith, f.few);
  each = All-cons Marked (128 + n % 128) f.marked (omega arith, omega arith) f.each;
  ends = f.ends;
  some = λ k. f.some (omega arith);
  single = λ k. absurd (omega arith);
  value = ap group_value (groups_more more n l) ∙ (let v = f.value in let w : (128 + n % 128) % 128 + 128 * group_value (groups more (n / 128)) ≡ n = omega (arith, v) in w);
}

pub formed : (more n : ℕ) → n < 128 ^ suc more → Formed more n
formed zero n h = formed_one zero n (omega arith)
formed (suc more) n h =
    let e = pow-suc 128 (suc more) in
    ⊎_elim (λ (l : n < 128). formed_one (suc more) n l) (λ (l : 128 ≤ n). formed_more more n l (formed more (n / 128) (omega (arith, h, e)))) (cases_lt n 128)

-- Each number below 2 ^ 28 has just one form.
pub one_form : OneForm
unfolding number_bytes
one_form n bytes = (to, from)
  where
    to : IsNumber n bytes → (n < 2 ^ 28) × (bytes ≡ number_bytes n)
    to f =
        let same = grouped f.last f.ends f.marked 3 f.each f.few f.shortest in
        let v : group_value (f.marked ++ f.last ∷ []) ≡ n = ap group_value (sym f.parts) ∙ f.value in
        (small (length f.marked) f.few (subst (λ (x : ℕ). x < 128 ^ suc (length f.marked)) v (value_below f.last f.ends f.marked)), f.parts ∙ sym same ∙ ap (groups 3) v)
      where
        small : (k : ℕ) → k ≤ 3 → n < 128 ^ suc k → n < 2 ^ 28
        small zero l h = omega arith
        small (suc zero) l h = omega arith
        small (suc (suc zero)) l h = omega arith
        small (suc (suc (suc zero))) l h = omega arith
        small (suc (suc (suc (suc k)))) l h = absurd (omega arith)

    from : (n < 2 ^ 28) × (bytes ≡ number_bytes n) → IsNumber n bytes
    from h =
        let f = formed 3 n h.0 in
        record {
          marked = f.marked;
          last = f.last;
          parts = h.1 ∙ f.parts;
          few = f.few;
          each = f.each;
          ends = f.ends;
          shortest = λ z. f.single (⊎_elim (λ (l : n < 128). l) (λ (l : 128 ≤ n). absurd (omega (arith, f.some (omega arith)))) (cases_lt n 128));
          value = ap group_value h.1 ∙ f.value;
        }

-- Bytes that begin with a number: its groups up to the last one are marked, and the last one is not.
module _ (n : ℕ) (rest bytes : List ℕ) (small : n < 2 ^ 28) (e : bytes ≡ number_bytes n ++ rest) where
  pub form : IsNumber n (number_bytes n)
  form = (one_form n (number_bytes n)).1 (small, refl)

  parts : bytes ≡ form.marked ++ form.last ∷ rest
  parts = e ∙ ap (λ (xs : List ℕ). xs ++ rest) form.parts ∙ append_assoc form.marked (form.last ∷ []) rest

  pub last_at : (d : ℕ) → get_or bytes (length form.marked) d ≡ form.last
  last_at d = ap (λ (xs : List ℕ). get_or xs (length form.marked) d) parts ∙ get_or-append_seam form.marked form.last rest d

  pub marked_at : (j d : ℕ) → j < length form.marked → 128 ≤ get_or bytes j d
  marked_at j d l =
      let m = All-get_or Marked form.marked j d l form.each in
      let at = ap (λ (xs : List ℕ). get_or xs j d) parts ∙ get_or-append form.marked (form.last ∷ rest) d j l in
      omega (arith, m.0, at)

  inside : length form.marked < length bytes
  inside = omega (arith, ap length parts, length-append form.marked (form.last ∷ rest))

-- No number where the first byte that is not marked is 0 and not the first of all.
pub zero_last : (bytes : List ℕ) (i : ℕ) → ((j : ℕ) → j < i → 128 ≤ get_or bytes j 0) → get_or bytes i 0 ≡ 0 → 0 < i → NoNumber bytes
zero_last bytes i marked zero_at some n rest small e =
    let f = form n rest bytes small e in
    let k = length f.marked in
    ⊎_elim
    (λ (same : k ≡ i). absurd (omega (arith, ap length (f.shortest (sym (last_at n rest bytes small e 0) ∙ ap (λ (x : ℕ). get_or bytes x 0) same ∙ zero_at)))))
    (⊎_elim
    (λ (l : k < i). absurd (omega (arith, marked k l, last_at n rest bytes small e 0, f.ends)))
    (λ (l : i < k). absurd (omega (arith, marked_at n rest bytes small e i 0 l, zero_at))))
    (cases_order k i)

-- No number where the first bytes, four or all that there are, are marked.
pub all_marked : (bytes : List ℕ) (i : ℕ) → ((j : ℕ) → j < i → 128 ≤ get_or bytes j 0) → (length bytes ≤ i) ⊎ (4 ≤ i) → NoNumber bytes
all_marked bytes i marked end n rest small e =
    let f = form n rest bytes small e in
    let k = length f.marked in
    let l : k < i = ⊎_elim (λ (h : length bytes ≤ i). omega (arith, inside n rest bytes small e)) (λ (h : 4 ≤ i). omega (arith, f.few)) end in
    absurd (omega (arith, marked k l, last_at n rest bytes small e 0, f.ends))

-- One group of seven bits is written, of a number that has more.
pub record GroupsSoFar (gs : List ℕ) (rest n : ℕ) : Type 0 where
  pub few : length gs ≤ 3
  pub small : rest < 128 ^ (4 - length gs)
  pub all : gs ++ groups (3 - length gs) rest ≡ number_bytes n

pub none_so_far : (gs : List ℕ) (n : ℕ) → gs ≡ [] → n < 2 ^ 28 → GroupsSoFar gs n n
unfolding number_bytes
none_so_far gs n e h = subst (λ (xs : List ℕ). GroupsSoFar xs n n) (sym e) (record { few = omega arith; small = omega arith; all = refl })

more_left : (k rest : ℕ) → k ≤ 3 → 128 ≤ rest → rest < 128 ^ (4 - k) → (m : ℕ) × (3 - k ≡ suc m) × (3 - (k + 1) ≡ m) × (k + 1 ≤ 3) × (rest / 128 < 128 ^ (4 - (k + 1)))
more_left zero rest l h s = (2, refl, refl, omega arith, omega arith)
more_left (suc zero) rest l h s = (1, refl, refl, omega arith, omega arith)
more_left (suc (suc zero)) rest l h s = (0, refl, refl, omega arith, omega arith)
more_left (suc (suc (suc zero))) rest l h s = absurd (omega arith)
more_left (suc (suc (suc (suc k)))) rest l h s = absurd (omega arith)

pub group_pushed : (gs hs : List ℕ) (b rest n : ℕ) → hs ≡ gs ++ b ∷ [] → b ≡ 128 + rest % 128 → 128 ≤ rest → GroupsSoFar gs rest n → GroupsSoFar hs (rest / 128) n
group_pushed gs hs b rest n e at l f =
    let k = length gs in
    let m = more_left k rest f.few l f.small in
    let long : k + 1 ≡ length hs = sym (length_push gs b) ∙ ap length (sym e) in
    record {
      few = omega (arith, m.3, long);
      small = subst (λ (x : ℕ). rest / 128 < 128 ^ (4 - x)) long m.4;
      all = ap (λ (x : ℕ). hs ++ groups (3 - x) (rest / 128)) (sym long)
          ∙ ap (λ (x : ℕ). hs ++ groups x (rest / 128)) m.2
          ∙ ap (λ (xs : List ℕ). xs ++ groups m.0 (rest / 128)) (e ∙ ap (λ (x : ℕ). gs ++ x ∷ []) at)
          ∙ append_assoc gs ((128 + rest % 128) ∷ []) (groups m.0 (rest / 128))
          ∙ ap (λ (xs : List ℕ). gs ++ xs) (sym (groups_more m.0 rest l))
          ∙ ap (λ (x : ℕ). gs ++ groups x rest) (sym m.1)
          ∙ f.all;
    }

pub last_pushed : (gs hs : List ℕ) (rest n : ℕ) → hs ≡ gs ++ rest ∷ [] → rest < 128 → GroupsSoFar gs rest n → hs ≡ number_bytes n
last_pushed gs hs rest n e l f = e ∙ ap (λ (xs : List ℕ). gs ++ xs) (sym (groups_one (3 - length gs) rest l)) ∙ f.all

-- One group more at the end of some.
value_push : (bs : List ℕ) (b : ℕ) → group_value (bs ++ b ∷ []) ≡ group_value bs + b % 128 * 2 ^ (7 * length bs)
value_push [] b = omega arith
value_push (x ∷ bs) b =
    let k = length bs in
    let n : 7 * suc k ≡ 7 + 7 * k = omega arith in
    let weight : 2 ^ (7 * suc k) ≡ 128 * 2 ^ (7 * k) = ap (λ (y : ℕ). 2 ^ y) n ∙ pow-add 2 7 (7 * k) in
    let moved : b % 128 * 2 ^ (7 * suc k) ≡ 128 * (b % 128 * 2 ^ (7 * k)) = ap (λ (y : ℕ). b % 128 * y) weight ∙ mul_left_comm (b % 128) 128 (2 ^ (7 * k)) in
    omega (arith, value_push bs b, moved)

-- What four groups at most come to.
shift_fits : (b i v : ℕ) → i ≤ 3 → v < 2 ^ (7 * i) → (b % 128 * 2 ^ (7 * i) % 4294967296 ≡ b % 128 * 2 ^ (7 * i)) × (v + b % 128 * 2 ^ (7 * i) < 2 ^ (7 * (i + 1))) × (v + b % 128 * 2 ^ (7 * i) < 2 ^ 28)
shift_fits b zero v l h = (omega arith, omega arith, omega arith)
shift_fits b (suc zero) v l h = (omega arith, omega arith, omega arith)
shift_fits b (suc (suc zero)) v l h = (omega arith, omega arith, omega arith)
shift_fits b (suc (suc (suc zero))) v l h = (omega arith, omega arith, omega arith)
shift_fits b (suc (suc (suc (suc i)))) v l h = absurd (omega arith)

-- The first i bytes are marked groups, of value v.
pub record GroupsRead (bytes : List ℕ) (i v : ℕ) : Type 0 where
  pub each : All Marked (take i bytes)
  pub value : group_value (take i bytes) ≡ v
  pub small : v < 2 ^ (7 * i)

pub none_read : (bytes : List ℕ) → GroupsRead bytes 0 0
none_read bytes = record { each = All-nil Marked; value = refl; small = omega arith }

pub marked_before : (bytes : List ℕ) (i v : ℕ) → GroupsRead bytes i v → i ≤ length bytes → (j : ℕ) → j < i → 128 ≤ get_or bytes j 0
marked_before bytes i v r l j h =
    let m = All-get_or Marked (take i bytes) j 0 (omega (arith, length-take-le i bytes l)) r.each in
    omega (arith, m.0, get_or-take i bytes j 0 h)

module _ (bytes : List ℕ) (i v : ℕ) (r : GroupsRead bytes i v) (l : i < length bytes) where
  module _ (w : ℕ) (few : i ≤ 3) (is : w ≡ v + get_or bytes i 0 % 128 * 2 ^ (7 * i) % 4294967296) where
    fits : (get_or bytes i 0 % 128 * 2 ^ (7 * i) % 4294967296 ≡ get_or bytes i 0 % 128 * 2 ^ (7 * i)) × (v + get_or bytes i 0 % 128 * 2 ^ (7 * i) < 2 ^ (7 * (i + 1))) × (v + get_or bytes i 0 % 128 * 2 ^ (7 * i) < 2 ^ 28)
    fits = shift_fits (get_or bytes i 0) i v few r.small

    whole : w ≡ v + get_or bytes i 0 % 128 * 2 ^ (7 * i)
    whole = is ∙ ap (λ (x : ℕ). v + x) fits.0

    value_next : group_value (take i bytes ++ get_or bytes i 0 ∷ []) ≡ w
    value_next =
        value_push (take i bytes) (get_or bytes i 0)
        ∙ ap (λ (k : ℕ). group_value (take i bytes) + get_or bytes i 0 % 128 * 2 ^ (7 * k)) (length-take-le i bytes (omega arith))
        ∙ ap (λ (x : ℕ). x + get_or bytes i 0 % 128 * 2 ^ (7 * i)) r.value
        ∙ sym whole

    -- The value stays within 28 bits.
    pub group_fits : w < 2 ^ 28
    group_fits = omega (arith, whole, fits.2)

    -- One group more that is marked.
    pub marked_more : 128 ≤ get_or bytes i 0 → get_or bytes i 0 < 256 → GroupsRead bytes (i + 1) w
    marked_more h k =
        let e = take_more bytes i 0 l in
        record {
          each = subst (All Marked) (sym e) (All-push Marked (take i bytes) (get_or bytes i 0) r.each (h, k));
          value = ap group_value e ∙ value_next;
          small = omega (arith, whole, fits.1);
        }

    -- A group that is not ends a number.
    pub number_ends : get_or bytes i 0 < 128 → (get_or bytes i 0 ≡ 0 → i ≡ 0) → BeginsWith w (i + 1) bytes
    unfolding number_bytes
    number_ends h first =
        let long : length (take i bytes) ≡ i = length-take-le i bytes (omega arith) in
        let none : i ≡ 0 → take i bytes ≡ [] = λ z. ap (λ (k : ℕ). take k bytes) z in
        let same : groups 3 w ≡ take i bytes ++ get_or bytes i 0 ∷ [] =
        ap (groups 3) (sym value_next) ∙ grouped (get_or bytes i 0) h (take i bytes) 3 r.each (omega (arith, long)) (λ z. none (first z)) in
        let front : number_bytes w ≡ take (i + 1) bytes = same ∙ sym (take_more bytes i 0 l) in
        record {
          small = group_fits;
          size = omega (arith, ap length same, length_push (take i bytes) (get_or bytes i 0), long);
          parts = sym (take-append-drop (i + 1) bytes) ∙ ap (λ (xs : List ℕ). xs ++ drop (i + 1) bytes) (sym front);
        }
