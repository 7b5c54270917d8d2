-- What a reader knows of the variables that quantifier lines have named.
use Rattle.std.proofs.lemmas.Bool.Decides.{nat_tests}
use Rattle.std.proofs.Common.{All, ◌≡◌, ℕ, zero, suc, ◌+◌, ◌-◌, ◌*◌, ◌/◌, ◌^◌, ◌<◌, ◌≤◌, true, false, cond, eqb, List, [], ◌∷◌, ◌++◌, map, length, get_or, set, Some, None, Option, sym, refl, ap, ◌∙◌, subst, ⊎_elim, one-mul, pow-suc, add-one, arith}
use lib.Bits.{bit_or, or_shifted_r}
use lib.Count.{ones}
use Rattle.std.proofs.lemmas.Nat.{div-mul-add, mod-mul-add}
use Rattle.std.proofs.lemmas.List.{length_push, map_push, get_or-set_same, get_or-set_other}
use Rattle.std.proofs.lemmas.Bool.{cond-true, cond-false, cases_eq, cases_Bool, eq-eqb, ne_eqb, eqb-false}
use Rattle.std.proofs.lemmas.List.Elements.{All-push}
use Rattle.prefix.proofs.Masks.{bits_push, bits_same, bit_past, bit_mod_in}
use Rattle.prefix.proofs.Positions.{count-whole}
use Rattle.prefix.specs.Bits.{odd, bit, bits}
use Rattle.prefix.specs.Kinds.{report_count}
use Rattle.prefix.specs.Prefixes.{kind_of, kinds_of}
use Rattle.prefix.specs.declared.kind.Kind.{Kind}
use Rattle.prefix.specs.declared.kind.Kind.TheVariants.{Report, Reply}
use Rattle.sheet_text.specs.Grammar.{Variable, variable, one_more, position_in, Once, Ranges}
use Rattle.sheet_text.specs.Keeping.{position_at}
use Rattle.sheet_text.specs.Machine.{position_of, in_mode, in_section, reports_with, naming, ruled}
use Rattle.sheet_text.specs.declared.state.Mode.{Mode}
use Rattle.sheet_text.specs.declared.state.State.{State}
use Rattle.sheet_text.specs.declared.state.Section.{Section}
use Rattle.sheet_text.specs.declared.variable.Variable as Record

one_more_zero : (k : ℕ) → one_more k ≡ 0 → k ≡ 0
one_more_zero zero e = refl
one_more_zero (suc k) e = absurd (omega arith)

-- A variable that has no position is not the first, and has none after it.
pub absent_parts : (q : Variable) (qs : List Variable) (v : ℕ) → position_in (q ∷ qs) v ≡ 0 → (v ≡ q.name → ⊥) × (position_in qs v ≡ 0)
absent_parts q qs v e =
    ⊎_elim (λ (t : eqb v q.name ≡ true). absurd (one_not (cond-true (eqb v q.name) 1 (one_more (position_in qs v)) t) e))
    (λ (f : eqb v q.name ≡ false). (eqb-false v q.name f, one_more_zero (position_in qs v) (sym (cond-false (eqb v q.name) 1 (one_more (position_in qs v)) f) ∙ e)))
    (cases_Bool (eqb v q.name))
  where
    one_not : {n : ℕ} → n ≡ 1 → n ≡ 0 → ⊥
    one_not a b = omega arith

pub position_after : (q : Variable) (qs : List Variable) (v : ℕ) → (v ≡ q.name → ⊥) → position_in (q ∷ qs) v ≡ one_more (position_in qs v)
position_after q qs v ne = grind (arith, nat_tests)

-- Positions in the order of naming, once a variable more is named.
position_here : (qs : List Variable) (v : ℕ) (k : Kind) → position_in qs v ≡ 0 → position_in (qs ++ variable k v ∷ []) v ≡ suc (length qs)
position_here [] v k e = cond-true _ _ _ (eq-eqb v v refl)
position_here (q ∷ qs) v k e =
    let apart = absent_parts q qs v e in
    position_after q (qs ++ variable k v ∷ []) v apart.0 ∙ ap one_more (position_here qs v k apart.1)

position_else : (qs : List Variable) (v x : ℕ) (k : Kind) → (x ≡ v → ⊥) → position_in (qs ++ variable k v ∷ []) x ≡ position_in qs x
position_else [] v x k ne = cond-false _ _ _ (ne_eqb x v ne)
position_else (q ∷ qs) v x k ne = ap (λ (p : ℕ). cond (eqb x q.name) 1 (one_more p)) (position_else qs v x k ne)

once_push : (qs : List Variable) (v : ℕ) (k : Kind) → Once qs → position_in qs v ≡ 0 → Once (qs ++ variable k v ∷ [])
once_push [] v k o e = (refl, tt)
once_push (q ∷ qs) v k o e =
    let apart = absent_parts q qs v e in
    (position_else qs v q.name k (λ z. apart.0 (sym z)) ∙ o.0, once_push qs v k o.1 apart.1)

-- A variable in an order is not absent from it.
not_absent : (qs : List Variable) (v : ℕ) (k : Kind) (rest : List Variable) (x : ℕ) → position_in (qs ++ variable k v ∷ rest) x ≡ 0 → x ≡ v → ⊥
not_absent [] v k rest x e z = (absent_parts (variable k v) rest x e).0 z
not_absent (q ∷ qs) v k rest x e z = not_absent qs v k rest x (absent_parts q (qs ++ variable k v ∷ rest) x e).1 z

-- In an order without repetition a variable that comes later is not named before.
pub once_later : (qs : List Variable) (v : ℕ) (k : Kind) (rest : List Variable) → Once (qs ++ variable k v ∷ rest) → position_in qs v ≡ 0
once_later [] v k rest o = refl
once_later (q ∷ qs) v k rest o =
    position_after q qs v (λ z. not_absent qs v k rest q.name o.0 (sym z)) ∙ ap one_more (once_later qs v k rest o.1)

-- The kinds of a mask, one position more.
kinds-bits : (n m : ℕ) → kinds_of n m ≡ map kind_of (bits n m)
kinds-bits zero m = refl
kinds-bits (suc n) m = ap (λ ks. kind_of (odd m) ∷ ks) (kinds-bits n (m / 2))

kinds_push : (n m m' : ℕ) (k : Kind) → ((i : ℕ) → i < n → bit m' i ≡ bit m i) → kind_of (bit m' n) ≡ k → kinds_of (suc n) m' ≡ kinds_of n m ++ k ∷ []
kinds_push n m m' k same at =
    kinds-bits (suc n) m' ∙ ap (map kind_of) (bits_push n m') ∙ map_push kind_of (bits n m') (bit m' n)
    ∙ (λ i. map kind_of (bits_same n m' m same i) ++ at i ∷ []) ∙ ap (λ ks. ks ++ k ∷ []) (sym (kinds-bits n m))

-- The mask with the next position on, or off.
set_is : (n m : ℕ) → m < 2 ^ n → bit_or m (2 ^ n) ≡ 1 * 2 ^ n + m
set_is n m h = ap (bit_or m) (sym (one-mul (2 ^ n))) ∙ or_shifted_r 1 n m h

kinds_report : (n m : ℕ) → m < 2 ^ n → kinds_of (suc n) (bit_or m (2 ^ n)) ≡ kinds_of n m ++ Report ∷ []
kinds_report n m h =
    let is = set_is n m h in
    kinds_push n m (bit_or m (2 ^ n)) Report
    (λ i l. ap (λ (x : ℕ). bit x i) is ∙ sym (bit_mod_in (1 * 2 ^ n + m) n i l) ∙ ap (λ (x : ℕ). bit x i) (mod-mul-add 1 (2 ^ n) m h))
    (ap (λ (x : ℕ). kind_of (bit x n)) is ∙ ap (λ (x : ℕ). kind_of (odd x)) (div-mul-add 1 (2 ^ n) m h))

kinds_reply : (n m : ℕ) → m < 2 ^ n → kinds_of (suc n) m ≡ kinds_of n m ++ Reply ∷ []
kinds_reply n m h = kinds_push n m m Reply (λ i _. refl) (ap kind_of (bit_past m n n h (omega arith)))

-- The mask of reports after a variable of kind k more.
kinds-more : (n m d : ℕ) (k : Kind) → m < 2 ^ n → d ≡ n → kinds_of (suc n) (reports_with m k (d + 1)) ≡ kinds_of n m ++ k ∷ []
kinds-more n m d Report h e = let same : d + 1 - 1 ≡ n = omega arith in ap (λ (j : ℕ). kinds_of (suc n) (bit_or m (2 ^ j))) same ∙ kinds_report n m h
kinds-more n m d Reply h e = kinds_reply n m h

mask_more : (n m d : ℕ) (k : Kind) → m < 2 ^ n → d ≡ n → reports_with m k (d + 1) < 2 ^ suc n
mask_more n m d Report h e =
    let same : d + 1 - 1 ≡ n = omega arith in
    subst (λ (j : ℕ). bit_or m (2 ^ j) < 2 ^ suc n) (sym same) (omega (arith, set_is n m h, pow-suc 2 n, one-mul (2 ^ n)))
mask_more n m d Reply h e = omega (arith, pow-suc 2 n)

-- The variable's number is from 1 to n.
abbrev pub Ranged : ℕ → Variable → Type 0
Ranged n q = Ranges n q.name

-- What a reader knows: the positions, kinds and number of the variables named, all different and within the header's number.
pub record Knows (m : State) (qs : List Variable) : Type 0 where
  pub positions : (i : ℕ) → position_at m i ≡ position_in qs (suc i)
  pub count : m.named ≡ length qs
  pub kinds : kinds_of (length qs) m.reports ≡ map (λ q. q.kind) qs
  pub mask : m.reports < 2 ^ length qs
  pub range : All (Ranged m.length) qs
  pub once : Once qs

pub knows_none : (m : State) → m.named ≡ 0 → m.reports ≡ 0 → ((i : ℕ) → position_at m i ≡ 0) → Knows m []
knows_none m e r p = grind (arith, nat_tests)

-- What else the reader waits for, and which rule it is in, changes nothing of that.
pub knows_mode : (m : State) (o : Mode) (qs : List Variable) → Knows m qs → Knows (in_mode o m) qs
knows_mode m o qs h = grind (arith, nat_tests)

pub knows_section : (m : State) (s : Section) (qs : List Variable) → Knows m qs → Knows (in_section s m) qs
knows_section m s qs h = grind (arith, nat_tests)

pub knows_ruled : (m : State) (qs : List Variable) → Knows m qs → Knows (ruled m) qs
knows_ruled m qs h = grind (arith, nat_tests)

pub knows_more : (m : State) (qs : List Variable) (k : Kind) (v : ℕ) → Knows m qs → length m.variables ≡ 24 → m.length ≤ 24
    → Ranges m.length v → position_at m (v - 1) ≡ 0 → Knows (naming m k v) (qs ++ variable k v ∷ [])
knows_more m qs k v h all short range free =
    let i = v - 1 in
    let at : suc i ≡ v = omega (arith, range.0) in
    let inside : i < length m.variables = omega (arith, range.1) in
    let x : Option Record.Variable = Some (record { kind = k; position = m.named + 1 }) in
    let absent : position_in qs v ≡ 0 = ap (position_in qs) (sym at) ∙ sym (h.positions i) ∙ free in
    let long : length (qs ++ variable k v ∷ []) ≡ suc (length qs) = length_push qs (variable k v) ∙ add-one (length qs) in
    record {
      positions = λ j. ⊎_elim
          (λ (same : j ≡ i).
          ap position_of (ap (λ (j : ℕ). get_or (set m.variables i x) j None) same ∙ get_or-set_same m.variables i x None inside)
          ∙ (let e : m.named + 1 ≡ suc (length qs) = omega (arith, h.count) in e) ∙ sym (ap (λ (y : ℕ). position_in (qs ++ variable k v ∷ []) y) (ap suc same ∙ at) ∙ position_here qs v k absent))
          (λ (ne : j ≡ i → ⊥).
          ap position_of (get_or-set_other m.variables i j x None ne) ∙ h.positions j ∙ sym (position_else qs v (suc j) k (λ z. omega (arith, ne (omega arith)))))
          (cases_eq j i);
      count = omega (arith, h.count, long);
      kinds = ap (λ (n : ℕ). kinds_of n (reports_with m.reports k (m.named + 1))) long ∙ kinds-more (length qs) m.reports m.named k h.mask h.count
          ∙ ap (λ ks. ks ++ k ∷ []) h.kinds ∙ sym (map_push (λ q. q.kind) qs (variable k v));
      mask = subst (λ (n : ℕ). reports_with m.reports k (m.named + 1) < 2 ^ n) (sym long) (mask_more (length qs) m.reports m.named k h.mask h.count);
      range = All-push (Ranged m.length) qs (variable k v) h.range range;
      once = once_push qs v k h.once absent;
    }

-- The reports so far, as the mask counts them.
pub knows_reports : (m : State) (qs : List Variable) → Knows m qs → ones m.reports ≡ report_count (map (λ q. q.kind) qs)
knows_reports m qs h = sym (count-whole (length qs) m.reports h.mask) ∙ ap report_count h.kinds

-- What stands in no order stands in no front of it.
pub absent_front : (xs ys : List Variable) (v : ℕ) → position_in (xs ++ ys) v ≡ 0 → position_in xs v ≡ 0
absent_front [] ys v e = refl
absent_front (x ∷ xs) ys v e =
    let apart = absent_parts x (xs ++ ys) v e in
    position_after x xs v apart.0 ∙ ap one_more (absent_front xs ys v apart.1)

pub once_front : (xs ys : List Variable) → Once (xs ++ ys) → Once xs
once_front [] ys o = tt
once_front (x ∷ xs) ys o = (absent_front xs ys x.name o.0, once_front xs ys o.1)
