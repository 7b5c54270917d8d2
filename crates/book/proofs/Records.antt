-- Records of which no two are of one point: what is found in them, and what turning one and appending one make of them.
use Rattle.std.proofs.Common.{◌≡◌, ℕ, ◌+◌, ◌≤◌, ◌<◌, Bool, true, false, cond, ◌&&◌, eqb, List, length, get_or, set, take, map, sym, ap, ◌∙◌, ⊎_elim, arith}
use Rattle.std.specs.List.{list_any}
use Rattle.std.proofs.lemmas.Bool.{cases_eq, cases_order, cases_Bool, and_parts, and_from, eqb-true, eq-eqb, cond-true, cond-false}
use Rattle.std.proofs.lemmas.List.{get_or-take, get_or-map, get_or-set_same, get_or-set_other, length-take-le, length-set, length-map, same_lists, take_more_set}
use Rattle.std.proofs.Math.Seq.{take-set-lt}
use Rattle.std.proofs.lemmas.List.Elements.{All-from_get_or}
use Rattle.std.proofs.lemmas.List.Folds.{list_any_none, list_any_at}
use Rattle.book.specs.declared.record.Record.{Record}
use Rattle.book.specs.declared.side.Side.{Side}
use Rattle.book.specs.Records.{is_of, says, turned, first_record, with_guard, Apart}

pub is_of_tells : (k s : ℕ) (r : Record) → is_of k s r ≡ true → (r.position ≡ k) × (r.setting ≡ s)
is_of_tells k s r h = let both = and_parts (eqb r.position k) (eqb r.setting s) h in (eqb-true _ _ both.0, eqb-true _ _ both.1)

pub is_of_from : (k s : ℕ) (r : Record) → r.position ≡ k → r.setting ≡ s → is_of k s r ≡ true
is_of_from k s r e f = and_from (eqb r.position k) (eqb r.setting s) (eq-eqb _ _ e) (eq-eqb _ _ f)

-- A record of another point than that of `a` is not of a's point.
not_of : (k s : ℕ) (a b : Record) → is_of k s a ≡ true → Apart a b → is_of k s b ≡ false
not_of k s a b h apart =
    ⊎_elim (λ e. let here = is_of_tells k s a h in let there = is_of_tells k s b e in absurd (apart (here.0 ∙ sym there.0) (here.1 ∙ sym there.1))) (λ e. e) (cases_Bool (is_of k s b))

-- A test that all elements but one fail answers as that one does.
list_any_one : {X : Type 0} (p : X → Bool) (xs : List X) (i : ℕ) (d : X) → i < length xs → ((j : ℕ) → j < length xs → (j ≡ i → ⊥) → p (get_or xs j d) ≡ false) → list_any p xs ≡ p (get_or xs i d)
list_any_one p xs i d h others =
    ⊎_elim (λ e. list_any_at p xs i d h e ∙ sym e)
    (λ e. list_any_none p xs (All-from_get_or (λ x. p x ≡ false) xs d (λ j l. ⊎_elim (λ (t : j ≡ i). ap (λ (n : ℕ). p (get_or xs n d)) t ∙ e) (λ t. others j l t) (cases_eq j i))) ∙ sym e)
    (cases_Bool (p (get_or xs i d)))

-- A function that changes one element only.
map_one : {X : Type 0} (f : X → X) (xs : List X) (i : ℕ) (d : X) → i < length xs → ((j : ℕ) (e : X) → j < length xs → (j ≡ i → ⊥) → f (get_or xs j e) ≡ get_or xs j e) → set xs i (f (get_or xs i d)) ≡ map f xs
map_one f xs i d h others =
    same_lists (set xs i (f (get_or xs i d))) (map f xs) (length-set xs i (f (get_or xs i d)) ∙ sym (length-map xs f)) each
  where
    each : (j : ℕ) (e : _) → j < length (set xs i (f (get_or xs i d))) → get_or (set xs i (f (get_or xs i d))) j e ≡ get_or (map f xs) j e
    each j e l =
        let in_list : j < length xs = omega (arith, l, length-set xs i (f (get_or xs i d))) in
        ⊎_elim (λ (t : j ≡ i). ap (λ (n : ℕ). get_or (set xs i (f (get_or xs i d))) n e) t ∙ get_or-set_same xs i (f (get_or xs i d)) e h ∙ ap (λ (n : ℕ). f (get_or xs n d)) (sym t) ∙ sym (get_or-map f xs j d e in_list))
        (λ t. get_or-set_other xs i j (f (get_or xs i d)) e t ∙ sym (others j e in_list t) ∙ sym (get_or-map f xs j e e in_list))
        (cases_eq j i)

module _ (memory : List Record) (n : ℕ) (within : n ≤ length memory) (k s : ℕ) where
  abbrev records : List Record
  records = take n memory

  length-records : length records ≡ n
  length-records = length-take-le n memory within

  module _ (apart : (i j : ℕ) (d : Record) → i < j → j < n → Apart (get_or memory i d) (get_or memory j d)) (i : ℕ) (inside : i < n) (here : (d : Record) → is_of k s (get_or memory i d) ≡ true) where
    -- No other record is of the point.
    only_here : (j : ℕ) (d : Record) → j < n → (j ≡ i → ⊥) → is_of k s (get_or memory j d) ≡ false
    only_here j d h ne =
        ⊎_elim (λ (e : j ≡ i). absurd (ne e))
        (⊎_elim (λ (l : j < i). not_of k s (get_or memory i d) (get_or memory j d) (here d) (λ a b. apart j i d l inside (sym a) (sym b)))
        (λ (l : i < j). not_of k s (get_or memory i d) (get_or memory j d) (here d) (apart i j d l h)))
        (cases_order j i)

    in_list : i < length records
    in_list = omega (arith, length-records)

    at : (j : ℕ) (d : Record) → j < length records → get_or records j d ≡ get_or memory j d
    at j d h = get_or-take n memory j d (omega (arith, h, length-records))

    other : (j : ℕ) (d : Record) → j < length records → (j ≡ i → ⊥) → is_of k s (get_or records j d) ≡ false
    other j d h ne = ap (is_of k s) (at j d h) ∙ only_here j d (omega (arith, h, length-records)) ne

    -- So its record says what the guards are.
    pub says_found : (side : Side) (d : Record) → list_any (λ (r : Record). is_of k s r && says side r) records ≡ says side (get_or memory i d)
    says_found side d =
        list_any_one (λ (r : Record). is_of k s r && says side r) records i d in_list (λ j h ne. ap (λ (b : Bool). b && says side (get_or records j d)) (other j d h ne))
        ∙ ap (λ (b : Bool). b && says side (get_or records i d)) (ap (is_of k s) (at i d in_list) ∙ here d)
        ∙ ap (says side) (at i d in_list)

    -- Turning it is what adding a guard at the point makes of the records.
    pub turned_found : (side : Side) (d : Record) → take n (set memory i (turned side (get_or memory i d))) ≡ with_guard records side k s
    turned_found side d =
        let turn : Record → Record = λ r. cond (is_of k s r) (turned side r) r in
        let same : turn (get_or records i d) ≡ turned side (get_or memory i d) = ap turn (at i d in_list) ∙ cond-true (is_of k s (get_or memory i d)) _ _ (here d) in
        take-set-lt n memory i (turned side (get_or memory i d)) inside
        ∙ ap (set records i) (sym same)
        ∙ map_one turn records i d in_list (λ j e h ne. cond-false (is_of k s (get_or records j e)) _ _ (other j e h ne))
        ∙ sym (cond-true (list_any (is_of k s) records) _ _ (list_any_at (is_of k s) records i d in_list (ap (is_of k s) (at i d in_list) ∙ here d)))

  module _ (fresh : (i : ℕ) (d : Record) → i < n → is_of k s (get_or memory i d) ≡ false) where
    none : (d : Record) (p : Record → Bool) → ((r : Record) → is_of k s r ≡ false → p r ≡ false) → list_any p records ≡ false
    none d p fails =
        list_any_none p records (All-from_get_or (λ r. p r ≡ false) records d (λ j h. fails (get_or records j d) (ap (is_of k s) (get_or-take n memory j d (omega (arith, h, length-records))) ∙ fresh j d (omega (arith, h, length-records)))))

    -- Where no record is of the point, its guards are no.
    pub says_none : (side : Side) → list_any (λ (r : Record). is_of k s r && says side r) records ≡ false
    says_none side = none (first_record side k s) (λ r. is_of k s r && says side r) (λ r e. ap (λ (b : Bool). b && says side r) e)

    -- And appending one is what adding a guard there makes of them.
    pub appended_fresh : (side : Side) → n < length memory → take (n + 1) (set memory n (first_record side k s)) ≡ with_guard records side k s
    appended_fresh side room =
        take_more_set memory n (first_record side k s) room
        ∙ sym (cond-false (list_any (is_of k s) records) _ _ (none (first_record side k s) (is_of k s) (λ r e. e)))
