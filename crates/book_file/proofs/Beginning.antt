-- Numbers of a file that are as they should be, as far as they go.
use Rattle.std.proofs.Common.{All, ◌≡◌, ℕ, suc, ◌+◌, ◌-◌, ◌<◌, ◌≤◌, ◌⊎◌, List, [], ◌∷◌, ◌++◌, length, take, drop, get_or, Some, None, refl, sym, ap, ◌∙◌, subst, ⊎_elim, inl, inr, arith, length-append}
use Rattle.std.proofs.lemmas.List.{append_assoc, append-nil, length_push}
use Rattle.std.proofs.lemmas.List.Elements.{All-get_or}
use Rattle.prefix.specs.declared.prefix.Prefix.{Prefix}
use Rattle.book.specs.Rows.{WellMade}
use Rattle.book.specs.declared.row.Row.{Row}
use Rattle.book_file.specs.declared.field.Field.{Field}
use Rattle.book_file.specs.declared.field.Field.TheVariants.{Length, Reports, RowCount, Position, Side, LookedAt, WantedOn}
use Rattle.book_file.specs.Files.{side_number, row_numbers, rows_numbers, file_numbers}
use Rattle.book_file.specs.Fields.{next_in_rows, next, AllowedInRows, EachAfter, Follows, Begun}
use Rattle.book_file.specs.Steps.{FollowsInRow}
use Rattle.book_file.proofs.Putting.{split_at}
use Rattle.book_file.proofs.Rows.{Small, side_small, row_small, header_small, rows_push}

module _ (Ok : List ℕ → ℕ → Type 0) where
  -- None are.
  pub each_none : EachAfter Ok []
  each_none [] x after e = absurd (let l : 0 ≡ suc (length after) = ap length e in omega arith)
  each_none (y ∷ before) x after e = absurd (let l : 0 ≡ suc (length (before ++ x ∷ after)) = ap length e in omega arith)

  cons_head : (x y : ℕ) (xs ys : List ℕ) → x ∷ xs ≡ y ∷ ys → x ≡ y
  cons_head x y xs ys e = ap (λ (l : List ℕ). get_or l 0 0) e

  -- A list split at one of its elements, the last or one before it.
  each_split : (ns before after : List ℕ) (x y : ℕ) → ns ++ x ∷ [] ≡ before ++ y ∷ after → ((before ≡ ns) × (y ≡ x)) ⊎ ((more : List ℕ) × (ns ≡ before ++ y ∷ more))
  each_split [] [] after x y e = inl (refl, sym (cons_head x y [] after e))
  each_split [] (b ∷ before) after x y e = absurd (let l = ap length e in let k = length-append before (y ∷ after) in omega arith)
  each_split (n ∷ ns) [] after x y e = inr (ns, ap (λ (z : ℕ). z ∷ ns) (cons_head n y (ns ++ x ∷ []) after e))
  each_split (n ∷ ns) (b ∷ before) after x y e =
      let same : b ≡ n = sym (cons_head n b (ns ++ x ∷ []) (before ++ y ∷ after) e) in
      ⊎_elim
      (λ (h : (before ≡ ns) × (y ≡ x)). inl ((λ i. same i ∷ h.0 i), h.1))
      (λ (h : (more : List ℕ) × (ns ≡ before ++ y ∷ more)). inr (h.0, λ i. sym same i ∷ h.1 i))
      (each_split ns before after x y (ap (λ (l : List ℕ). drop_one l) e))
    where
      drop_one : List ℕ → List ℕ
      drop_one [] = []
      drop_one (z ∷ zs) = zs

  -- One number more.
  pub each_push : (ns : List ℕ) (x : ℕ) → EachAfter Ok ns → Ok ns x → EachAfter Ok (ns ++ x ∷ [])
  each_push ns x h ok before y after e =
      ⊎_elim
      (λ (s : (before ≡ ns) × (y ≡ x)). subst (λ (b : List ℕ). Ok b y) (sym s.0) (subst (Ok ns) (sym s.1) ok))
      (λ (s : (more : List ℕ) × (ns ≡ before ++ y ∷ more)). h before y s.0 s.1)
      (each_split ns before after x y e)

  -- Some more, each as it should be after those before it.
  pub each_append : (ns ms : List ℕ) → EachAfter Ok ns → EachAfter (λ before x. Ok (ns ++ before) x) ms → EachAfter Ok (ns ++ ms)
  each_append ns [] h more = subst (EachAfter Ok) (sym (append-nil ns)) h
  each_append ns (m ∷ ms) h more =
      let joined : (before : List ℕ) → (ns ++ m ∷ []) ++ before ≡ ns ++ m ∷ before = λ before. append_assoc ns (m ∷ []) before in
      subst (EachAfter Ok) (joined ms)
      (each_append (ns ++ m ∷ []) ms
      (each_push ns m h (subst (λ (b : List ℕ). Ok b m) (append-nil ns) (more [] m ms refl)))
      (λ before x after e. subst (λ (b : List ℕ). Ok b x) (sym (joined before)) (more (m ∷ before) x after (ap (λ (l : List ℕ). m ∷ l) e))))

-- Each number that is as it should be is small.
pub begun_small : (ns : List ℕ) → Begun ns → All Small ns
begun_small ns h i d l = (h (take i ns) (get_or ns i d) (drop (i + 1) ns) (split_at ns i d l)).0

-- The field and the values after some numbers of the rows, by the numbers of the row that has begun.
pub next_rows : (rows : List Row) (count left i : ℕ) (ks : List ℕ) → count ≡ length rows + left → next_in_rows count i (rows_numbers rows ++ ks) ≡ next_in_rows left (i + length rows) ks
next_rows [] count left i ks h =
    let same : count ≡ left = omega arith in
    ap (λ (c : ℕ). next_in_rows c i ks) same ∙ ap (λ (k : ℕ). next_in_rows left k ks) (let e : i ≡ i + 0 = omega arith in e)
next_rows (r ∷ rows) count left i ks h =
    let more : count ≡ suc (count - 1) = omega arith in
    ap (λ (c : ℕ). next_in_rows c i (rows_numbers (r ∷ rows) ++ ks)) more
    ∙ next_rows rows (count - 1) left (suc i) ks (omega arith)
    ∙ ap (λ (k : ℕ). next_in_rows left k ks) (let e : suc i + length rows ≡ i + suc (length rows) = omega arith in e)

pub allowed_to : (n m : ℕ) (rows : List Row) (ks : List ℕ) (x : ℕ) → AllowedInRows n m ks x → AllowedInRows n m (rows_numbers rows ++ ks) x
allowed_to n m [] ks x h = h
allowed_to n m (r ∷ rows) ks x h = allowed_to n m rows ks x h

pub allowed_from : (n m : ℕ) (rows : List Row) (ks : List ℕ) (x : ℕ) → AllowedInRows n m (rows_numbers rows ++ ks) x → AllowedInRows n m ks x
allowed_from n m [] ks x h = h
allowed_from n m (r ∷ rows) ks x h = allowed_from n m rows ks x h

-- A row that has begun and is not over wants a field, the same however many rows come after it.
pub field_in_row : (left i : ℕ) (ks : List ℕ) → length ks ≤ 3 → (f : Field) × (next_in_rows (suc left) i ks ≡ Some f) × (next_in_rows 1 i ks ≡ Some f)
field_in_row left i [] h = (Position i, refl, refl)
field_in_row left i (k ∷ []) h = (Side i, refl, refl)
field_in_row left i (k ∷ s ∷ []) h = (LookedAt i, refl, refl)
field_in_row left i (k ∷ s ∷ l ∷ []) h = (WantedOn i, refl, refl)
field_in_row left i (k ∷ s ∷ l ∷ w ∷ ks) h = absurd (omega arith)

-- Some rows, and others that are still to come.
module _ (p : Prefix) (count : ℕ) (rows : List Row) (l : length rows < count) where
  abbrev before : List ℕ
  before = p.length ∷ p.reports ∷ count ∷ rows_numbers rows

  pub next_here : (ks : List ℕ) → length ks ≤ 3 → next (before ++ ks) ≡ next_in_rows 1 (length rows) ks
  next_here ks h =
      let f = field_in_row (count - length rows - 1) (length rows) ks h in
      next_rows rows count (suc (count - length rows - 1)) 0 ks (omega arith)
      ∙ ap (λ (k : ℕ). next_in_rows (suc (count - length rows - 1)) k ks) (let e : 0 + length rows ≡ length rows = omega arith in e)
      ∙ f.1 ∙ sym f.2

  -- A number more in the row that has begun.
  pub follows_here : (ks : List ℕ) (x : ℕ) → length ks ≤ 3 → FollowsInRow p.length p.reports ks x → Follows (before ++ ks) x
  follows_here ks x h f =
      let here = field_in_row 0 (length rows) ks h in
      (f.0, (here.0, next_here ks h ∙ here.1), allowed_to p.length p.reports rows ks x f.1)

  -- The row's numbers, all or some.
  pub begun_in_row : (ks : List ℕ) → length ks ≤ 4 → Begun before → EachAfter (FollowsInRow p.length p.reports) ks → Begun (before ++ ks)
  begun_in_row ks h begun each =
      each_append Follows before ks begun
      (λ b x after e. follows_here b x (omega (arith, ap length e, length-append b (x ∷ after))) (each b x after e))

-- The numbers of a row that is well made.
pub made_follows : (p : Prefix) (r : Row) → WellMade p r → EachAfter (FollowsInRow p.length p.reports) (row_numbers r)
made_follows p r h =
    let Ok = FollowsInRow p.length p.reports in
    let small = row_small p r h in
    let k = r.position in
    let s = side_number r.side in
    let at = λ (i : ℕ) (l : i < 4). small i 0 l in
    each_push Ok (k ∷ s ∷ r.looked_at ∷ []) r.wanted_on
    (each_push Ok (k ∷ s ∷ []) r.looked_at
    (each_push Ok (k ∷ []) s (each_push Ok [] k (each_none Ok) (at 0 (omega arith), h.reply)) (at 1 (omega arith), side_small r.side))
    (at 2 (omega arith), h.looks))
    (at 3 (omega arith), h.wants)

-- The numbers before the rows.
pub header_begun : (p : Prefix) (count : ℕ) → count ≤ 65535 → Begun (p.length ∷ p.reports ∷ count ∷ [])
header_begun p count h =
    let small = header_small p count h in
    each_push Follows (p.length ∷ p.reports ∷ []) count
    (each_push Follows (p.length ∷ []) p.reports
    (each_push Follows [] p.length (each_none Follows) (small 0 0 (omega arith), (Length, refl), (p.ok.0, p.ok.1)))
    (small 1 0 (omega arith), (Reports, refl), p.ok))
    (small 2 0 (omega arith), (RowCount, refl), h)

-- Those of rows that are well made, after them.
pub rows_begun : (p : Prefix) (count : ℕ) (rows others : List Row) → length rows + length others ≤ count → Begun (p.length ∷ p.reports ∷ count ∷ rows_numbers rows) → All (WellMade p) others
    → Begun (p.length ∷ p.reports ∷ count ∷ rows_numbers (rows ++ others))
rows_begun p count rows [] few begun made = subst (λ (rs : List Row). Begun (p.length ∷ p.reports ∷ count ∷ rows_numbers rs)) (sym (append-nil rows)) begun
rows_begun p count rows (r ∷ others) few begun made =
    let one : Begun (p.length ∷ p.reports ∷ count ∷ rows_numbers (rows ++ r ∷ [])) =
    subst (λ (ns : List ℕ). Begun (p.length ∷ p.reports ∷ count ∷ ns)) (sym (rows_push rows r))
    (begun_in_row p count rows (omega arith) (row_numbers r) (omega arith) begun (made_follows p r (All-get_or (WellMade p) (r ∷ others) 0 r (omega arith) made))) in
    subst (λ (rs : List Row). Begun (p.length ∷ p.reports ∷ count ∷ rows_numbers rs)) (append_assoc rows (r ∷ []) others)
    (rows_begun p count (rows ++ r ∷ []) others (omega (arith, length_push rows r)) one (λ i d l. All-get_or (WellMade p) (r ∷ others) (suc i) d (omega arith) made))

pub file_begun : (p : Prefix) (rows : List Row) → length rows ≤ 65535 → All (WellMade p) rows → Begun (file_numbers p rows)
file_begun p rows few made = rows_begun p (length rows) [] rows (omega arith) (header_begun p (length rows) few) made

-- Nothing is wanted after all rows.
pub file_over : (p : Prefix) (rows : List Row) → next (file_numbers p rows) ≡ None
file_over p rows = ap (next_in_rows (length rows) 0) (sym (append-nil (rows_numbers rows))) ∙ next_rows rows (length rows) 0 0 [] (omega arith)
