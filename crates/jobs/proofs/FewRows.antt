-- How many rows a listed policy has, and how many bytes a file.
use Rattle.std.proofs.Common.{◌≡◌, ℕ, zero, suc, ◌+◌, ◌-◌, ◌*◌, ◌/◌, ◌%◌, ◌≤◌, ◌<◌, Bool, true, false, not, cond, nat_lt, List, [], ◌∷◌, length, get_or, refl, sym, ap, ◌∙◌, subst, ⊎_elim, length-append, arith}
use Rattle.std.proofs.lemmas.Bool.{false≢true}
use Rattle.std.proofs.lemmas.List.Elements.{All-get_or}
use Rattle.prefix.specs.Kinds.{reports_before}
use Rattle.prefix.specs.Points.{Point, points_at, sum_to, point_count}
use Rattle.prefix.specs.Policies.{Policy}
use Rattle.prefix.specs.Prefixes.{kinds}
use Rattle.prefix.specs.Settings.{number}
use Rattle.prefix.specs.declared.prefix.Prefix.{Prefix}
use Rattle.prefix.proofs.MostPoints.{most_points}
use Rattle.prefix.proofs.PointCount.{setting_inside, place_inside, point_numbering}
use Rattle.prefix.proofs.Points.{sum_grows}
use Rattle.prefix.proofs.Settings.{number-apart}
use Rattle.book.specs.Guards.{Guards, Means}
use Rattle.book.specs.declared.row.Row.{Row}
use Rattle.book.specs.declared.side.Side.{Side}
use Rattle.book.specs.declared.side.Side.TheVariants.{On, Off}
use Rattle.book_file.specs.Files.{row_numbers, rows_numbers, file_bytes}
use Rattle.book_file.specs.Listing.{row_of, wanted_number, ListedBefore, Listed}
use Rattle.book_file.specs.Numbers.{groups, number_bytes, bytes_of}
use Rattle.book_file.proofs.ExactRows.{wanted_is}

-- A number has at most four bytes, so that of a file with so many rows.
groups_few : (more n : ℕ) → length (groups more n) ≤ more + 1
groups_few zero n = omega arith
groups_few (suc more) n = either (groups_few more (n / 128)) (nat_lt n 128)
  where
    either : length (groups more (n / 128)) ≤ more + 1 → (b : Bool) → length (cond b (n ∷ []) ((128 + n % 128) ∷ groups more (n / 128))) ≤ suc more + 1
    either h true = omega arith
    either h false = omega arith

number_few : (n : ℕ) → length (number_bytes n) ≤ 4
unfolding number_bytes
number_few n = groups_few 3 n

bytes_few : (ns : List ℕ) → length (bytes_of ns) ≤ 4 * length ns
bytes_few [] = omega arith
bytes_few (n ∷ ns) = omega (arith, number_few n, bytes_few ns, length-append (number_bytes n) (bytes_of ns))

numbers_count : (rows : List Row) → length (rows_numbers rows) ≡ 4 * length rows
numbers_count [] = refl
numbers_count (r ∷ rows) = omega (arith, numbers_count rows, length-append (row_numbers r) (rows_numbers rows))

pub file_few : (p : Prefix) (rows : List Row) → length (file_bytes p rows) ≤ 12 + 16 * length rows
file_few p rows = omega (arith, bytes_few (p.length ∷ p.reports ∷ length rows ∷ rows_numbers rows), numbers_count rows)

-- Points are few enough for rows.
pub points_few : (p : Prefix) → point_count (kinds p) ≤ 65535
points_few p = omega (arith, most_points p)

-- Numbers that rise, and stay below a bound, are no more than that.
rising : (f : ℕ → ℕ) (n : ℕ) → ((i : ℕ) → suc i < n → f i < f (suc i)) → (i : ℕ) → i < n → i ≤ f i
rising f n h zero l = omega arith
rising f n h (suc i) l = omega (arith, rising f n h i (omega arith), h i l)

few_rising : (f : ℕ → ℕ) (n most : ℕ) → ((i : ℕ) → suc i < n → f i < f (suc i)) → ((i : ℕ) → i < n → f i < most) → n ≤ most
few_rising f zero most h below = omega arith
few_rising f (suc n) most h below = omega (arith, rising f (suc n) h n (omega arith), below n (omega arith))

module _ (p : Prefix) (g : Guards) (policy : Policy) (means : Means (kinds p) g policy) where
  -- A number for each point, by position and then by the setting's number.
  abbrev place : ℕ → ℕ → ℕ
  place k n = sum_to (points_at (kinds p)) (k - 1) + n

  place_next : (k : ℕ) (v : List Bool) → Point (kinds p) k v → place k (number v) < sum_to (points_at (kinds p)) k
  place_next k v o = place_inside (points_at (kinds p)) refl k k (number v) (omega arith) (setting_inside (kinds p) k v o)

  -- At a point one guard alone is yes.
  one_side : (k : ℕ) (v : List Bool) → Point (kinds p) k v → g On k v ≡ true → g Off k v ≡ true → ⊥
  one_side k v o on off = false≢true (ap not (sym on ∙ means.on k v o) ∙ sym (means.off k v o) ∙ off)

  abbrev RowOf : Row → Type 0
  RowOf r = (side : Side) × (k : ℕ) × (v : List Bool) × Point (kinds p) k v × (g side k v ≡ true) × (r ≡ row_of p side k v)

  abbrev row_place : Row → ℕ
  row_place r = place r.position (wanted_number p r)

  row_at : (side : Side) (k : ℕ) (v : List Bool) → Point (kinds p) k v → row_place (row_of p side k v) ≡ place k (number v)
  row_at side k v o = ap (λ (w : List Bool). place k (number w)) (wanted_is p k v o)

  rises : (a b : Row) → RowOf a → RowOf b → ListedBefore p a b → row_place a < row_place b
  rises a b x y l =
      let of_a = row_of p x.0 x.1 x.2 in
      let of_b = row_of p y.0 y.1 y.2 in
      subst (λ r. row_place r < row_place b) (sym x.5) (subst (λ r. row_place of_a < row_place r) (sym y.5)
      (rises_at x.0 y.0 x.1 y.1 x.2 y.2 x.3 y.3 x.4 y.4 (subst (λ r. ListedBefore p r of_b) x.5 (subst (ListedBefore p a) y.5 l))))
    where
      rises_at : (s t : Side) (j k : ℕ) (v w : List Bool) → Point (kinds p) j v → Point (kinds p) k w → g s j v ≡ true → g t k w ≡ true
          → ListedBefore p (row_of p s j v) (row_of p t k w) → row_place (row_of p s j v) < row_place (row_of p t k w)
      rises_at s t j k v w o q first second l =
          let at_v : wanted_number p (row_of p s j v) ≡ number v = ap number (wanted_is p j v o) in
          let at_w : wanted_number p (row_of p t k w) ≡ number w = ap number (wanted_is p k w q) in
          ⊎_elim
          (λ (less : j < k). omega (arith, row_at s j v o, row_at t k w q, place_next j v o, sum_grows (points_at (kinds p)) j (k - 1) (omega arith)))
          (λ z. ⊎_elim
          (λ less. omega (arith, at_v, at_w, ap (λ (i : ℕ). sum_to (points_at (kinds p)) (i - 1)) z.0))
          (λ both.
          let same : v ≡ w = number-apart v w (o.1 ∙ ap (reports_before (kinds p)) z.0 ∙ sym q.1) (sym at_v ∙ both.0 ∙ at_w) in
          absurd (one_side k w q (subst (λ (u : List Bool). g On k u ≡ true) same (subst (λ (i : ℕ). g On i v ≡ true) z.0 (subst (λ side. g side j v ≡ true) both.1 first))) (subst (λ side. g side k w ≡ true) both.2 second)))
          z.1)
          l

  -- A policy's book is listed as no more rows than there are points.
  pub rows_few : (rows : List Row) → Listed p g rows → length rows ≤ point_count (kinds p)
  rows_few rows h = few_rising (λ (i : ℕ). row_place (get_or rows i no_row)) (length rows) (point_count (kinds p))
      (λ i l. rises (get_or rows i no_row) (get_or rows (suc i) no_row) (All-get_or RowOf rows i no_row (omega arith) h.only) (All-get_or RowOf rows (suc i) no_row l h.only)
      (h.order i (suc i) no_row (omega arith) l))
      (λ i l. let x = All-get_or RowOf rows i no_row l h.only in subst (λ r. row_place r < point_count (kinds p)) (sym x.5) (omega (arith, row_at x.0 x.1 x.2 x.3, (point_numbering (kinds p)).below x.1 x.2 x.3)))
    where
      no_row : Row
      no_row = record { position = 0; side = On; looked_at = 0; wanted_on = 0 }
