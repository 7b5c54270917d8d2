-- Points and the numbers below T correspond one to one.
use Rattle.std.proofs.Common.{◌≡◌, ℕ, zero, suc, ◌+◌, ◌-◌, ◌^◌, ◌≤◌, ◌<◌, ◌≢◌, Bool, true, false, cond, List, [], ◌∷◌, length, map, get_or, All, AllPairs, eqb, Some, sym, refl, ap, ◌∙◌, ⊎_elim, arith}
use Rattle.std.specs.List.{Contains, list_any}
use Rattle.std.proofs.lemmas.Bool.{cases_lt, cases_order}
use Rattle.std.proofs.lemmas.Bool.Decides.{Decides-eqb}
use Rattle.std.proofs.lemmas.List.{get_or-map, length-map}
use Rattle.std.proofs.lemmas.List.Elements.{All-map}
use Rattle.std.proofs.lemmas.List.Folds.{Any-from_list_any, list_any_at}
use Rattle.std.proofs.lemmas.Map.Made.{IsDistinct-from_AllPairs}
use Rattle.std.proofs.lemmas.Map.Steps.{length-le_from_distinct_below, le-length_from_below}
use Rattle.prefix.specs.Kinds.{kind_at, some_reply, is_reply, reports_before}
use Rattle.prefix.specs.Points.{Point, points_at, sum_to, point_count, point_number, PointNumbering}
use Rattle.prefix.specs.Settings.{number}
use Rattle.prefix.specs.declared.kind.Kind.{Kind}
use Rattle.prefix.specs.declared.kind.Kind.TheVariants.{Reply}
use Rattle.prefix.proofs.Points.{sum_next, sum_grows}
use Rattle.prefix.proofs.Replies.{reply_kind, reply_within}
use Rattle.prefix.proofs.Settings.{number-below, number-apart, number-each}

-- Different numbers below n are at most n.
few_below : (n : ℕ) (xs : List ℕ) → All (λ x. x < n) xs → AllPairs (λ x y. x ≢ y) xs → length xs ≤ n
few_below n xs below apart =
    length-le_from_distinct_below xs n (IsDistinct-from_AllPairs Decides-eqb xs apart)
    (λ q h. let a = Any-from_list_any (eqb q) xs h in
    let e : q ≡ a.1 = (Decides-eqb q a.1).0 a.4 in
    let l : get_or xs a.0 a.1 < n = below a.0 a.1 a.2 in
    omega (arith, a.3))

-- A list on whose elements f takes every value below n is at least n long.
many_values : {X : Type 0} (f : X → ℕ) (n : ℕ) (xs : List X) → ((i : ℕ) → i < n → (x : X) × Contains xs x × (f x ≡ i)) → n ≤ length xs
many_values f n xs each = omega (arith, length-map xs f, le-length_from_below (map f xs) n found)
  where
    found : (i : ℕ) → i < n → list_any (eqb i) (map f xs) ≡ true
    found i l =
        let t = each i l in
        let c = t.1 in
        let inside : c.0 < length (map f xs) = omega (arith, length-map xs f, c.1) in
        let here : get_or (map f xs) c.0 0 ≡ i = get_or-map f xs c.0 t.0 0 c.1 ∙ ap f c.2 ∙ t.2 in
        list_any_at (eqb i) (map f xs) c.0 0 inside ((Decides-eqb i (get_or (map f xs) c.0 0)).1 (sym here))

-- A list on whose elements f differs is mapped by f to a list of different numbers.
pairs_mapped : {X : Type 0} (f : X → ℕ) (xs : List X) → AllPairs (λ x y. f x ≢ f y) xs → AllPairs (λ x y. x ≢ y) (map f xs)
pairs_mapped f [] h i j d l m = absurd (omega arith)
pairs_mapped f (x ∷ xs) h i j d l m =
    let inside : j < length (x ∷ xs) = omega (arith, length-map (x ∷ xs) f) in
    λ e. h i j x l inside (sym (get_or-map f (x ∷ xs) i x d (omega arith)) ∙ e ∙ get_or-map f (x ∷ xs) j x d inside)

-- Where f k things stand at each position k, the place of the one of number s at k, counted from 0.
abbrev pub place : (ℕ → ℕ) → ℕ → ℕ → ℕ
place f k s = sum_to f (k - 1) + s

module _ (f : ℕ → ℕ) (none : f 0 ≡ 0) where
  from_one : (k s : ℕ) → s < f k → 1 ≤ k
  from_one zero s l = absurd (omega arith)
  from_one (suc i) s l = omega arith

  -- Places at the positions 1 to n are below the sum over these.
  pub place_inside : (n k s : ℕ) → k ≤ n → s < f k → place f k s < sum_to f n
  place_inside n k s h l = omega (arith, sum_next f k (from_one k s l), sum_grows f k n h)

  not_later : (j k s t : ℕ) → s < f j → place f j s ≡ place f k t → j < k → ⊥
  not_later j k s t l e h = omega (arith, place_inside (k - 1) j s (omega arith) l)

  -- No two are the same.
  place_apart : (j k s t : ℕ) → s < f j → t < f k → place f j s ≡ place f k t → (j ≡ k) × (s ≡ t)
  place_apart j k s t l m e =
      ⊎_elim (λ (h : j ≡ k). (h, omega (arith, ap (λ (i : ℕ). sum_to f (i - 1)) h)))
      (⊎_elim (λ (h : j < k). absurd (not_later j k s t l e h)) (λ (h : k < j). absurd (not_later k j t s m (sym e) h)))
      (cases_order j k)

  -- Each number below the sum is one of them.
  place_each : (n i : ℕ) → i < sum_to f n → (k : ℕ) × (s : ℕ) × (s < f k) × (place f k s ≡ i)
  place_each zero i l = absurd (omega arith)
  place_each (suc n) i l =
      ⊎_elim (place_each n i)
      (λ (h : sum_to f n ≤ i).
      let e : suc n - 1 ≡ n = omega arith in
      (suc n, i - sum_to f n, omega arith, omega (arith, ap (sum_to f) e)))
      (cases_lt i (sum_to f n))

reply_where_some : (b : Bool) (n : ℕ) → 0 < cond b n 0 → b ≡ true
reply_where_some true n h = refl
reply_where_some false n h = absurd (omega arith)

module _ (ks : List Kind) where
  -- Where there are points, a reply stands.
  pub reply_at : (k s : ℕ) → s < points_at ks k → kind_at ks k ≡ Some Reply
  reply_at k s l = reply_kind (kind_at ks k) (reply_where_some (is_reply ks k) (2 ^ reports_before ks k) (omega arith))

  -- A reply's position has a point for each setting before it.
  pub points_at_reply : (k : ℕ) → is_reply ks k ≡ true → points_at ks k ≡ 2 ^ reports_before ks k
  points_at_reply k r = ap (λ (b : Bool). cond b (2 ^ reports_before ks k) 0) r

  -- Things that each stand for a point, by its position and the number of its setting, no two for the same, are no more than the points.
  pub few_points : {X : Type 0} (position setting : X → ℕ) (xs : List X)
      → All (λ x. setting x < points_at ks (position x)) xs
      → AllPairs (λ x y. (position x ≡ position y) → (setting x ≡ setting y) → ⊥) xs
      → length xs ≤ point_count ks
  few_points {X} position setting xs inside apart =
      omega (
        arith,
        length-map xs place_of,
        few_below (point_count ks) (map place_of xs) (All-map (λ i. i < point_count ks) place_of xs below) (pairs_mapped place_of xs different),
      )
    where
      place_of : X → ℕ
      place_of x = place (points_at ks) (position x) (setting x)

      below : All (λ x. place_of x < point_count ks) xs
      below i d l =
          let x = get_or xs i d in
          let within = reply_within ks (position x) (reply_at (position x) (setting x) (inside i d l)) in
          place_inside (points_at ks) refl (length ks) (position x) (setting x) within (inside i d l)

      different : AllPairs (λ x y. place_of x ≢ place_of y) xs
      different i j d l m e =
          let x = get_or xs i d in
          let y = get_or xs j d in
          let same = place_apart (points_at ks) refl (position x) (position y) (setting x) (setting y) (inside i d (omega arith)) (inside j d m) e in
          apart i j d l m same.0 same.1

  -- The number of a setting before a reply is below the number of the position's points.
  pub setting_inside : (k : ℕ) (v : List Bool) → Point ks k v → number v < points_at ks k
  setting_inside k v o = omega (arith, number-below v, ap (λ (r : ℕ). 2 ^ r) o.1, points_at_reply k (ap some_reply o.0))

  points_apart : (j k : ℕ) (v w : List Bool) → Point ks j v → Point ks k w → point_number ks j v ≡ point_number ks k w → (j ≡ k) × (v ≡ w)
  points_apart j k v w o q e =
      let same = place_apart (points_at ks) refl j k (number v) (number w) (setting_inside j v o) (setting_inside k w q) e in
      (same.0, number-apart v w (o.1 ∙ ap (reports_before ks) same.0 ∙ sym q.1) same.1)

  points_each : (i : ℕ) → i < point_count ks → (k : ℕ) × (v : List Bool) × Point ks k v × (point_number ks k v ≡ i)
  points_each i l =
      let p = place_each (points_at ks) refl (length ks) i l in
      let r = reply_at p.0 p.1 p.2 in
      let v = number-each (reports_before ks p.0) p.1 (omega (arith, p.2, points_at_reply p.0 (ap some_reply r))) in
      (p.0, v.0, (r, v.1), omega (arith, p.3, v.2))

  -- A list that has, for each point, something that stands for it by its position and the number of its setting, has no fewer elements than there are points.
  pub many_points : {X : Type 0} (position setting : X → ℕ) (xs : List X)
      → ((k : ℕ) (v : List Bool) → Point ks k v → (x : X) × Contains xs x × (position x ≡ k) × (setting x ≡ number v))
      → point_count ks ≤ length xs
  many_points {X} position setting xs each = many_values place_of (point_count ks) xs found
    where
      place_of : X → ℕ
      place_of x = place (points_at ks) (position x) (setting x)

      found : (i : ℕ) → i < point_count ks → (x : X) × Contains xs x × (place_of x ≡ i)
      found i l =
          let p = points_each i l in
          let x = each p.0 p.1 p.2 in
          (x.0, x.1, omega (arith, ap (λ (k : ℕ). sum_to (points_at ks) (k - 1)) x.2, x.3, p.3))

  pub point_numbering : PointNumbering ks
  point_numbering = record {
    below = λ k v o. place_inside (points_at ks) refl (length ks) k (number v) (reply_within ks k o.0) (setting_inside k v o);
    apart = points_apart;
    each = points_each;
  }
