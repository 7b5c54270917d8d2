-- What a list book keeps of its records, when one is turned and when one is appended.
use Rattle.std.proofs.Common.{◌≡◌, ℕ, ◌+◌, ◌^◌, ◌≤◌, ◌<◌, true, false, ◌||◌, List, [], ◌∷◌, ◌++◌, length, get_or, set, take, All, AllPairs, sym, refl, ap, ◌∙◌, subst, ⊎_elim, arith}
use Rattle.std.proofs.Math.Bool.{or-true}
use Rattle.std.proofs.lemmas.Bool.{cases_eq, cases_lt, true≢false}
use Rattle.std.proofs.lemmas.List.{get_or-take, get_or_default, get_or-set_same, get_or-set_other, length-take-le, length-append}
use Rattle.std.proofs.lemmas.List.Elements.{All-push}
use Rattle.std.proofs.lemmas.List.Quantifiers.{all_pairs_push}
use Rattle.prefix.specs.Kinds.{is_reply, reports_before}
use Rattle.prefix.specs.Points.{point_count}
use Rattle.prefix.specs.declared.kind.Kind.{Kind}
use Rattle.prefix.proofs.PointCount.{few_points, points_at_reply}
use Rattle.book.specs.declared.record.Record.{Record}
use Rattle.book.specs.declared.side.Side.{Side}
use Rattle.book.specs.declared.side.Side.TheVariants.{On, Off}
use Rattle.book.specs.Records.{is_of, OfPoint, Apart, OneAPoint, turned, first_record}
use Rattle.book.specs.RecordPlaces.{place_of, InPlace, NoMoreInPlace}
use Rattle.book.proofs.Records.{is_of_from}

-- The first n records of the memory are of points, and no two of one.
abbrev pub Points : List Kind → List Record → ℕ → Type 0
Points ks memory n = (i : ℕ) (d : Record) → i < n → OfPoint ks (get_or memory i d)

abbrev pub AllApart : List Record → ℕ → Type 0
AllApart memory n = (i j : ℕ) (d : Record) → i < j → j < n → Apart (get_or memory i d) (get_or memory j d)

module _ (ks : List Kind) (memory : List Record) (n : ℕ) (within : n ≤ length memory) (points : Points ks memory n) (apart : AllApart memory n) where
  abbrev records : List Record
  records = take n memory

  length-records : length records ≡ n
  length-records = length-take-le n memory within

  all_points : All (OfPoint ks) records
  all_points i d h = subst (OfPoint ks) (sym (get_or-take n memory i d (omega (arith, h, length-records)))) (points i d (omega (arith, h, length-records)))

  all_apart : AllPairs Apart records
  all_apart i j d h l =
      let m : j < n = omega (arith, l, length-records) in
      subst (λ (r : Record). Apart r (get_or records j d)) (sym (get_or-take n memory i d (omega (arith, h, m))))
      (subst (Apart (get_or memory i d)) (sym (get_or-take n memory j d m)) (apart i j d h m))

  -- Records, one a point, are no more than the points.
  few_one_each : (rs : List Record) → All (OfPoint ks) rs → AllPairs Apart rs → length rs ≤ point_count ks
  few_one_each rs of each =
      few_points ks (λ r. r.position) (λ r. r.setting) rs (λ i d h. let o = of i d h in omega (arith, o.1, points_at_reply ks (get_or rs i d).position o.0)) each

  few_records : length records ≤ point_count ks
  few_records = few_one_each records all_points all_apart

  pub one_a_point : OneAPoint ks records
  one_a_point = record { points = all_points; apart = all_apart; few = few_records }

  pub few_kept : n ≤ point_count ks
  few_kept = omega (arith, few_records, length-records)

  -- Where a point has no record yet, they are fewer than the points.
  pub room_left : (r : Record) → OfPoint ks r → ((i : ℕ) (d : Record) → i < n → Apart (get_or memory i d) r) → n < point_count ks
  room_left r of fresh =
      let longer : List Record = records ++ r ∷ [] in
      let few : length longer ≤ point_count ks = few_one_each longer (All-push (OfPoint ks) records r all_points of)
      (all_pairs_push Apart records r all_apart (λ i d h. let m : i < n = omega (arith, h, length-records) in subst (λ (x : Record). Apart x r) (sym (get_or-take n memory i d m)) (fresh i d m))) in
      omega (arith, few, length-append records (r ∷ []), length-records)

turned_guard : (side : Side) (r : Record) → ((turned side r).on || (turned side r).off) ≡ true
turned_guard On r = refl
turned_guard Off r = or-true r.on

pub first_guard : (side : Side) (k s : ℕ) → ((first_record side k s).on || (first_record side k s).off) ≡ true
first_guard On k s = refl
first_guard Off k s = refl

-- A turned record stays that of its point, where it stands.
module _ (ks : List Kind) (memory : List Record) (n : ℕ) (side : Side) (k : ℕ) (d : Record) (inside : k < length memory) where
  abbrev turned_memory : List Record
  turned_memory = set memory k (turned side (get_or memory k d))

  field_kept : (f : Record → ℕ) → ((r : Record) → f (turned side r) ≡ f r) → (i : ℕ) (e : Record) → f (get_or turned_memory i e) ≡ f (get_or memory i e)
  field_kept f stays i e =
      ⊎_elim
      (λ (h : i ≡ k). ap (λ (j : ℕ). f (get_or turned_memory j e)) h ∙ ap f (get_or-set_same memory k (turned side (get_or memory k d)) e inside)
      ∙ stays (get_or memory k d) ∙ ap f (get_or_default memory k d e inside) ∙ ap (λ (j : ℕ). f (get_or memory j e)) (sym h))
      (λ h. ap f (get_or-set_other memory k i (turned side (get_or memory k d)) e h))
      (cases_eq i k)

  position_kept : (i : ℕ) (e : Record) → (get_or turned_memory i e).position ≡ (get_or memory i e).position
  position_kept = field_kept (λ r. r.position) (λ r. refl)

  setting_kept : (i : ℕ) (e : Record) → (get_or turned_memory i e).setting ≡ (get_or memory i e).setting
  setting_kept = field_kept (λ r. r.setting) (λ r. refl)

  -- A turned record has a guard that is yes, and every other record keeps its own.
  guard_kept : (i : ℕ) (e : Record) → ((get_or memory i e).on || (get_or memory i e).off) ≡ true → ((get_or turned_memory i e).on || (get_or turned_memory i e).off) ≡ true
  guard_kept i e h =
      ⊎_elim
      (λ (t : i ≡ k). ap (λ (j : ℕ). (get_or turned_memory j e).on || (get_or turned_memory j e).off) t ∙ ap (λ (r : Record). r.on || r.off) (get_or-set_same memory k (turned side (get_or memory k d)) e inside)
      ∙ turned_guard side (get_or memory k d))
      (λ t. ap (λ (r : Record). r.on || r.off) (get_or-set_other memory k i (turned side (get_or memory k d)) e t) ∙ h)
      (cases_eq i k)

  pub points_turned : Points ks memory n → Points ks turned_memory n
  points_turned points i e h =
      let of = points i e h in (
        ap (is_reply ks) (position_kept i e) ∙ of.0,
        omega (arith, of.1, setting_kept i e, ap (λ (j : ℕ). 2 ^ reports_before ks j) (position_kept i e)),
        guard_kept i e of.2,
      )

  pub apart_turned : AllApart memory n → AllApart turned_memory n
  apart_turned apart i j e h l p s = apart i j e h l (sym (position_kept i e) ∙ p ∙ position_kept j e) (sym (setting_kept i e) ∙ s ∙ setting_kept j e)

  pub placed_turned : (m : ℕ) → InPlace ks memory m → InPlace ks turned_memory m
  placed_turned m placed i e h = ap (λ (j : ℕ). place_of ks j (get_or turned_memory i e).setting) (position_kept i e) ∙ ap (place_of ks (get_or memory i e).position) (setting_kept i e) ∙ placed i e h

  pub no_more_turned : (m : ℕ) → NoMoreInPlace ks memory m n → NoMoreInPlace ks turned_memory m n
  no_more_turned m no_more e h t =
      no_more e h (sym (ap (λ (j : ℕ). place_of ks j (get_or turned_memory m e).setting) (position_kept m e) ∙ ap (place_of ks (get_or memory m e).position) (setting_kept m e)) ∙ t)

-- A record of no point that another has is apart from it.
pub fresh_apart : (side : Side) (k s : ℕ) (r : Record) → is_of k s r ≡ false → Apart r (first_record side k s)
fresh_apart side k s r e p q = true≢false (sym (is_of_from k s r p q) ∙ e)

-- Appending the record of a point that has none.
module _ (ks : List Kind) (memory : List Record) (n : ℕ) (room : n < length memory) (side : Side) (k s : ℕ) where
  abbrev first : Record
  first = first_record side k s

  abbrev longer : List Record
  longer = set memory n first

  before_same : (i : ℕ) (e : Record) → i < n → get_or longer i e ≡ get_or memory i e
  before_same i e h = get_or-set_other memory n i first e (λ t. omega (arith, h, t))

  last_is : (e : Record) → get_or longer n e ≡ first
  last_is e = get_or-set_same memory n first e room

  -- One of the records from before, or the last.
  each_record : (P : Record → Type 0) (i : ℕ) (e : Record) → i < n + 1 → (i < n → P (get_or memory i e)) → P first → P (get_or longer i e)
  each_record P i e h old new =
      ⊎_elim
      (λ (l : i < n). subst P (sym (before_same i e l)) (old l))
      (λ (l : n ≤ i). let last : i ≡ n = omega arith in subst (λ (j : ℕ). P (get_or longer j e)) (sym last) (subst P (sym (last_is e)) new))
      (cases_lt i n)

  pub points_appended : Points ks memory n → OfPoint ks first → Points ks longer (n + 1)
  points_appended points of i e h = each_record (OfPoint ks) i e h (points i e) of

  pub apart_appended : AllApart memory n → ((i : ℕ) (e : Record) → i < n → is_of k s (get_or memory i e) ≡ false) → AllApart longer (n + 1)
  apart_appended apart fresh i j e h l =
      let m : i < n = omega (arith, h, l) in
      subst (λ (r : Record). Apart r (get_or longer j e)) (sym (before_same i e m))
      (each_record (Apart (get_or memory i e)) j e l (λ t. apart i j e h t) (fresh_apart side k s (get_or memory i e) (fresh i e m)))
