-- After a search each record of a list book stands where it is looked for first.
use Rattle.std.proofs.Common.{◌≡◌, ℕ, zero, suc, ◌+◌, ◌-◌, ◌*◌, ◌^◌, ◌≤◌, ◌<◌, Bool, true, false, inl, inr, List, length, get_or, sym, ap, ◌∙◌, subst, ⊎_elim, arith}
use Rattle.std.proofs.lemmas.Bool.{cases_lt}
use Rattle.std.proofs.lemmas.List.{get_or-take, length-take-le}
use Rattle.std.proofs.lemmas.List.Elements.{All-get_or}
use Rattle.prefix.specs.Kinds.{is_reply, reports_before, some_reply}
use Rattle.prefix.specs.Points.{Point, point_count}
use Rattle.prefix.specs.Prefixes.{kinds}
use Rattle.prefix.specs.Settings.{number}
use Rattle.prefix.specs.declared.kind.Kind.{Kind}
use Rattle.prefix.proofs.Settings.{number-below}
use Rattle.book.specs.ListBooks.{records_of}
use Rattle.book.specs.RecordPlaces.{later_settings, place_of}
use Rattle.book.specs.declared.list_book.ListBook.{ListBook}
use Rattle.book.specs.declared.record.Record.{Record}
use Rattle.book.proofs.PlaceOrder.{later_is, place_rises, place_inside}
use Rattle.play.specs.ListFilling.{record_of, first_with, RecordBefore, ListFound}

-- Numbers that rise from place to place are no less than their places, and below n, where there are n places, no more.
module _ (f : ℕ → ℕ) (n : ℕ) (rises : (i : ℕ) → suc i < n → f i < f (suc i)) where
  place_at_most : (i : ℕ) → i < n → i ≤ f i
  place_at_most zero l = omega arith
  place_at_most (suc i) l = omega (arith, place_at_most i (omega arith), rises i l)

  rises_by : (d i : ℕ) → i + d < n → f i + d ≤ f (i + d)
  rises_by zero i l = let e : i + 0 ≡ i = omega arith in omega (arith, ap f e)
  rises_by (suc d) i l =
      let e : suc (i + d) ≡ i + suc d = omega arith in
      let step : f (i + d) < f (suc (i + d)) = rises (i + d) (omega arith) in
      omega (arith, rises_by d i (omega arith), step, ap f e)

  pub own_place : ((i : ℕ) → i < n → f i < n) → (i : ℕ) → i < n → f i ≡ i
  own_place below i l =
      let d : ℕ = n - 1 - i in
      let last : i + d < n = omega arith in
      omega (arith, place_at_most i l, rises_by d i last, below (i + d) last)

module _ (ks : List Kind) where
  abbrev placed : Record → ℕ
  placed r = place_of ks r.position r.setting

  first_later : (r : Record) → first_with ks r ≡ r.setting * later_settings ks r.position
  first_later r = ap (λ (l : ℕ). r.setting * l) (sym (later_is ks r.position))

  -- A record that is met before another has its place before that one's.
  placed_before : (a b : Record) → is_reply ks a.position ≡ true → RecordBefore ks a b → placed a < placed b
  placed_before a b reply h =
      place_rises ks a.position b.position a.setting b.setting reply
      (⊎_elim (λ l. inl (omega (arith, l, first_later a, first_later b))) (λ t. inr (sym (first_later a) ∙ t.0 ∙ first_later b, t.1)) h)

  module _ (kept : List Bool → Bool) (rs : List Record) (h : ListFound kept ks rs) where
    abbrev OfPolicy : Record → Type 0
    OfPolicy r = (k : ℕ) × (v : List Bool) × Point ks k v × (r ≡ record_of h.policy k v)

    replies : (i : ℕ) (d : Record) → i < length rs → (is_reply ks (get_or rs i d).position ≡ true) × (placed (get_or rs i d) < point_count ks)
    replies i d l =
        let t = All-get_or OfPolicy rs i d l h.each_once.only in
        let reply : is_reply ks t.0 ≡ true = ap some_reply t.2.0 in
        let small : number t.1 < 2 ^ reports_before ks t.0 = omega (arith, number-below t.1, ap (λ (u : ℕ). 2 ^ u) t.2.1) in
        subst (λ (r : Record). (is_reply ks r.position ≡ true) × (placed r < point_count ks)) (sym t.3) (reply, place_inside ks t.0 (number t.1) reply small)

    -- The records of a search stand in their places.
    pub found_placed : (i : ℕ) (d : Record) → i < length rs → placed (get_or rs i d) ≡ i
    found_placed i d l =
        own_place (λ (j : ℕ). placed (get_or rs j d)) (length rs)
        (λ j m. placed_before (get_or rs j d) (get_or rs (suc j) d) (replies j d (omega arith)).0 (h.each_once.order j (suc j) d (omega arith) m))
        (λ j m. omega (arith, (replies j d m).1, h.count))
        i l

-- So the book counts them all among those that do.
pub all_in_order : (b : ListBook) (kept : List Bool → Bool) → ListFound kept (kinds b.prefix) (records_of b) → b.in_order ≡ b.count
all_in_order b kept h =
    ⊎_elim (λ (fewer : b.in_order < b.count).
    let long : length (records_of b) ≡ b.count = length-take-le b.count b.records.now b.within in
    let here = found_placed (kinds b.prefix) kept (records_of b) h b.in_order no_record (omega (arith, fewer, long)) in
    absurd (b.no_more no_record fewer (ap (λ (r : Record). place_of (kinds b.prefix) r.position r.setting) (sym (get_or-take b.count b.records.now b.in_order no_record fewer)) ∙ here)))
    (λ (all : b.count ≤ b.in_order). let few = b.ordered in omega arith)
    (cases_lt b.in_order b.count)
  where
    no_record : Record
    no_record = record { position = 0; setting = 0; on = false; off = false }
