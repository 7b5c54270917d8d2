-- The records that are in a list book after a search.
use Rattle.std.proofs.Common.{◌≡◌, ℕ, ◌-◌, ◌*◌, ◌^◌, ◌<◌, Bool, true, false, not, inl, inr, List, [], ◌∷◌, ◌++◌, length, get_or, map, sym, refl, ap, ◌∙◌, subst, ⊎_elim, arith}
use Rattle.std.specs.List.{All, AllPairs, list_any}
use Rattle.std.proofs.lemmas.Bool.{cond-false}
use Rattle.std.proofs.lemmas.Bool.Decides.{nat_tests}
use Rattle.std.proofs.lemmas.Fn.{chained_keeps}
use Rattle.std.proofs.lemmas.List.{map-append}
use Rattle.std.proofs.lemmas.List.Elements.{All-map, All-weaker}
use Rattle.std.proofs.lemmas.List.Folds.{list_any_none}
use Rattle.prefix.specs.Kinds.{report_count, reports_before}
use Rattle.prefix.specs.Points.{Point, points_at, point_count}
use Rattle.prefix.specs.Policies.{Policy}
use Rattle.prefix.specs.Settings.{number}
use Rattle.prefix.specs.declared.kind.Kind.{Kind}
use Rattle.prefix.proofs.PointCount.{few_points, setting_inside, many_points}
use Rattle.book.specs.Records.{is_of, first_record, with_guard, list_guards, Apart}
use Rattle.book.specs.declared.record.Record.{Record}
use Rattle.book.specs.declared.side.Side.{Side}
use Rattle.play.specs.Filling.{Guard, side_of, guard_of, Run, ClearsAll, AddsOne, MetBefore}
use Rattle.play.specs.Found.{Filled, Found}
use Rattle.play.specs.ListFilling.{record_of, first_with, RecordBefore, RecordOrder, ListFound, OneListFound}
use Rattle.play.specs.Listing.{Lists}
use Rattle.play.proofs.Listing.{lists_alike}
use Rattle.play.proofs.Numbers.{first_is}
use Rattle.play.proofs.OneListing.{lists_one}
use Rattle.play.proofs.MappedLists.{lists_map, pairs_front, pairs_last}

-- The record that is appended for a guard at a point that has none.
abbrev written : Guard → Record
written g = first_record g.side g.position (number g.setting)

-- For the guard of a policy it is the policy's record.
first_of : (x : Bool) (k s : ℕ) → first_record (side_of x) k s ≡ record { position = k; setting = s; on = x; off = not x }
first_of true k s = refl
first_of false k s = refl

written_of : (p : Policy) (k : ℕ) (v : List Bool) → written (guard_of p k v) ≡ record_of p k v
written_of p k v = first_of (p k v) k (number v)

-- Where no record is of the point, one is appended.
with_new : (rs : List Record) (side : Side) (k s : ℕ) → list_any (is_of k s) rs ≡ false → with_guard rs side k s ≡ rs ++ first_record side k s ∷ []
with_new rs side k s none = cond-false _ _ _ none

module _ (ks : List Kind) where
  -- Records are in the order of their guards.
  written_before : (a b : Guard) → MetBefore ks a b → RecordBefore ks (written a) (written b)
  written_before a b h =
      let first_a = first_is ks a.position a.setting in
      let first_b = first_is ks b.position b.setting in
      ⊎_elim (λ l. inl (omega arith)) (λ t. let e = t.0 in inr (omega arith, t.1)) h

  -- Two records in order are of different points.
  before_apart : (a b : Record) → RecordBefore ks a b → Apart a b
  before_apart a b h e f =
      let same : first_with ks a ≡ first_with ks b =
      ap (λ (s : ℕ). s * 2 ^ (report_count ks - reports_before ks a.position)) f ∙ ap (λ (k : ℕ). b.setting * 2 ^ (report_count ks - reports_before ks k)) e in
      ⊎_elim (λ l. omega arith) (λ t. let l = t.1 in omega arith) h

  -- So the record of a guard is not of a point that is met later.
  not_of : (a b : Guard) → MetBefore ks a b → is_of b.position (number b.setting) (written a) ≡ false
  not_of a b h =
      let apart : a.position ≡ b.position → number a.setting ≡ number b.setting → ⊥ = before_apart (written a) (written b) (written_before a b h) in
      grind (arith, nat_tests)

pub record_order : (ks : List Kind) → RecordOrder ks
record_order ks = record {
  first = λ p k v. sym (first_is ks k v);
  apart = before_apart ks;
}

-- The records of a policy at all points, each once, in this order.
module _ (ks : List Kind) (p : Policy) (rs : List Record) (h : Lists (Point ks) (record_of p) (RecordBefore ks) rs) where
  abbrev OfPolicy : Record → Type 0
  OfPolicy r = (k : ℕ) × (v : List Bool) × Point ks k v × (r ≡ record_of p k v)

  abbrev Inside : Record → Type 0
  Inside r = r.setting < points_at ks r.position

  all_inside : All Inside rs
  all_inside = All-weaker OfPolicy Inside (λ r t. subst Inside (sym t.3) (setting_inside ks t.0 t.1 t.2)) rs h.only

  all_apart : AllPairs Apart rs
  all_apart i j d l m = before_apart ks (get_or rs i d) (get_or rs j d) (h.order i j d l m)

  -- There are as many as points: no more, since no two are of one point, and no fewer, since each point has one.
  records_count : length rs ≡ point_count ks
  records_count =
      omega (
        arith,
        few_points ks (λ r. r.position) (λ r. r.setting) rs all_inside all_apart,
        many_points ks (λ r. r.position) (λ r. r.setting) rs (λ k v o. (record_of p k v, h.each k v o, refl, refl)),
      )

-- The records of policies that say the same at a point are the same.
record_same : (p q : Policy) (k : ℕ) (v : List Bool) → p k v ≡ q k v → record_of p k v ≡ record_of q k v
record_same p q k v e = ap (λ (x : Bool). record { position = k; setting = number v; on = x; off = not x }) e

module _ (ks : List Kind) where
  -- Of two records only one comes before the other.
  never_both : (a b : Record) → RecordBefore ks a b → RecordBefore ks b a → ⊥
  never_both a b h g =
      ⊎_elim
      (λ l. ⊎_elim (λ m. omega arith) (λ t. let e = t.0 in omega arith) g)
      (λ s. ⊎_elim (λ m. let e = s.0 in omega arith) (λ t. let l = s.1 in let m = t.1 in omega arith) g)
      h

  -- The policies of two searches say the same at every point, so both lists have the same records.
  pub one_list_found : (kept : List Bool → Bool) → OneListFound kept ks
  one_list_found kept rs ss a b =
      let p = a.policy in
      let q = b.policy in
      let same = lists_alike (Point ks) (record_of q) (RecordBefore ks) (record_of p) ss (λ k v o. record_same q p k v (a.searched.only q b.searched.on k v o)) b.each_once in
      lists_one (Point ks) (record_of p) (RecordBefore ks) never_both rs ss a.each_once same

-- Of books that have records, where clearing and adding do with them what they do in a list book.
module _ {B : Type 0} (records : B → List Record) (ks : List Kind) where
  abbrev Clears : B → B → Type 0
  Clears = ClearsAll (λ (x y : B). records y ≡ []) (λ (b : B). list_guards (records b)) ks

  abbrev Adds : B → Side → ℕ → List Bool → B → Type 0
  Adds = AddsOne (λ (x : B) (side : Side) (k : ℕ) (v : List Bool) (y : B). records y ≡ with_guard (records x) side k (number v)) (λ (b : B). list_guards (records b)) ks

  abbrev AddsGuard : B → Guard → B → Type 0
  AddsGuard x g y = Adds x g.side g.position g.setting y

  -- A guard that comes after all before it appends a record.
  appends : (gs : List Guard) (x : B) (g : Guard) (y : B) → (AllPairs (MetBefore ks) gs → records x ≡ map written gs) → AddsGuard x g y
      → AllPairs (MetBefore ks) (gs ++ g ∷ []) → records y ≡ map written (gs ++ g ∷ [])
  appends gs x g y before step order =
      let k = g.position in
      let s = number g.setting in
      let now : records x ≡ map written gs = before (pairs_front (MetBefore ks) gs g order) in
      let new : list_any (is_of k s) (map written gs) ≡ false =
      list_any_none (is_of k s) (map written gs) (All-map (λ r. is_of k s r ≡ false) written gs
      (All-weaker (λ a. MetBefore ks a g) (λ a. is_of k s (written a) ≡ false) (λ a h. not_of ks a g h) gs (pairs_last (MetBefore ks) gs g order))) in
      step.0
      ∙ ap (λ rs. with_guard rs g.side k s) now
      ∙ with_new (map written gs) g.side k s new
      ∙ sym (map-append written gs (g ∷ []))

  -- So guards in order leave their records in the same order.
  run_writes : (gs : List Guard) (x y : B) → records x ≡ [] → AllPairs (MetBefore ks) gs → Run Adds x gs y → records y ≡ map written gs
  run_writes gs x y none order run =
      chained_keeps AddsGuard (λ hs b. AllPairs (MetBefore ks) hs → records b ≡ map written hs) appends gs x y (λ _. none) run order

  module _ (before after : B) where
    filled_records : (p : Policy) → Filled Clears Adds ks p before after → Lists (Point ks) (record_of p) (RecordBefore ks) (records after)
    filled_records p f =
        subst (Lists (Point ks) (record_of p) (RecordBefore ks)) (sym (run_writes f.guards f.cleared after f.clears.0 f.each_once.order f.adds))
        (lists_map written (Point ks) (guard_of p) (record_of p) (MetBefore ks) (RecordBefore ks) (written_of p) (written_before ks) f.guards f.each_once)

    pub list_found : (kept : List Bool → Bool) → Found Clears Adds kept ks before after (list_guards (records after)) → ListFound kept ks (records after)
    list_found kept f =
        let listed = filled_records f.policy f.filled in
        record { policy = f.policy; means = f.means; searched = f.searched; each_once = listed; count = records_count ks f.policy (records after) listed }
