-- What a search writes into a list book.
use Rattle.std.specs.Prelude.{◌≡◌, ℕ, ◌-◌, ◌*◌, ◌^◌, ◌<◌, Bool, not, ◌⊎◌, List, length}
use Rattle.prefix.specs.Kinds.{report_count, reports_before}
use Rattle.prefix.specs.Points.{Point, point_count}
use Rattle.prefix.specs.Policies.{Policy}
use Rattle.prefix.specs.Settings.{number}
use Rattle.prefix.specs.declared.kind.Kind.{Kind}
use Rattle.book.specs.Guards.{Means}
use Rattle.book.specs.Records.{list_guards, Apart}
use Rattle.book.specs.declared.record.Record.{Record}
use Rattle.play.specs.Filling.{first_number}
use Rattle.play.specs.Found.{Searched}
use Rattle.play.specs.Listing.{Lists}

-- The record of a point in a list book that means a policy.
abbrev pub record_of : Policy → ℕ → List Bool → Record
record_of p k v = record { position = k; setting = number v; on = p k v; off = not (p k v) }

-- The number of the first setting that has a record's point: all reports from its position on are off.
abbrev pub first_with : List Kind → Record → ℕ
first_with ks r = r.setting * 2 ^ (report_count ks - reports_before ks r.position)

-- One record's point is met before another's, with the settings taken in rising number and at each its replies in order.
abbrev pub RecordBefore : List Kind → Record → Record → Type 0
RecordBefore ks a b = (first_with ks a < first_with ks b) ⊎ ((first_with ks a ≡ first_with ks b) × (a.position < b.position))

-- The order is that in which a search adds guards, and a list in it has no two records of one point.
pub record RecordOrder (ks : List Kind) : Type 0 where
  pub first : (p : Policy) (k : ℕ) (v : List Bool) → first_with ks (record_of p k v) ≡ first_number ks k v
  pub apart : (a b : Record) → RecordBefore ks a b → Apart a b

-- The records of a list book after a search: those of the policy that it finds, at all points, each once, in the order in
-- which they are met. There are T of them.
pub record ListFound (kept : List Bool → Bool) (ks : List Kind) (rs : List Record) : Type 0 where
  pub policy : Policy
  pub means : Means ks (list_guards rs) policy
  pub searched : Searched kept ks policy
  pub each_once : Lists (Point ks) (record_of policy) (RecordBefore ks) rs
  pub count : length rs ≡ point_count ks

-- A sheet's searches write one list only.
abbrev pub OneListFound : (List Bool → Bool) → List Kind → Type 0
OneListFound kept ks = (rs ss : List Record) → ListFound kept ks rs → ListFound kept ks ss → rs ≡ ss
