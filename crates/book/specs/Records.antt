-- List books: what records mean, and what `add` makes of them.
use Rattle.std.specs.Prelude.{◌≡◌, ℕ, ◌^◌, ◌<◌, ◌≤◌, Bool, true, cond, ◌&&◌, ◌||◌, List, [], ◌∷◌, ◌++◌, length, All, AllPairs, ◌==◌, nat_le, map}
use Rattle.std.specs.List.{list_any}
use Rattle.prefix.specs.Kinds.{is_reply, reports_before}
use Rattle.prefix.specs.Points.{point_count}
use Rattle.prefix.specs.Prefixes.{kinds}
use Rattle.prefix.specs.Settings.{number}
use Rattle.prefix.specs.declared.kind.Kind.{Kind}
use Rattle.prefix.specs.declared.prefix.Prefix.{Prefix}
use Rattle.book.specs.Guards.{Guards, same_side}
use Rattle.book.specs.declared.side.Side.{Side}
use Rattle.book.specs.declared.side.Side.TheVariants.{On, Off}
use Rattle.book.specs.declared.record.Record.{Record}

-- Whether a record is that of the point of position k and setting number s.
abbrev pub is_of : ℕ → ℕ → Record → Bool
is_of k s r = (r.position == k) && (r.setting == s)

-- What a record says for a side.
abbrev pub says : Side → Record → Bool
says On r = r.on
says Off r = r.off

-- The guards that records mean: that of a side at a point is yes where a record of the point says so.
abbrev pub list_guards : List Record → Guards
list_guards rs side k v = list_any (λ (r : Record). is_of k (number v) r && says side r) rs

-- A record with the guard of a side turned yes.
abbrev pub turned : Side → Record → Record
turned side r = record r { on = same_side side On || r.on; off = same_side side Off || r.off }

-- A point's first record, with one guard yes.
abbrev pub first_record : Side → ℕ → ℕ → Record
first_record side k s = record { position = k; setting = s; on = same_side side On; off = same_side side Off }

-- The records after a guard is added: the record of its point is turned, or, where there is none, one is appended.
abbrev pub with_guard : List Record → Side → ℕ → ℕ → List Record
with_guard rs side k s = cond (list_any (is_of k s) rs) (map (λ (r : Record). cond (is_of k s r) (turned side r) r) rs) (rs ++ first_record side k s ∷ [])

-- A record is of a point that a guard was added at: a reply's position, the number of a setting before it, and a guard that is yes.
abbrev pub OfPoint : List Kind → Record → Type 0
OfPoint ks r = (is_reply ks r.position ≡ true) × (r.setting < 2 ^ reports_before ks r.position) × ((r.on || r.off) ≡ true)

-- Two records are of different points.
abbrev pub Apart : Record → Record → Type 0
Apart a b = (a.position ≡ b.position) → (a.setting ≡ b.setting) → ⊥

-- There is one record a point: each is of a point, no two are of one, and so they are no more than the points.
pub record OneAPoint (ks : List Kind) (rs : List Record) : Type 0 where
  pub points : All (OfPoint ks) rs
  pub apart : AllPairs Apart rs
  pub few : length rs ≤ point_count ks

-- Memory suffices where it holds a record for each point.
abbrev pub suffice : Prefix → List Record → Bool
suffice p memory = nat_le (point_count (kinds p)) (length memory)
