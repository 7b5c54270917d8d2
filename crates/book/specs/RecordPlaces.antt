-- Where a search puts records, as inner calls state it. Nothing else depends on it than how soon a record is found.
use Rattle.std.specs.Prelude.{◌≡◌, ℕ, ◌+◌, ◌*◌, ◌/◌, ◌^◌, ◌<◌, cond, List, length, ◌≢◌, nat_lt, slice_index_or}
use Rattle.std.specs.Int.{div_ceil}
use Rattle.prefix.specs.Kinds.{is_reply, report_count, reports_before}
use Rattle.prefix.specs.Points.{sum_to}
use Rattle.prefix.specs.declared.kind.Kind.{Kind}
use Rattle.book.specs.declared.record.Record.{Record}

-- How many settings of the reports from position k on there are.
abbrev pub later_settings : List Kind → ℕ → ℕ
later_settings ks k = 2 ^ report_count ks / 2 ^ reports_before ks k

-- How many points of position k a search meets in the settings of numbers below n.
abbrev pub met_below : List Kind → ℕ → ℕ → ℕ
met_below ks n k = cond (is_reply ks k) (div_ceil n (later_settings ks k)) 0

-- How many points of position j it meets before it comes, in the setting of number n, to position k.
abbrev pub met_before : List Kind → ℕ → ℕ → ℕ → ℕ
met_before ks k n j = met_below ks (cond (nat_lt j k) (n + 1) n) j

-- How many points it meets before that of position k and setting number s.
abbrev pub place_of : List Kind → ℕ → ℕ → ℕ
place_of ks k s = sum_to (met_before ks k (s * later_settings ks k)) (length ks)

-- The first n records stand where a search puts them.
abbrev pub InPlace : List Kind → List Record → ℕ → Type 0
InPlace ks memory n = (i : ℕ) (d : Record) → i < n → place_of ks (slice_index_or memory i d).position (slice_index_or memory i d).setting ≡ i

-- Of the first n records no more than m stand there in a row from the first.
abbrev pub NoMoreInPlace : List Kind → List Record → ℕ → ℕ → Type 0
NoMoreInPlace ks memory m n = (d : Record) → m < n → place_of ks (slice_index_or memory m d).position (slice_index_or memory m d).setting ≢ m
