-- What every prefix keeps.
use Rattle.std.specs.Prelude.{ℕ, ◌^◌, ◌<◌, ◌≤◌, count_ones}

-- 1 to 24 positions, no report past the last, at most 12 reports.
abbrev pub Limits : ℕ → ℕ → Type 0
Limits length reports = (1 ≤ length) × (length ≤ 24) × (reports < 2 ^ length) × (count_ones reports ≤ 12)
