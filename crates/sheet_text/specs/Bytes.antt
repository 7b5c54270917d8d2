-- What the lexer finds in a stretch of bytes.
use Rattle.std.specs.Prelude.{◌≡◌, ℕ, ◌<◌, ◌≤◌, List, slice_index}

abbrev pub Space : ℕ → Type 0
Space b = b ≡ 32

-- A byte that a text may have besides the line end.
abbrev pub Printable : ℕ → Type 0
Printable b = (32 ≤ b) × (b ≤ 126)

-- One that a word may have: it is no space either.
abbrev pub Visible : ℕ → Type 0
Visible b = (32 < b) × (b ≤ 126)

-- Each of the first n bytes is of a kind.
abbrev pub EachBefore : ℕ → (ℕ → Type 0) → List ℕ → Type 0
EachBefore n P t = (k : ℕ) → k < n → P (slice_index t k)
