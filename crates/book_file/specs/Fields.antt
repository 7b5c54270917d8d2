-- The fields of a book's file, one number each: which comes when, and which values it may have.
use Rattle.std.specs.Prelude.{◌≡◌, ℕ, zero, suc, ◌^◌, ◌<◌, ◌≤◌, true, List, [], ◌∷◌, ◌++◌, Some, None, Option}
use Rattle.prefix.specs.Bits.{mask_value}
use Rattle.prefix.specs.Kinds.{is_report, is_reply}
use Rattle.prefix.specs.Limits.{Limits}
use Rattle.prefix.specs.Prefixes.{kinds_of}
use Rattle.book_file.specs.declared.field.Field.{Field}
use Rattle.book_file.specs.declared.field.Field.TheVariants.{Length, Reports, RowCount, Position, Side, LookedAt, WantedOn}

-- The field after some numbers of the rows from the i-th on, of which `left` are still to come; none where all are there.
abbrev pub next_in_rows : ℕ → ℕ → List ℕ → Option Field
next_in_rows zero i ns = None
next_in_rows (suc left) i [] = Some (Position i)
next_in_rows (suc left) i (k ∷ []) = Some (Side i)
next_in_rows (suc left) i (k ∷ s ∷ []) = Some (LookedAt i)
next_in_rows (suc left) i (k ∷ s ∷ l ∷ []) = Some (WantedOn i)
next_in_rows (suc left) i (k ∷ s ∷ l ∷ w ∷ ns) = next_in_rows left (suc i) ns

-- The field after some numbers of a file.
abbrev pub next : List ℕ → Option Field
next [] = Some Length
next (n ∷ []) = Some Reports
next (n ∷ m ∷ []) = Some RowCount
next (n ∷ m ∷ count ∷ ns) = next_in_rows count 0 ns

-- The values that may stand after some numbers of the rows, over n positions with the reports of the mask m: a reply's
-- position; a side; a mask of reports before that position; a mask of positions that are on in the mask before it.
abbrev pub AllowedInRows : ℕ → ℕ → List ℕ → ℕ → Type 0
AllowedInRows n m [] x = is_reply (kinds_of n m) x ≡ true
AllowedInRows n m (k ∷ []) x = x ≤ 1
AllowedInRows n m (k ∷ s ∷ []) x = (j : ℕ) → mask_value x j ≡ true → (is_report (kinds_of n m) j ≡ true) × (j < k)
AllowedInRows n m (k ∷ s ∷ l ∷ []) x = (j : ℕ) → mask_value x j ≡ true → mask_value l j ≡ true
AllowedInRows n m (k ∷ s ∷ l ∷ w ∷ ns) x = AllowedInRows n m ns x

-- The values that may stand after some numbers of a file: 1 to 24 positions; reports within a prefix's limits; at most
-- 65,535 rows; and what a row allows.
abbrev pub Allowed : List ℕ → ℕ → Type 0
Allowed [] x = (1 ≤ x) × (x ≤ 24)
Allowed (n ∷ []) x = Limits n x
Allowed (n ∷ m ∷ []) x = x ≤ 65535
Allowed (n ∷ m ∷ count ∷ ns) x = AllowedInRows n m ns x

-- Of some numbers each may stand after those before it.
abbrev pub EachAfter : (List ℕ → ℕ → Type 0) → List ℕ → Type 0
EachAfter Fits ns = (before : List ℕ) (x : ℕ) (after : List ℕ) → ns ≡ before ++ x ∷ after → Fits before x

-- After some numbers of a file a field is wanted, and the number is one that it may have.
abbrev pub Follows : List ℕ → ℕ → Type 0
Follows before x = (x < 2 ^ 28) × ((f : Field) × (next before ≡ Some f)) × Allowed before x

-- Numbers of a file that are as they should be, as far as they go.
abbrev pub Begun : List ℕ → Type 0
Begun ns = EachAfter Follows ns
