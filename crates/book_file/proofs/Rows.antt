-- The numbers of rows: that they are small, and how they follow each other.
use Rattle.std.proofs.Common.{All, ◌≡◌, ℕ, ◌+◌, ◌-◌, ◌%◌, ◌^◌, ◌<◌, ◌≤◌, true, List, [], ◌∷◌, ◌++◌, length, take, drop, get_or, refl, sym, ap, ◌∙◌, pow_mono, arith}
use lib.Bits.{bit_and}
use Rattle.std.proofs.lemmas.Nat.{and_le_r}
use Rattle.std.proofs.Math.Nat.{mod-le}
use Rattle.std.proofs.lemmas.Bool.Decides.{Decides-eqb}
use Rattle.std.proofs.lemmas.List.{take_more, take-append-drop, length-append}
use Rattle.std.proofs.lemmas.List.Elements.{All-nil, All-cons}
use Rattle.prefix.specs.Bits.{mask_value}
use Rattle.prefix.specs.Kinds.{kind_at}
use Rattle.prefix.specs.Prefixes.{kinds}
use Rattle.prefix.specs.declared.prefix.Prefix.{Prefix}
use Rattle.prefix.proofs.Cuts.{before_decides}
use Rattle.prefix.proofs.Positions.{length-kinds}
use Rattle.prefix.proofs.Replies.{reply_kind, reply_within}
use Rattle.book.specs.Rows.{WellMade}
use Rattle.book.specs.declared.row.Row.{Row}
use Rattle.book.specs.declared.side.Side.{Side}
use Rattle.book.specs.declared.side.Side.TheVariants.{On, Off}
use Rattle.book.proofs.Rows.{within_decides}
use Rattle.book_file.specs.Files.{side_number, row_numbers, rows_numbers}
use Rattle.book_file.specs.Numbers.{bytes_of}
use Rattle.book_file.proofs.Sizes.{bytes-append}

-- A number that four groups hold.
abbrev pub Small : ℕ → Type 0
Small n = n < 2 ^ 28

pub side_small : (s : Side) → side_number s ≤ 1
side_small On = omega arith
side_small Off = omega arith

-- A mask within another is no larger.
pub within_le : (a b : ℕ) → ((k : ℕ) → mask_value a k ≡ true → mask_value b k ≡ true) → a ≤ b
within_le a b h = omega (arith, (Decides-eqb (bit_and a b) a).0 ((within_decides a b).1 h), and_le_r a b)

reports_small : (p : Prefix) → p.reports < 2 ^ 24
reports_small p = omega (arith, p.ok.2, pow_mono p.ok.1)

module _ (p : Prefix) (r : Row) (h : WellMade p r) where
  pub position_within : r.position ≤ 24
  position_within = omega (arith, reply_within (kinds p) r.position (reply_kind (kind_at (kinds p) r.position) h.reply), length-kinds p.length p.reports, p.ok.1)

  looked_small : r.looked_at < 2 ^ 24
  looked_small =
      let before = p.reports % 2 ^ (r.position - 1) in
      omega (arith, within_le r.looked_at before (λ k l. (before_decides p r.position k).1 (h.looks k l)), mod-le p.reports (2 ^ (r.position - 1)), reports_small p)

  wanted_small : r.wanted_on < 2 ^ 24
  wanted_small = omega (arith, within_le r.wanted_on r.looked_at h.wants, looked_small)

  -- The numbers of a row that is well made are small.
  pub row_small : All Small (row_numbers r)
  row_small =
      All-cons Small r.position (side_number r.side ∷ r.looked_at ∷ r.wanted_on ∷ []) (omega (arith, position_within))
      (All-cons Small (side_number r.side) (r.looked_at ∷ r.wanted_on ∷ []) (omega (arith, side_small r.side))
      (All-cons Small r.looked_at (r.wanted_on ∷ []) (omega (arith, looked_small))
      (All-cons Small r.wanted_on [] (omega (arith, wanted_small)) (All-nil Small))))

-- So are those before the rows.
pub header_small : (p : Prefix) (n : ℕ) → n ≤ 65535 → All Small (p.length ∷ p.reports ∷ n ∷ [])
header_small p n h =
    All-cons Small p.length (p.reports ∷ n ∷ []) (omega (arith, p.ok.1))
    (All-cons Small p.reports (n ∷ []) (omega (arith, reports_small p))
    (All-cons Small n [] (omega arith) (All-nil Small)))

pub rows-append : (rows others : List Row) → rows_numbers (rows ++ others) ≡ rows_numbers rows ++ rows_numbers others
rows-append [] others = refl
rows-append (r ∷ rows) others = ap (λ (ns : List ℕ). row_numbers r ++ ns) (rows-append rows others)

-- The numbers of one row more.
pub rows_push : (rows : List Row) (r : Row) → rows_numbers (rows ++ r ∷ []) ≡ rows_numbers rows ++ row_numbers r
rows_push rows r = rows-append rows (r ∷ [])

-- The row that stands for one past the end of a list.
abbrev pub no_row : Row
no_row = record { position = 0; side = On; looked_at = 0; wanted_on = 0 }

-- The numbers of a file up to its i-th row, the prefix and the number of rows in front.
module _ (p : Prefix) (n : ℕ) (rows : List Row) where
  abbrev pub numbers_to : ℕ → List ℕ
  numbers_to i = p.length ∷ p.reports ∷ n ∷ rows_numbers (take i rows)

  pub to_next : (i : ℕ) → i < length rows → bytes_of (numbers_to (i + 1)) ≡ bytes_of (numbers_to i) ++ bytes_of (row_numbers (get_or rows i no_row))
  to_next i l =
      ap (λ (ns : List ℕ). bytes_of (p.length ∷ p.reports ∷ n ∷ ns)) (ap rows_numbers (take_more rows i no_row l) ∙ rows_push (take i rows) (get_or rows i no_row))
      ∙ bytes-append (numbers_to i) (row_numbers (get_or rows i no_row))

  pub length_next : (i : ℕ) → i < length rows → length (bytes_of (numbers_to (i + 1))) ≡ length (bytes_of (numbers_to i)) + length (bytes_of (row_numbers (get_or rows i no_row)))
  length_next i l = ap length (to_next i l) ∙ length-append (bytes_of (numbers_to i)) (bytes_of (row_numbers (get_or rows i no_row)))

  pub length_to : (i : ℕ) → length (bytes_of (numbers_to i)) ≤ length (bytes_of (p.length ∷ p.reports ∷ n ∷ rows_numbers rows))
  length_to i =
      let rest = rows_numbers (drop i rows) in
      let all : rows_numbers rows ≡ rows_numbers (take i rows) ++ rest = sym (ap rows_numbers (take-append-drop i rows)) ∙ rows-append (take i rows) (drop i rows) in
      omega (arith, ap (λ (ns : List ℕ). length (bytes_of (p.length ∷ p.reports ∷ n ∷ ns))) all, ap length (bytes-append (numbers_to i) rest), length-append (bytes_of (numbers_to i)) (bytes_of rest))
