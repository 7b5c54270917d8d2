-- Books of site F as rows, and the verdicts on them.
use Rattle.std.proofs.Common.{◌≡◌, ℕ, Bool, true, false, List, [], ◌∷◌, length, ◌≤◌, refl}
use Rattle.std.specs.List.{list_all}
use Rattle.std.proofs.lemmas.List.Elements.{All-weaker}
use Rattle.std.proofs.lemmas.List.Sums.{AllPass-from_list_all}
use Rattle.prefix.specs.Lines.{setting_before}
use Rattle.book.specs.Guards.{Guards}
use Rattle.book.specs.RowGuards.{row_agrees, row_guards}
use Rattle.book.specs.Rows.{WellMade}
use Rattle.book.specs.declared.row.Row.{Row}
use Rattle.book.specs.declared.side.Side.{Side}
use Rattle.book.specs.declared.side.Side.TheVariants.{On, Off}
use Rattle.book.proofs.Rows.{agrees_decides}
use Rattle.book_file.specs.Files.{Says, file_bytes}
use Rattle.play.specs.Checking.{Judged}
use Rattle.play.specs.declared.verdict.Verdict.TheVariants.{Accepted, Silent, Torn, Broken}
use Rattle.examples.proofs.SiteF.{prefix_f, kinds_f, kept_f}
use Rattle.examples.proofs.Judging.{accepted, first_fault, first_both, line_holds}

-- A row that agrees with what it wants is well made.
abbrev pub agrees_with_wanted : Row → Bool
agrees_with_wanted r = row_agrees prefix_f r (setting_before prefix_f r.position r.wanted_on)

pub file_says : (file : List ℕ) (rows : List Row) → file ≡ file_bytes prefix_f rows → list_all agrees_with_wanted rows ≡ true → length rows ≤ 65535 → Says file prefix_f rows
file_says file rows bytes agree few = record {
  bytes = bytes;
  fit = record {
    made = All-weaker (λ r. agrees_with_wanted r ≡ true) (WellMade prefix_f) (λ r h. ((agrees_decides prefix_f r r.wanted_on).0 h).made) rows (AllPass-from_list_all agrees_with_wanted rows agree);
    few = few;
  };
}

abbrev pub row : ℕ → Side → ℕ → ℕ → Row
row k side l w = record { position = k; side = side; looked_at = l; wanted_on = w }

-- Reply 2 always on; reply 4 on where report 3 is on, and where both are off; the last row, off where report 1 is on and 3 off.
abbrev pub first_rows : List Row → List Row
first_rows last = row 2 On 0 0 ∷ row 4 On 4 4 ∷ row 4 On 5 0 ∷ last

abbrev pub whole_rows : List Row
whole_rows = first_rows (row 4 Off 5 1 ∷ [])

abbrev pub silent_rows : List Row
silent_rows = first_rows []

abbrev pub torn_rows : List Row
torn_rows = first_rows (row 4 Off 5 1 ∷ row 4 Off 4 4 ∷ [])

abbrev pub broken_rows : List Row
broken_rows = first_rows (row 4 On 5 1 ∷ [])

abbrev pub guards : List Row → Guards
guards rows = row_guards prefix_f rows

pub whole_accepted : Judged kept_f (guards whole_rows) kinds_f Accepted
whole_accepted = accepted kept_f (guards whole_rows) kinds_f refl

pub silent_found : Judged kept_f (guards silent_rows) kinds_f (Silent 4 2)
silent_found =
    let s = true ∷ false ∷ [] in
    first_fault kept_f (guards silent_rows) kinds_f (Silent 4 2) s refl refl (refl, first_both kept_f (guards silent_rows) kinds_f false s 4 refl (refl, refl) refl)

pub torn_found : Judged kept_f (guards torn_rows) kinds_f (Torn 4 1)
torn_found =
    let s = false ∷ true ∷ [] in
    first_fault kept_f (guards torn_rows) kinds_f (Torn 4 1) s refl refl (refl, first_both kept_f (guards torn_rows) kinds_f true s 4 refl (refl, refl) refl)

pub broken_found : Judged kept_f (guards broken_rows) kinds_f (Broken 2)
broken_found =
    let s = true ∷ false ∷ [] in
    first_fault kept_f (guards broken_rows) kinds_f (Broken 2) s refl refl (refl, line_holds kept_f (guards broken_rows) kinds_f false s refl)
