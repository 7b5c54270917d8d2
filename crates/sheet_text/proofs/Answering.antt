-- What reading a text into a table gives, from what its words gave.
use Rattle.std.proofs.Common.{◌≡◌, ℕ, List, Ok, Err, Result, sym, refl, ap, ◌∙◌, subst, inl, inr}
use Rattle.prefix.specs.Limits.{Limits}
use Rattle.sheet.specs.declared.rule.Rule.{Rule}
use Rattle.sheet_text.specs.Reading.{Progress, read_through, read_text}
use Rattle.sheet_text.specs.Sheets.{Sheet}
use Rattle.sheet_text.specs.Drafts.{Stands, Passed}
use Rattle.sheet_text.specs.Tables.{Outcome, Meant}
use Rattle.faults.specs.declared.sheet.SheetFault.{SheetFault}
use Rattle.sheet_text.specs.declared.state.State.{State}
use Rattle.sheet_text.specs.declared.draft.Draft.{Draft}
use Rattle.sheet_text.specs.declared.reading.Reading.{Reading}
use Rattle.sheet_text.proofs.Refusals.{refused_exactly}
use Rattle.sheet_text.proofs.TextReads.{read-says, read_exactly}

-- Where the words were read, the text was.
pub passed_ok : (t : List ℕ) (d : Draft) → Passed (read_through t) (Ok tt) d → (z : Progress) × (read_through t ≡ Ok z) × Stands z d
passed_ok t d h = by (read_through t) refl h
  where
    by : (o : Result Progress SheetFault) → read_through t ≡ o → Passed o (Ok tt) d → (z : Progress) × (read_through t ≡ Ok z) × Stands z d
    by (Ok z) is h = (z, is, h)
    by (Err f) is h = absurd h

pub limits : (t : List ℕ) (d : Draft) → Passed (read_through t) (Ok tt) d → Limits d.reader.state.length d.reader.state.reports
limits t d h =
    let z = passed_ok t d h in
    subst (λ (m : State). Limits m.length m.reports) (sym z.2.reader) (read-says t z.0 z.1).1

-- The outcome, by what the text says and by what is wrong with it.
pub meant : (t : List ℕ) (r : Result Reading SheetFault) (before after : List Rule) → Outcome (read_text t) r before after → Meant t r before after
meant t r before after h = by (read_text t) refl r h
  where
    by : (o : Result Sheet SheetFault) → read_text t ≡ o → (r : Result Reading SheetFault) → Outcome o r before after → Meant t r before after
    by (Ok s) is (Ok reading) h = (s, (read_exactly t s).0 is, h)
    by (Ok s) is (Err f) h = (h.2, inr (h.1, (s, (read_exactly t s).0 is, h.0)))
    by (Err g) is (Ok reading) h = absurd h
    by (Err g) is (Err f) h = (h.1, inl ((refused_exactly t f).0 (is ∙ ap Err (sym h.0))))
