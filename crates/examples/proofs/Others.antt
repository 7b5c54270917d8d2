-- The other sheets, the number 128, and bytes that no file begins with.
use Rattle.std.proofs.Common.{◌≡◌, ℕ, [], ◌∷◌, map, refl, sym, ◌<◌, ◌≤◌, zero, suc, get_or, Ok, Err, codes, ap, ⊎_elim, arith}
use Rattle.std.proofs.lemmas.Nat.{ones_le_self}
use Rattle.std.proofs.lemmas.Bool.{true≢false}
use Rattle.prefix.specs.Policies.{Winnable}
use Rattle.prefix.specs.declared.kind.Kind.TheVariants.{Report, Reply}
use Rattle.prefix.specs.declared.prefix.Prefix.{Prefix}
use Rattle.sheet.specs.Rules.{rules_kept}
use Rattle.sheet.specs.declared.form.Form.TheVariants.{Cnf, Dnf}
use Rattle.sheet_text.specs.Cuts.{cut}
use Rattle.sheet_text.specs.Reading.{read_text, read_through, run}
use Rattle.sheet_text.specs.Sheets.{Sheet}
use Rattle.sheet_text.specs.Words.{numeral_of}
use Rattle.worth.proofs.Policies.{yes_means_winnable}
use Rattle.book_file.specs.Fields.{Follows}
use Rattle.book_file.specs.Numbers.{IsNumber, NoNumber, number_bytes}
use Rattle.book_file.specs.Refusing.{HasFault}
use Rattle.book_file.specs.declared.fault.BookFault.TheVariants.{Number}
use Rattle.book_file.specs.declared.field.Field.TheVariants.{Length}
use Rattle.book_file.proofs.Beginning.{each_none}
use Rattle.book_file.proofs.Grouping.{one_form, zero_last}
use Rattle.book_file.specs.Faults.{book_fault_number, book_fault_place}
use Rattle.book_file.proofs.Deciding.{decided}
use Rattle.examples.specs.Examples.{FaultOf}
use Rattle.examples.specs.Answers.{UnreadOnly}
use Rattle.examples.proofs.Rules.{rule_of}
use Rattle.examples.proofs.SiteF.{on, off}

-- A report and two replies: each reply is off where the report is off, and one of them is on where it is on.
abbrev pub report_first : Sheet
report_first = record {
  form = Cnf;
  kinds = Report ∷ Reply ∷ Reply ∷ [];
  rules = (off 3 ∷ on 1 ∷ []) ∷ (off 2 ∷ on 1 ∷ []) ∷ (on 3 ∷ on 2 ∷ off 1 ∷ []) ∷ [];
}

pub read_report_first : read_text (codes "p cnf 3 3\na 1 0\ne 2 3 0\n-3 1 0\n-2 1 0\n3 2 -1 0\n") ≡ Ok report_first
unfolding read_through run cut numeral_of lib.Count.ones
read_report_first = refl

abbrev pub report_first_prefix : Prefix
report_first_prefix = record { length = 3; reports = 1; ok = (omega arith, omega arith, omega arith, omega (arith, ones_le_self 1)) }

-- The same with the report last, at position 3.
abbrev pub report_last : Sheet
report_last = record {
  form = Cnf;
  kinds = Reply ∷ Reply ∷ Report ∷ [];
  rules = (off 2 ∷ on 3 ∷ []) ∷ (off 1 ∷ on 3 ∷ []) ∷ (on 2 ∷ on 1 ∷ off 3 ∷ []) ∷ [];
}

pub read_report_last : read_text (codes "p cnf 3 3\ne 2 3 0\na 1 0\n-3 1 0\n-2 1 0\n3 2 -1 0\n") ≡ Ok report_last
unfolding read_through run cut numeral_of lib.Count.ones
read_report_last = refl

abbrev pub report_last_prefix : Prefix
report_last_prefix = record { length = 3; reports = 4; ok = (omega arith, omega arith, omega arith, omega (arith, ones_le_self 4)) }

pub none_wins_last : Winnable (rules_kept Cnf 3 (map rule_of report_last.rules)) (Reply ∷ Reply ∷ Report ∷ []) [] → ⊥
none_wins_last w = true≢false (sym ((yes_means_winnable (rules_kept Cnf 3 (map rule_of report_last.rules)) (Reply ∷ Reply ∷ Report ∷ []) []).1 w))

-- One reply, and a term without literals.
abbrev pub empty_term : Sheet
empty_term = record { form = Dnf; kinds = Reply ∷ []; rules = [] ∷ [] }

pub read_empty_term : read_text (codes "p dnf 1 1\ne 1 0\n0\n") ≡ Ok empty_term
unfolding read_through run cut numeral_of lib.Count.ones
read_empty_term = refl

abbrev pub empty_term_prefix : Prefix
empty_term_prefix = record { length = 1; reports = 0; ok = (omega arith, omega arith, omega arith, omega (arith, ones_le_self 0)) }

pub number_128 : IsNumber 128 (128 ∷ 1 ∷ [])
unfolding number_bytes
number_128 = (one_form 128 (128 ∷ 1 ∷ [])).1 (omega arith, refl)

-- A last group of 0 is not the shortest form.
not_shortest : NoNumber (255 ∷ 0 ∷ [])
not_shortest = zero_last (255 ∷ 0 ∷ []) 1 (λ j lt. first j lt) refl (omega arith)
  where
    first : (j : ℕ) → j < 1 → 128 ≤ get_or (255 ∷ 0 ∷ []) j 0
    first zero lt = omega arith
    first (suc j) lt = absurd (omega arith)

not_begun : HasFault (255 ∷ 0 ∷ []) (Number 0 Length)
not_begun = record {
  numbers = [];
  rest = 255 ∷ 0 ∷ [];
  begun = each_none Follows;
  parts = refl;
  wrong = (refl, refl, not_shortest);
}

pub not_read : FaultOf (255 ∷ 0 ∷ []) 9 0
not_read = (Number 0 Length, not_begun, refl, refl)

pub other_number : (m : ℕ) → IsNumber m (128 ∷ 1 ∷ []) → m ≡ 128
other_number m h = sym h.value

pub unread_only : UnreadOnly (255 ∷ 0 ∷ []) 9 0
unread_only (Ok r) before after h = (decided (255 ∷ 0 ∷ [])).not_both r.prefix h.0 (Number 0 Length) h.1 not_begun
unread_only (Err f) before after h =
    ⊎_elim (λ (own : HasFault (255 ∷ 0 ∷ []) f). let same : f ≡ Number 0 Length = (decided (255 ∷ 0 ∷ [])).one_fault f (Number 0 Length) own not_begun in
    (ap book_fault_number same, ap book_fault_place same))
    (λ short. absurd ((decided (255 ∷ 0 ∷ [])).not_both short.1.prefix short.1.rows (Number 0 Length) short.1.says not_begun)) h.1
