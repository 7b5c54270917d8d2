-- A text is read exactly when the grammar has it say a sheet, and then as that sheet.
use Rattle.std.proofs.lemmas.Bool.Decides.{nat_tests}
use Rattle.std.proofs.Common.{All, ◌≡◌, ℕ, ◌^◌, ◌<◌, ◌≤◌, ◌↔◌, List, [], ◌∷◌, map, length, Ok, Err, Result, sym, refl, ap, ◌∙◌, subst, arith}
use lib.Count.{ones}
use Rattle.std.proofs.lemmas.List.{length-map}
use Rattle.prefix.proofs.Positions.{length-kinds}
use Rattle.prefix.specs.Kinds.{report_count}
use Rattle.prefix.specs.Limits.{Limits}
use Rattle.prefix.specs.Prefixes.{kinds_of}
use Rattle.sheet_text.specs.Cuts.{stop, tokens}
use Rattle.sheet_text.specs.Grammar.{header_of, Allowed, pieces, words_of, lines_of, Signed, Variable, placed, Says}
use Rattle.sheet_text.specs.Reading.{Progress, begin, run, complete, finished, whole, ending, read_through, sheet_of, sheet_from, read_text}
use Rattle.sheet_text.specs.Sheets.{Sheet}
use Rattle.sheet_text.specs.Grammar.{Header, Begun}
use Rattle.sheet_text.specs.Beginnings.{Awaited, opening, comment, form, variable_count, rule_count, line, variable, literal, over, Awaits}
use Rattle.faults.specs.declared.sheet.SheetFault.{SheetFault}
use Rattle.faults.specs.declared.sheet.SheetFault.TheVariants as fault
use Rattle.sheet_text.specs.declared.state.State.{State}
use Rattle.sheet_text.specs.declared.state.Section.{Section}
use Rattle.sheet_text.specs.declared.state.Section.TheVariants.{Opening, Quantifiers, Rules}
use Rattle.sheet_text.proofs.Awaiting.{section_of, not_opening_then, Late, placed_rules, Reflects}
use Rattle.sheet_text.proofs.Coming.{Came, text_comes}
use Rattle.sheet_text.proofs.LineReads.{nil_cons}
use Rattle.sheet_text.proofs.Lining.{lined_to, lined_text}
use Rattle.sheet_text.proofs.Naming.{Knows, knows_reports}
use Rattle.sheet_text.proofs.Passing.{begun_forth}
use Rattle.sheet_text.proofs.Running.{progress, run_over}
use Rattle.sheet_text.proofs.Steps.{err_ok}
use Rattle.sheet_text.proofs.VariableReads.{kinds_in}

-- The end of a text that is read.
record Finished (m : State) : Type 0 where
  late : m.section ≡ Opening → ⊥
  named : m.named ≡ m.length
  read : m.read ≡ m.rules

abbrev Done : State → Result (Unit {0}) SheetFault → Type 0
Done m (Ok x) = (m.named ≡ m.length) × (m.read ≡ m.rules)
Done m (Err f) = Unit {0}

complete_back : (p : ℕ) (m : State) (x : Unit {0}) → complete p m ≡ Ok x → (m.named ≡ m.length) × (m.read ≡ m.rules)
complete_back p m x e = subst (Done m) e did
  where
    did : Done m (complete p m)
    did = grind (arith, nat_tests)

section_late : (s : Section) (m : State) (p : ℕ) (x : Unit {0}) → finished p s m ≡ Ok x → (s ≡ Opening → ⊥) × (complete p m ≡ Ok x)
section_late Opening m p x e = absurd (err_ok (fault.Word p) x e)
section_late Quantifiers m p x e = ((λ f. cc f), e)
section_late Rules m p x e = ((λ f. cc f), e)

ending_back : (p : ℕ) (o : Result Progress SheetFault) (z : Progress) → ending p o ≡ Ok z → (o ≡ Ok z) × Finished z.reader
ending_back p (Err f) z e = absurd (err_ok f z e)
ending_back p (Ok s) z e = by (finished p s.reader.section s.reader) refl e
  where
    by : (r : Result (Unit {0}) SheetFault) → finished p s.reader.section s.reader ≡ r → whole s r ≡ Ok z → (◌≡◌ {A = Result Progress SheetFault} (Ok s) (Ok z)) × Finished z.reader
    by (Ok x) is q =
        let same : s ≡ z = cc q in
        let l = section_late s.reader.section s.reader p x is in
        let c = complete_back p s.reader x l.1 in
        (q, subst (λ (p : Progress). Finished p.reader) same (record { late = l.0; named = c.0; read = c.1 }))
    by (Err f) is q = absurd (err_ok f z q)

finished_forth : (p : ℕ) (s : Section) (m : State) → (s ≡ Opening → ⊥) → m.named ≡ m.length → m.read ≡ m.rules → finished p s m ≡ Ok tt
finished_forth p Opening m late named read = absurd (late refl)
finished_forth p Quantifiers m late named read = grind (arith, nat_tests)
finished_forth p Rules m late named read = grind (arith, nat_tests)

-- A reader that has read whole lines and waits for no more has read what they say.
lines_say : (t : List ℕ) (z : Progress) (h : Header) (qs : List Variable) (rs : List (List Signed)) → All Allowed t → Begun (lines_of t) h qs rs → Late z.reader h qs (length rs) → z.rules ≡ placed_rules qs rs → Finished z.reader
    → Says t (sheet_of z) × Limits z.reader.length z.reader.reports
lines_say t z h qs rs allowed b l done end =
    let m = z.reader in
    let k = l.knows in
    let q-is : length qs ≡ m.length = sym k.count ∙ end.named in
    let kinds-is : kinds_of m.length m.reports ≡ kinds_in qs = ap (λ (n : ℕ). kinds_of n m.reports) (sym q-is) ∙ k.kinds in
    let long : length (kinds_of m.length m.reports) ≡ h.length = length-kinds m.length m.reports ∙ l.length in
    let many : length z.rules ≡ h.rules = ap length done ∙ length-map rs (map (placed qs)) ∙ sym l.read ∙ end.read ∙ l.rules in
    let header : h ≡ header_of (sheet_of z) = λ i. record { form = sym l.form i; length = sym long i; rules = sym many i } in
    let mask : m.reports < 2 ^ m.length = subst (λ (n : ℕ). m.reports < 2 ^ n) q-is k.mask in (
      record {
        variables = qs;
        rules = rs;
        allowed = allowed;
        lines = subst (λ (h : Header). Begun (lines_of t) h qs rs) header b;
        kinds = kinds-is;
        literals = done;
      },
      (omega (arith, b.positions.0, l.length), omega (arith, b.positions.1, l.length), mask, reports_few m qs k b.quantified.reports),
    )
  where
    reports_few : (m : State) (qs : List Variable) → Knows m qs → report_count (kinds_in qs) ≤ 12 → ones m.reports ≤ 12
    reports_few m qs k few = omega (arith, knows_reports m qs k)

-- A text that is read says the sheet that is read, whose prefix is within the limits.
pub read-says : (t : List ℕ) (z : Progress) → read_through t ≡ Ok z → Says t (sheet_of z) × Limits z.reader.length z.reader.reports
unfolding read_through
read-says t z e =
    let done = ending_back (length t) (run begin (tokens t)) z e in
    let came = subst (Came t) done.0 (text_comes t) in
    by came.1.0 came.1.1 came.1.2 came.0 done.1
  where
    by : (a : Awaited) → Awaits (lines_of t) [] a → Reflects z.reader z.literals z.rules a → All Allowed t → Finished z.reader → Says t (sheet_of z) × Limits z.reader.length z.reader.reports
    by opening a r allowed end = absurd (end.late (ap (λ (m : State). m.section) r.0))
    by comment a r allowed end = absurd (nil_cons a.1.1)
    by form a r allowed end = absurd (nil_cons a.1)
    by (variable_count f) a r allowed end = absurd (nil_cons a.1)
    by (rule_count f n) a r allowed end = absurd (nil_cons a.2)
    by (line h qs rs) a r allowed end = lines_say t z h qs rs allowed a.0 r.2 r.4 end
    by (variable h qs k vs) a r allowed end = absurd (nil_cons a.2)
    by (literal h qs rs []) a r allowed end = absurd (omega (arith, a.4))
    by (literal h qs rs (s ∷ ss)) a r allowed end = absurd (nil_cons a.5)
    by (over h qs rs) a r allowed end = absurd (omega (arith, a.1))

-- A text that says a sheet is read as that sheet.
pub says-read : (t : List ℕ) (s : Sheet) → Says t s → (z : Progress) × (read_through t ≡ Ok z) × (sheet_of z ≡ s)
unfolding read_through
says-read t s h =
    let qs = h.variables in
    let raw = map words_of (pieces 10 t) in
    let p = begun_forth (lines_of t) (header_of s) qs h.rules raw (tokens t) stop h.lines (lined_to raw (tokens t) (lined_text t h.allowed)) refl in
    let m = p.0 in
    let z = progress m p.1 p.2 in
    let l = p.4.2 in
    let long : length qs ≡ length s.kinds = sym (ap length h.kinds ∙ length-map qs (λ q. q.kind)) in
    let many : length h.rules ≡ length s.rules = sym (ap length h.literals ∙ length-map h.rules (map (placed qs))) in
    let named : m.named ≡ m.length = l.knows.count ∙ long ∙ sym l.length in
    let read : m.read ≡ m.rules = l.read ∙ many ∙ sym l.rules in (
      z,
      ap (ending (length t)) (p.3 ∙ run_over z stop refl) ∙ ap (whole z) (ap (λ x. finished (length t) x m) p.4.1 ∙ finished_forth (length t) (section_of (length h.rules)) m (not_opening_then (length h.rules) refl) named read),
      λ i. record {
        form = l.form i;
        kinds = (ap (λ (n : ℕ). kinds_of n m.reports) (l.length ∙ sym long) ∙ l.knows.kinds ∙ sym h.kinds) i;
        rules = (p.4.4 ∙ sym h.literals) i;
      },
    )

from_back : (o : Result Progress SheetFault) (s : Sheet) → sheet_from o ≡ Ok s → (z : Progress) × (o ≡ Ok z) × (sheet_of z ≡ s)
from_back (Ok z) s e = grind (arith, nat_tests)
from_back (Err f) s e = absurd (err_ok f s e)

-- Both ways.
pub read_exactly : (t : List ℕ) (s : Sheet) → (read_text t ≡ Ok s) ↔ Says t s
read_exactly t s = (
  (λ e. let b = from_back (read_through t) s e in subst (Says t) b.2 (read-says t b.0 b.1).0),
  (λ h. let b = says-read t s h in ap sheet_from b.1 ∙ ap Ok b.2),
)
