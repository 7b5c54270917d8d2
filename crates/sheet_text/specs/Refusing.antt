-- What is wrong with a text: what stands before the fault, what is wanted there, and what stands there instead.
use Rattle.std.specs.Prelude.{◌↔◌, All, ◌≡◌, ℕ, Bool, false, cond, ◌⊎◌, List, [], ◌++◌, map, length, Ok, Err, Result, ◌==◌, nat_le, nat_lt}
use Rattle.std.specs.List.{list_any}
use Rattle.prefix.specs.Kinds.{report_count}
use Rattle.prefix.specs.declared.kind.Kind.{Kind}
use Rattle.prefix.specs.declared.kind.Kind.TheVariants.{Report, Reply}
use Rattle.sheet_text.specs.Places.{Before, WordAt, LineEndAt, ByteAt}
use Rattle.sheet_text.specs.Grammar.{Header, Begun, Comment, Says}
use Rattle.sheet_text.specs.Beginnings.{Awaited, opening, comment, form, variable_count, rule_count, line, variable, literal, over, Awaits}
use Rattle.sheet_text.specs.Grammar.{Header, Begun, Comment, Says, Allowed, lines_of, Quantifier, Signed, Variable, position_in}
use Rattle.sheet_text.specs.Grammar as grammar
use Rattle.sheet_text.specs.FirstWords.{first_of}
use Rattle.sheet_text.specs.Sheets.{Sheet}
use Rattle.sheet_text.specs.Wanted.{after, number_in, natural_in, natural_within, end_in, form_in}
use Rattle.sheet_text.specs.Words.{Token, letters, number, line_end, place_of, sort_word}
use Rattle.faults.specs.declared.sheet.SheetFault.{SheetFault}
use Rattle.faults.specs.declared.sheet.SheetFault.TheVariants as fault
use Rattle.faults.specs.declared.text.TextFault.TheVariants.{Byte}
use Rattle.sheet_text.specs.declared.first.First.{First}
use Rattle.sheet_text.specs.declared.first.First.TheVariants as first
use Rattle.sheet_text.specs.declared.word.Number.{Number}

-- A line before the header begins with c or p (3).
abbrev pub wrong_opening : First → ℕ → Result (Unit {0}) SheetFault
wrong_opening first.Comment p = Ok tt
wrong_opening first.Header p = Ok tt
wrong_opening (first.Quantifier k) p = Err (fault.Word p)
wrong_opening first.Number p = Err (fault.Word p)
wrong_opening first.Letters p = Err (fault.Word p)
wrong_opening first.Other p = Err (fault.Word p)

-- Twelve reports are named, and a report more comes.
abbrev pub reports_full : List Variable → Kind → Bool
reports_full qs Report = nat_le 12 (report_count (map (λ q. q.kind) qs))
reports_full qs Reply = false

-- 0 ends a quantifier line that has a variable (3). A variable is at most n, and no thirteenth report (4), and was not named before (5).
abbrev pub wrong_variable : ℕ → List Variable → Kind → List ℕ → ℕ → ℕ → Result (Unit {0}) SheetFault
wrong_variable n qs k vs p v =
    cond (v == 0) (cond (length vs == 0) (Err (fault.Word p)) (Ok tt))
    (cond (nat_lt n v) (Err (fault.Limit p))
    (cond (reports_full qs k) (Err (fault.Limit p))
    (cond (position_in qs v == 0) (Ok tt) (Err (fault.Repeated p)))))

-- 0 ends a rule. A literal's variable is at most n (4), and was not named in the rule before (5).
abbrev pub wrong_literal : ℕ → List Signed → ℕ → Number → Result (Unit {0}) SheetFault
wrong_literal n ls p x =
    cond (x.value == 0) (Ok tt)
    (cond (nat_lt n x.value) (Err (fault.Limit p))
    (cond (list_any (λ l. x.value == l.variable) ls) (Err (fault.Repeated p)) (Ok tt)))

-- A rule begins where every variable is named (6) and a rule more is wanted (7); its first word is a literal or the 0.
abbrev pub wrong_rule : Header → List Variable → ℕ → Token → Result (Unit {0}) SheetFault
wrong_rule h qs count s =
    cond (length qs == h.length)
    (cond (nat_lt count h.rules) (after (number_in s) (wrong_literal h.length [] (place_of s))) (Err (fault.RuleCount (place_of s))))
    (Err (fault.Unnamed (place_of s)))

-- A line after the header begins with a number, which makes it a rule, or with a or e where there is no rule yet (3). Another first word is wrong (3, or 2 where it begins with no letter).
abbrev pub wrong_line : Header → List Variable → ℕ → First → Token → Result (Unit {0}) SheetFault
wrong_line h qs count first.Comment s = Err (fault.Word (place_of s))
wrong_line h qs count first.Header s = Err (fault.Word (place_of s))
wrong_line h qs count (first.Quantifier k) s = cond (count == 0) (Ok tt) (Err (fault.Word (place_of s)))
wrong_line h qs count first.Number s = wrong_rule h qs count s
wrong_line h qs count first.Letters s = Err (fault.Word (place_of s))
wrong_line h qs count first.Other s = Err (fault.NoNumber (place_of s))

-- A line may end before its first word.
abbrev pub unless_line_end : Token → Result (Unit {0}) SheetFault → Result (Unit {0}) SheetFault
unless_line_end (letters t p) r = r
unless_line_end (number n p) r = r
unless_line_end (line_end p) r = Ok tt

-- What is wrong with a word, or with the end of a line, by what is wanted.
abbrev pub wrong : Awaited → Token → Result (Unit {0}) SheetFault
wrong opening s = unless_line_end s (wrong_opening (first_of s) (place_of s))
wrong comment s = Ok tt
wrong form s = after (form_in s) (λ _. Ok tt)
wrong (variable_count f) s = after (natural_within 1 24 s) (λ _. Ok tt)
wrong (rule_count f n) s = after (natural_within 0 256 s) (λ _. Ok tt)
wrong (line h qs rules) s = unless_line_end s (wrong_line h qs (length rules) (first_of s) s)
wrong (variable h qs k vs) s = after (natural_in s) (wrong_variable h.length (qs ++ map (grammar.variable k) vs) k vs (place_of s))
wrong (literal h qs rules ls) s = after (number_in s) (wrong_literal h.length ls (place_of s))
wrong (over h qs rules) s = end_in s

-- What is wrong where a text ends after these lines: a variable is not named (6), a rule is missing (7).
abbrev pub wrong_end : Header → List Variable → List (List Signed) → ℕ → Result (Unit {0}) SheetFault
wrong_end h qs rules p = cond (length qs == h.length) (cond (length rules == h.rules) (Ok tt) (Err (fault.RuleCount p))) (Err (fault.Unnamed p))

-- The fault f is there: in a byte of the word, in the word, or in the end of the line.
abbrev pub FaultAt : List ℕ → List ℕ → Awaited → SheetFault → Type 0
FaultAt t front a f =
    ((p : ℕ) × ByteAt t front p × (f ≡ fault.Text (Byte p)))
    ⊎ ((word : List ℕ) × WordAt t front word × (wrong a (sort_word word (length front)) ≡ Err f))
    ⊎ (LineEndAt t front × (wrong a (line_end (length front)) ≡ Err f))

-- The text has a fault after a beginning that is as it should be.
pub record FaultInside (t : List ℕ) (f : SheetFault) : Type 0 where
  pub front : List ℕ
  pub lines : List (List (List ℕ))
  pub words : List (List ℕ)
  pub awaited : Awaited
  pub before : Before front lines words
  pub awaits : Awaits lines words awaited
  pub fault : FaultAt t front awaited f

-- The text ends too early: before the header (3), or after lines that are as they should be.
abbrev pub FaultAtEnd : List ℕ → SheetFault → Type 0
FaultAtEnd t f =
    All Allowed t × ((All Comment (lines_of t) × (f ≡ fault.Word (length t)))
    ⊎ ((h : Header) × (qs : List Variable) × (rules : List (List Signed)) × Begun (lines_of t) h qs rules × (wrong_end h qs rules (length t) ≡ Err f)))

-- The text t has the fault f, and before it none.
abbrev pub HasFault : List ℕ → SheetFault → Type 0
HasFault t f = FaultInside t f ⊎ FaultAtEnd t f

-- A text says one sheet, or it has one fault.
abbrev pub Decided : List ℕ → Type 0
Decided t = (r : Result Sheet SheetFault) × ((s : Sheet) → (r ≡ Ok s) ↔ Says t s) × ((f : SheetFault) → (r ≡ Err f) ↔ HasFault t f)
