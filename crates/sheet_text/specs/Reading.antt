-- What the text of a sheet means, or which fault it has.
use Rattle.std.specs.Prelude.{ℕ, cond, List, [], ◌∷◌, ◌++◌, length, is_some, Some, None, Ok, Err, Option, Result, ◌==◌}
use Rattle.prefix.specs.Prefixes.{kinds_of}
use Rattle.sheet.specs.Literals.{lookup}
use Rattle.sheet.specs.declared.literal.Literal.{Literal}
use Rattle.sheet_text.specs.Sheets.{Sheet}
use Rattle.sheet_text.specs.Machine.{start, step}
use Rattle.sheet_text.specs.Words.{Token}
use Rattle.sheet_text.specs.Cuts.{Tokens, stop, bad, next, tokens}
use Rattle.faults.specs.declared.sheet.SheetFault.{SheetFault}
use Rattle.faults.specs.declared.sheet.SheetFault.TheVariants as fault
use Rattle.faults.specs.declared.text.TextFault.TheVariants.{Byte}
use Rattle.sheet_text.specs.declared.state.State.{State}
use Rattle.sheet_text.specs.declared.state.Section.{Section}
use Rattle.sheet_text.specs.declared.state.Section.TheVariants.{Opening, Quantifiers, Rules}
use Rattle.sheet_text.specs.declared.taken.Taken.{Taken}
use Rattle.sheet_text.specs.declared.taken.Taken.TheVariants as taken

-- How far a text is read: the reader, the literals of the rule that it is in, and the rules that are over.
pub record Progress : Type 0 where
  pub reader : State
  pub literals : List Literal
  pub rules : List (List Literal)

-- Before the first word.
abbrev pub begin : Progress
begin = record { reader = start; literals = []; rules = [] }

-- What a word gives goes into the rule, where no literal has its position yet (5), or ends it.
abbrev pub collected : Progress → State → Option Taken → Result Progress SheetFault
collected s m None = Ok (record { reader = m; literals = s.literals; rules = s.rules })
collected s m (Some (taken.Literal l p)) =
    cond (is_some (lookup s.literals l.position)) (Err (fault.Repeated p)) (Ok (record { reader = m; literals = s.literals ++ l ∷ []; rules = s.rules }))
collected s m (Some taken.Rule) = Ok (record { reader = m; literals = []; rules = s.rules ++ s.literals ∷ [] })

-- What a step of the reader makes of it, and so what a word does.
abbrev pub given : Progress → Result (State × Option Taken) SheetFault → Result Progress SheetFault
given s (Ok p) = collected s p.0 p.1
given s (Err f) = Err f

abbrev pub advance : Progress → Token → Result Progress SheetFault
advance s w = given s (step s.reader w)

-- The next words, unless there was a fault.
abbrev pub onward : Result Progress SheetFault → (Progress → Result Progress SheetFault) → Result Progress SheetFault
onward (Ok s) go = go s
onward (Err f) go = Err f

-- All the words, or the first fault among them.
unfoldable pub run : Progress → Tokens → Result Progress SheetFault
run s stop = Ok s
run s (bad p) = Err (fault.Text (Byte p))
run s (next w ts) = onward (advance s w) (λ u. run u ts)

-- At the end there has been a header (3), every variable is named (6), and the rules are all there (7).
abbrev pub complete : ℕ → State → Result (Unit {0}) SheetFault
complete p m = cond (m.named == m.length) (cond (m.read == m.rules) (Ok tt) (Err (fault.RuleCount p))) (Err (fault.Unnamed p))

abbrev pub finished : ℕ → Section → State → Result (Unit {0}) SheetFault
finished p Opening m = Err (fault.Word p)
finished p Quantifiers m = complete p m
finished p Rules m = complete p m

-- What is read, where the text may end there.
abbrev pub whole : Progress → Result (Unit {0}) SheetFault → Result Progress SheetFault
whole s (Ok u) = Ok s
whole s (Err f) = Err f

abbrev pub ending : ℕ → Result Progress SheetFault → Result Progress SheetFault
ending p (Ok s) = whole s (finished p s.reader.section s.reader)
ending p (Err f) = Err f

-- How a text is read to its end.
unfoldable pub read_through : List ℕ → Result Progress SheetFault
read_through t = ending (length t) (run begin (tokens t))

-- The sheet that was read.
abbrev pub sheet_of : Progress → Sheet
sheet_of s = record { form = s.reader.form; kinds = kinds_of s.reader.length s.reader.reports; rules = s.rules }

abbrev pub sheet_from : Result Progress SheetFault → Result Sheet SheetFault
sheet_from (Ok s) = Ok (sheet_of s)
sheet_from (Err f) = Err f

-- The sheet that a text gives, or its fault.
abbrev pub read_text : List ℕ → Result Sheet SheetFault
read_text t = sheet_from (read_through t)
