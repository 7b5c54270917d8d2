-- What each word does to the reader, and which fault it is.
use Rattle.std.specs.Prelude.{ℕ, ◌+◌, ◌-◌, ◌^◌, Bool, true, false, cond, not, replicate, is_some, Some, None, Ok, Err, Option, Result, ◌==◌, bit_or, count_ones, nat_le, nat_lt, slice_index_or, slice_set}
use Rattle.prefix.specs.declared.kind.Kind.{Kind}
use Rattle.prefix.specs.declared.kind.Kind.TheVariants.{Report, Reply}
use Rattle.sheet.specs.declared.form.Form.{Form}
use Rattle.sheet.specs.declared.form.Form.TheVariants.{Cnf}
use Rattle.sheet.specs.declared.literal.Literal.{Literal}
use Rattle.sheet_text.specs.FirstWords.{first_word}
use Rattle.sheet_text.specs.Wanted.{after, number_in, natural_in, natural_within, end_in, form_in}
use Rattle.sheet_text.specs.Words.{Token, letters, number, line_end, place_of}
use Rattle.faults.specs.declared.sheet.SheetFault.{SheetFault}
use Rattle.faults.specs.declared.sheet.SheetFault.TheVariants as fault
use Rattle.sheet_text.specs.declared.state.Mode.{Mode}
use Rattle.sheet_text.specs.declared.state.Mode.TheVariants as mode
use Rattle.sheet_text.specs.declared.state.State.{State}
use Rattle.sheet_text.specs.declared.state.Section.{Section}
use Rattle.sheet_text.specs.declared.state.Section.TheVariants.{Opening, Quantifiers, Rules}
use Rattle.sheet_text.specs.declared.taken.Taken.{Taken}
use Rattle.sheet_text.specs.declared.taken.Taken.TheVariants as taken
use Rattle.sheet_text.specs.declared.first.First.{First}
use Rattle.sheet_text.specs.declared.first.First.TheVariants as first
use Rattle.sheet_text.specs.declared.variable.Variable.{Variable}
use Rattle.sheet_text.specs.declared.word.Number.{Number}

-- The position of a variable; 0 where no line has named it.
abbrev pub position_of : Option Variable → ℕ
position_of None = 0
position_of (Some v) = v.position

-- The reader before the first word.
abbrev pub start : State
start = record { section = Opening; mode = mode.LineStart; form = Cnf; length = 0; rules = 0; variables = replicate 24 None; named = 0; reports = 0; read = 0 }

-- The reader, waiting for another word, or in another section.
abbrev pub in_mode : Mode → State → State
in_mode o m = record { section = m.section; mode = o; form = m.form; length = m.length; rules = m.rules; variables = m.variables; named = m.named; reports = m.reports; read = m.read }

abbrev pub in_section : Section → State → State
in_section s m = record { section = s; mode = m.mode; form = m.form; length = m.length; rules = m.rules; variables = m.variables; named = m.named; reports = m.reports; read = m.read }

-- A rule begins: every variable is named (6), and a rule more is wanted (7).
abbrev pub open_rule : State → ℕ → Result State SheetFault
open_rule m p =
    cond (m.named == m.length)
    (cond (nat_lt m.read m.rules) (Ok (in_section Rules (in_mode mode.Literals m))) (Err (fault.RuleCount p)))
    (Err (fault.Unnamed p))

-- The open section and the first word together decide what a line is.
abbrev pub open_in : Section → State → First → ℕ → Result State SheetFault
open_in Opening m first.Comment p = Ok (in_mode mode.Comment m)
open_in Opening m first.Header p = Ok (in_mode mode.Form m)
open_in Opening m (first.Quantifier k) p = Err (fault.Word p)
open_in Opening m first.Number p = Err (fault.Word p)
open_in Opening m first.Letters p = Err (fault.Word p)
open_in Opening m first.Other p = Err (fault.Word p)
open_in Quantifiers m first.Comment p = Err (fault.Word p)
open_in Quantifiers m first.Header p = Err (fault.Word p)
open_in Quantifiers m (first.Quantifier k) p = Ok (in_mode (mode.Variables k false) m)
open_in Quantifiers m first.Number p = open_rule m p
open_in Quantifiers m first.Letters p = Err (fault.Word p)
open_in Quantifiers m first.Other p = Err (fault.NoNumber p)
open_in Rules m first.Comment p = Err (fault.Word p)
open_in Rules m first.Header p = Err (fault.Word p)
open_in Rules m (first.Quantifier k) p = Err (fault.Word p)
open_in Rules m first.Number p = open_rule m p
open_in Rules m first.Letters p = Err (fault.Word p)
open_in Rules m first.Other p = Err (fault.NoNumber p)

-- The line that a first word opens.
abbrev pub open_line : State → First → ℕ → Result State SheetFault
open_line m f p = open_in m.section m f p

-- The header: cnf or dnf (3), 1 to 24 variables and up to 256 rules (2, 4), and no more (3).
abbrev pub with_form : State → Form → State
with_form m f = record { section = m.section; mode = mode.Length; form = f; length = m.length; rules = m.rules; variables = m.variables; named = m.named; reports = m.reports; read = m.read }

abbrev pub form_word : State → Token → Result State SheetFault
form_word m s = after (form_in s) (λ f. Ok (with_form m f))

-- The number of variables, and then that of rules.
abbrev pub with_length : State → ℕ → State
with_length m v = record { section = m.section; mode = mode.RuleCount; form = m.form; length = v; rules = m.rules; variables = m.variables; named = m.named; reports = m.reports; read = m.read }

abbrev pub length_word : State → Token → Result State SheetFault
length_word m s = after (natural_within 1 24 s) (λ v. Ok (with_length m v))

abbrev pub with_rules : State → ℕ → State
with_rules m v = record { section = m.section; mode = mode.HeaderEnd; form = m.form; length = m.length; rules = v; variables = m.variables; named = m.named; reports = m.reports; read = m.read }

abbrev pub rule_count_word : State → Token → Result State SheetFault
rule_count_word m s = after (natural_within 0 256 s) (λ v. Ok (with_rules m v))

-- After the header, and after the 0 of another line, the line ends.
abbrev pub header_end : State → Token → Result State SheetFault
header_end m s = after (end_in s) (λ _. Ok (in_section Quantifiers (in_mode mode.LineStart m)))

abbrev pub line_over : State → Token → Result State SheetFault
line_over m s = after (end_in s) (λ _. Ok (in_mode mode.LineStart m))

-- The mask of reports with the position k, by its kind, and whether there is room for a report more.
abbrev pub reports_with : ℕ → Kind → ℕ → ℕ
reports_with reports Report k = bit_or reports (2 ^ (k - 1))
reports_with reports Reply k = reports

abbrev pub report_too_many : ℕ → Kind → Bool
report_too_many reports Report = nat_le 12 (count_ones reports)
report_too_many reports Reply = false

-- A variable takes the next position.
abbrev pub naming : State → Kind → ℕ → State
naming m k v = record { section = m.section; mode = mode.Variables k true; form = m.form; length = m.length; rules = m.rules; variables = slice_set m.variables (v - 1) (Some (record { kind = k; position = m.named + 1 })); named = m.named + 1; reports = reports_with m.reports k (m.named + 1); read = m.read }

-- A quantifier line: variables up to n, at most twelve of them reports (4), none twice (5), then 0 (3 where there is no variable).
abbrev pub variable_number : State → Kind → Bool → ℕ → ℕ → Result State SheetFault
variable_number m k some v p =
    cond (v == 0) (cond some (Ok (in_mode mode.LineEnd m)) (Err (fault.Word p)))
    (cond (nat_lt m.length v) (Err (fault.Limit p))
    (cond (report_too_many m.reports k) (Err (fault.Limit p))
    (cond (is_some (slice_index_or m.variables (v - 1) None)) (Err (fault.Repeated p)) (Ok (naming m k v)))))

abbrev pub variable_word : State → Kind → Bool → Token → Result State SheetFault
variable_word m k some s = after (natural_in s) (λ v. variable_number m k some v (place_of s))

-- A rule: literals of variables up to n (4), then 0.
abbrev pub ruled : State → State
ruled m = record { section = m.section; mode = mode.LineEnd; form = m.form; length = m.length; rules = m.rules; variables = m.variables; named = m.named; reports = m.reports; read = m.read + 1 }

-- The literal that a number is: at its variable's position, off where it has a minus.
abbrev pub literal_of : State → Number → Literal
literal_of m n = record { position = position_of (slice_index_or m.variables (n.value - 1) None); wanted = not n.negative }

abbrev pub literal_number : State → Number → ℕ → Result (State × Option Taken) SheetFault
literal_number m n p =
    cond (n.value == 0) (Ok (ruled m, Some taken.Rule))
    (cond (nat_lt m.length n.value) (Err (fault.Limit p)) (Ok (m, Some (taken.Literal (literal_of m n) p))))

abbrev pub literal_word : State → Token → Result (State × Option Taken) SheetFault
literal_word m s = after (number_in s) (λ n. literal_number m n (place_of s))

-- A word that gives nothing besides.
abbrev pub nothing : Result State SheetFault → Result (State × Option Taken) SheetFault
nothing (Ok m) = Ok (m, None)
nothing (Err f) = Err f

-- A line that opens as a rule has its first literal, or its 0, in its first word.
abbrev pub begun : State → Mode → Token → Result (State × Option Taken) SheetFault
begun m mode.Literals s = literal_word m s
begun m mode.LineStart s = Ok (m, None)
begun m mode.Comment s = Ok (m, None)
begun m mode.Form s = Ok (m, None)
begun m mode.Length s = Ok (m, None)
begun m mode.RuleCount s = Ok (m, None)
begun m mode.HeaderEnd s = Ok (m, None)
begun m (mode.Variables k some) s = Ok (m, None)
begun m mode.LineEnd s = Ok (m, None)

abbrev pub opened : Result State SheetFault → Token → Result (State × Option Taken) SheetFault
opened (Ok m) s = begun m m.mode s
opened (Err f) s = Err f

-- The first word of a line; a line end there is passed over.
abbrev pub start_word : State → Token → Result (State × Option Taken) SheetFault
start_word m (line_end p) = Ok (m, None)
start_word m (letters t p) = opened (open_line m (first_word t) p) (letters t p)
start_word m (number n p) = opened (open_line m first.Number p) (number n p)

-- A comment goes on to the end of its line.
abbrev pub comment_word : State → Token → State
comment_word m (line_end p) = in_mode mode.LineStart m
comment_word m (letters t p) = m
comment_word m (number n p) = m

-- What a word does, by the word that the reader waits for.
abbrev pub step_in : State → Mode → Token → Result (State × Option Taken) SheetFault
step_in m mode.LineStart s = start_word m s
step_in m mode.Comment s = Ok (comment_word m s, None)
step_in m mode.Form s = nothing (form_word m s)
step_in m mode.Length s = nothing (length_word m s)
step_in m mode.RuleCount s = nothing (rule_count_word m s)
step_in m mode.HeaderEnd s = nothing (header_end m s)
step_in m (mode.Variables k some) s = nothing (variable_word m k some s)
step_in m mode.Literals s = literal_word m s
step_in m mode.LineEnd s = nothing (line_over m s)

abbrev pub step : State → Token → Result (State × Option Taken) SheetFault
step m s = step_in m m.mode s
