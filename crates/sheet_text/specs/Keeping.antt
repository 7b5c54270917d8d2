-- What the reader's own calls leave, and what a reader keeps to: for the calls below `read_sheet`, which says nothing of this.
use Rattle.std.specs.Prelude.{◌≡◌, ℕ, ◌+◌, ◌<◌, ◌≤◌, cond, List, [], ◌∷◌, length, false, is_some, None, Ok, Err, Option, Result, ◌==◌, slice_index_or}
use Rattle.faults.specs.declared.sheet.SheetFault.{SheetFault}
use Rattle.sheet_text.specs.Machine.{position_of}
use Rattle.sheet_text.specs.declared.state.Mode.{Mode}
use Rattle.sheet_text.specs.declared.state.Mode.TheVariants as mode
use Rattle.sheet_text.specs.declared.state.State.{State}
use Rattle.sheet_text.specs.declared.state.Section.{Section}
use Rattle.sheet_text.specs.declared.state.Section.TheVariants.{Opening, Quantifiers, Rules}
use Rattle.sheet_text.specs.declared.taken.Taken.{Taken}
use Rattle.sheet_text.specs.declared.variable.Variable.{Variable}

-- How a call that may fail leaves the reader: a fault leaves it as it was.
abbrev pub Went : State → Result State SheetFault → Result (Unit {0}) SheetFault → State → Type 0
Went before (Ok m) r after = (r ≡ Ok tt) × (after ≡ m)
Went before (Err f) r after = (r ≡ Err f) × (after ≡ before)

-- How a call leaves the reader that may give something besides.
abbrev pub Gave : Result (State × Option Taken) SheetFault → Result (Option Taken) SheetFault → State → Type 0
Gave (Ok p) r after = (r ≡ Ok p.1) × (after ≡ p.0)
Gave (Err f) r after = r ≡ Err f

-- How many variables have their position.
abbrev pub counts : Option Variable → ℕ
counts v = cond (position_of v == 0) 0 1

abbrev pub filled : List (Option Variable) → ℕ
filled [] = 0
filled (v ∷ vs) = counts v + filled vs

-- The position of the variable of index i; 0 where no line has named it.
abbrev pub position_at : State → ℕ → ℕ
position_at m i = position_of (slice_index_or m.variables i None)

-- Which section a line belongs to. In a rule every variable is named, and a rule more is wanted.
abbrev pub Fits : Mode → State → Type 0
Fits mode.LineStart m = Unit {0}
Fits mode.Comment m = m.section ≡ Opening
Fits mode.Form m = m.section ≡ Opening
Fits mode.Length m = m.section ≡ Opening
Fits mode.RuleCount m = m.section ≡ Opening
Fits mode.HeaderEnd m = m.section ≡ Opening
Fits (mode.Variables k some) m = m.section ≡ Quantifiers
Fits mode.Literals m = (m.section ≡ Rules) × (m.named ≡ m.length) × (m.read < m.rules)
Fits mode.LineEnd m = Unit {0}

-- No variable past the n-th is named.
abbrev pub BlankFrom : ℕ → List (Option Variable) → Type 0
BlankFrom n vs = (i : ℕ) → n ≤ i → position_of (slice_index_or vs i None) ≡ 0

-- Before the quantifier lines no variable is named and no rule read, and then no variable past the header's number.
abbrev pub Named : Section → ℕ → List (Option Variable) → ℕ → ℕ → Type 0
Named Opening n vs named read = (named ≡ 0) × (read ≡ 0)
Named Quantifiers n vs named read = BlankFrom n vs
Named Rules n vs named read = BlankFrom n vs

-- What a reader keeps to.
pub record Sound (m : State) : Type 0 where
  pub short : m.length ≤ 24
  pub few : m.rules ≤ 256
  pub all : length m.variables ≡ 24
  pub count : filled m.variables ≡ m.named
  pub bound : m.named ≤ 24
  pub placed : (i : ℕ) → position_at m i ≤ m.named
  pub known : (i : ℕ) → position_at m i ≡ 0 → is_some (slice_index_or m.variables i None) ≡ false
  pub read : m.read ≤ m.rules
  pub named : Named m.section m.length m.variables m.named m.read
  pub mode : Fits m.mode m
