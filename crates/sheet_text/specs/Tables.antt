-- What stands in a table of rules once a text is read.
use Rattle.std.specs.Prelude.{◌≡◌, ℕ, ◌<◌, ◌≤◌, ◌⊎◌, List, [], ◌∷◌, length, take, drop, Ok, Err, Result}
use Rattle.prefix.specs.Prefixes.{kinds}
use Rattle.sheet.specs.Literals.{Made}
use Rattle.sheet.specs.declared.literal.Literal.{Literal}
use Rattle.sheet.specs.declared.rule.Rule.{Rule}
use Rattle.sheet_text.specs.Grammar.{Says}
use Rattle.sheet_text.specs.Sheets.{Sheet}
use Rattle.sheet_text.specs.Refusing.{HasFault}
use Rattle.faults.specs.declared.sheet.SheetFault.{SheetFault}
use Rattle.faults.specs.declared.sheet.SheetFault.TheVariants.{TableTooShort}
use Rattle.sheet_text.specs.declared.reading.Reading.{Reading}

-- Each rule has just the literals of the list at its place.
abbrev pub MadeOf : List (List Literal) → List Rule → Type 0
MadeOf [] [] = Unit {0}
MadeOf [] (r ∷ rs) = ⊥
MadeOf (ls ∷ lss) [] = ⊥
MadeOf (ls ∷ lss) (r ∷ rs) = Made ls r × MadeOf lss rs

-- The reading is the sheet s: its rules stand at the front of the table, and the rest of the table is as it was.
pub record Holds (s : Sheet) (reading : Reading) (before after : List Rule) : Type 0 where
  pub form : reading.form ≡ s.form
  pub kinds : kinds reading.prefix ≡ s.kinds
  pub count : reading.rules ≡ length s.rules
  pub room : length s.rules ≤ length before
  pub rules : MadeOf s.rules (take (length s.rules) after)
  pub rest : drop (length s.rules) after ≡ drop (length s.rules) before

-- What reading a text into a table gives, by what the text gives: its sheet, where the table has room for the rules, or a refusal, which leaves the table as it was.
abbrev pub Outcome : Result Sheet SheetFault → Result Reading SheetFault → List Rule → List Rule → Type 0
Outcome (Ok s) (Ok reading) before after = Holds s reading before after
Outcome (Ok s) (Err f) before after = (length before < length s.rules) × (f ≡ TableTooShort) × (after ≡ before)
Outcome (Err g) (Ok reading) before after = ⊥
Outcome (Err g) (Err f) before after = (f ≡ g) × (after ≡ before)

-- The same by what the text says and by what is wrong with it: a sheet that it says stands in the table. Or the table is as it was: the text has a fault, or it says a sheet of more rules than the table has room for.
abbrev pub Meant : List ℕ → Result Reading SheetFault → List Rule → List Rule → Type 0
Meant t (Ok reading) before after = (s : Sheet) × Says t s × Holds s reading before after
Meant t (Err f) before after = (after ≡ before) × (HasFault t f ⊎ ((f ≡ TableTooShort) × ((s : Sheet) × Says t s × (length before < length s.rules))))
