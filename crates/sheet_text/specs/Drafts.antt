-- How a draft of a sheet stands for what is read so far.
use Rattle.std.specs.Prelude.{◌≡◌, length, Ok, Err, Result}
use Rattle.sheet.specs.Literals.{Made}
use Rattle.sheet_text.specs.Reading.{Progress}
use Rattle.sheet_text.specs.Tables.{MadeOf}
use Rattle.faults.specs.declared.sheet.SheetFault.{SheetFault}
use Rattle.sheet_text.specs.declared.draft.Draft.{Draft}

-- The draft has the reader, the rule of the literals, and the rules that are over.
pub record Stands (s : Progress) (d : Draft) : Type 0 where
  pub reader : d.reader.state ≡ s.reader
  pub made : Made s.literals d.rule
  pub count : s.reader.read ≡ length s.rules
  pub rules : MadeOf s.rules d.rules.items

-- How a word leaves a draft, by what it does to what is read.
abbrev pub Advanced : Result Progress SheetFault → Result (Unit {0}) SheetFault → Draft → Type 0
Advanced (Ok s) r d = (r ≡ Ok tt) × Stands s d
Advanced (Err f) r d = r ≡ Err f

-- How reading all words leaves a draft, by what the text gives.
abbrev pub Passed : Result Progress SheetFault → Result (Unit {0}) SheetFault → Draft → Type 0
Passed (Ok s) (Ok x) d = Stands s d
Passed (Ok s) (Err f) d = ⊥
Passed (Err g) (Ok x) d = ⊥
Passed (Err g) (Err f) d = f ≡ g
