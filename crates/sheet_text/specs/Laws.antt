-- Reading a text word by word comes to what the text says, or to what is wrong with it.
use Rattle.std.specs.Prelude.{◌≡◌, ◌↔◌, ℕ, List, Ok, Err}
use Rattle.sheet_text.specs.Grammar.{Says}
use Rattle.sheet_text.specs.Reading.{read_text}
use Rattle.sheet_text.specs.Refusing.{HasFault}
use Rattle.sheet_text.specs.Sheets.{Sheet}
use Rattle.faults.specs.declared.sheet.SheetFault.{SheetFault}

-- A text is read exactly when it says a sheet, and then as that sheet.
abbrev pub ReadAsSaid : List ℕ → Type 0
ReadAsSaid t = (s : Sheet) → (read_text t ≡ Ok s) ↔ Says t s

-- A text is refused exactly when it has a fault, and then with that one.
abbrev pub RefusedAsFound : List ℕ → Type 0
RefusedAsFound t = (f : SheetFault) → (read_text t ≡ Err f) ↔ HasFault t f
