-- The number, the place and the layer of each refusal of a text.
use Rattle.std.specs.Prelude.{ℕ}
use Rattle.faults.specs.declared.layer.Layer.{Layer}
use Rattle.faults.specs.declared.layer.Layer.TheVariants as layer
use Rattle.faults.specs.declared.text.TextFault.{TextFault}
use Rattle.faults.specs.declared.text.TextFault.TheVariants.{Byte}
use Rattle.faults.specs.declared.sheet.SheetFault.{SheetFault}
use Rattle.faults.specs.declared.sheet.SheetFault.TheVariants.{Text, NoNumber, Word, Limit, Repeated, Unnamed, RuleCount, TableTooShort}

abbrev pub text_number : TextFault → ℕ
text_number (Byte p) = 1

abbrev pub text_place : TextFault → ℕ
text_place (Byte p) = p

abbrev pub text_layer : TextFault → Layer
text_layer (Byte p) = layer.Text

abbrev pub sheet_number : SheetFault → ℕ
sheet_number (Text f) = text_number f
sheet_number (NoNumber p) = 2
sheet_number (Word p) = 3
sheet_number (Limit p) = 4
sheet_number (Repeated p) = 5
sheet_number (Unnamed p) = 6
sheet_number (RuleCount p) = 7
sheet_number TableTooShort = 8

abbrev pub sheet_place : SheetFault → ℕ
sheet_place (Text f) = text_place f
sheet_place (NoNumber p) = p
sheet_place (Word p) = p
sheet_place (Limit p) = p
sheet_place (Repeated p) = p
sheet_place (Unnamed p) = p
sheet_place (RuleCount p) = p
sheet_place TableTooShort = 0

abbrev pub sheet_layer : SheetFault → Layer
sheet_layer (Text f) = text_layer f
sheet_layer (NoNumber p) = layer.Sheet
sheet_layer (Word p) = layer.Sheet
sheet_layer (Limit p) = layer.Sheet
sheet_layer (Repeated p) = layer.Sheet
sheet_layer (Unnamed p) = layer.Sheet
sheet_layer (RuleCount p) = layer.Sheet
sheet_layer TableTooShort = layer.Sheet
