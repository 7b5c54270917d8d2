-- What the reader may want of a word, and which fault it is where the word is something else.
use Rattle.std.specs.Prelude.{ℕ, cond, List, [], ◌∷◌, Some, None, Ok, Err, Option, Result, ◌==◌, nat_lt}
use Rattle.sheet.specs.declared.form.Form.{Form}
use Rattle.sheet.specs.declared.form.Form.TheVariants.{Cnf, Dnf}
use Rattle.sheet_text.specs.Words.{Token, letters, number, line_end, place_of}
use Rattle.faults.specs.declared.sheet.SheetFault.{SheetFault}
use Rattle.faults.specs.declared.sheet.SheetFault.TheVariants as fault
use Rattle.sheet_text.specs.declared.word.Number.{Number}

-- What comes of a value, or the fault in its place.
abbrev pub after : {A B : Type 0} → Result A SheetFault → (A → Result B SheetFault) → Result B SheetFault
after (Ok x) go = go x
after (Err f) go = Err f

-- A number is wanted (2).
abbrev pub number_in : Token → Result Number SheetFault
number_in (letters t p) = Err (fault.NoNumber p)
number_in (number n p) = Ok n
number_in (line_end p) = Err (fault.NoNumber p)

-- A number without a minus is wanted (2).
abbrev pub natural_at : ℕ → Number → Result ℕ SheetFault
natural_at p n = cond n.negative (Err (fault.NoNumber p)) (Ok n.value)

abbrev pub natural_in : Token → Result ℕ SheetFault
natural_in s = after (number_in s) (natural_at (place_of s))

-- And one from l to h (4).
abbrev pub within : ℕ → ℕ → ℕ → ℕ → Result ℕ SheetFault
within l h p v = cond (nat_lt v l) (Err (fault.Limit p)) (cond (nat_lt h v) (Err (fault.Limit p)) (Ok v))

abbrev pub natural_within : ℕ → ℕ → Token → Result ℕ SheetFault
natural_within l h s = after (natural_in s) (within l h (place_of s))

-- The end of a line is wanted (3).
abbrev pub end_in : Token → Result (Unit {0}) SheetFault
end_in (letters t p) = Err (fault.Word p)
end_in (number n p) = Err (fault.Word p)
end_in (line_end p) = Ok tt

-- The form of the rules is wanted, cnf or dnf (3).
abbrev pub form_of : List ℕ → Option Form
form_of [] = None
form_of (a ∷ []) = None
form_of (a ∷ b ∷ []) = None
form_of (a ∷ b ∷ c ∷ []) = cond (b == 110) (cond (c == 102) (cond (a == 99) (Some Cnf) (cond (a == 100) (Some Dnf) None)) None) None
form_of (a ∷ b ∷ c ∷ d ∷ ds) = None

abbrev pub form_at : ℕ → Option Form → Result Form SheetFault
form_at p None = Err (fault.Word p)
form_at p (Some f) = Ok f

abbrev pub form_in : Token → Result Form SheetFault
form_in (letters t p) = form_at p (form_of t)
form_in (number n p) = Err (fault.Word p)
form_in (line_end p) = Err (fault.Word p)
