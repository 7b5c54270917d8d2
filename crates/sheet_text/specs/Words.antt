-- Words with their places, and which of them are numbers.
use Rattle.std.specs.Prelude.{ℕ, ◌+◌, ◌-◌, ◌*◌, true, false, cond, ◌&&◌, List, [], ◌∷◌, length, Some, None, Option, ◌==◌, nat_lt}
use Rattle.sheet_text.specs.declared.word.Number.{Number}
use Rattle.sheet_text.specs.declared.word.Word.{Word}
use Rattle.sheet_text.specs.declared.word.Word.TheVariants as word

-- A word without where it lies in memory: a number, or letters, which is any stretch that is no number, at a place; or the end of a line.
pub data Token : Type 0 where
  letters : List ℕ → ℕ → Token
  number : Number → ℕ → Token
  line_end : ℕ → Token

-- The word that a `Word` is.
abbrev pub token : Word → Token
token (word.Letters t p) = letters t.now p
token (word.Number n p) = number n p
token (word.LineEnd p) = line_end p

-- Its place.
abbrev pub place_of : Token → ℕ
place_of (letters t p) = p
place_of (number n p) = p
place_of (line_end p) = p

-- Digits read in base ten, after the number so far; none where a byte is no digit.
abbrev pub digits_on : ℕ → List ℕ → Option ℕ
digits_on v [] = Some v
digits_on v (b ∷ bs) = cond (nat_lt b 48) None (cond (nat_lt 57 b) None (digits_on (v * 10 + (b - 48)) bs))

-- A number has 1 to 6 digits and no 0 in front.
abbrev pub natural_of : List ℕ → Option ℕ
natural_of [] = None
natural_of (b ∷ bs) = cond (nat_lt 6 (length (b ∷ bs))) None (cond (b == 48 && nat_lt 1 (length (b ∷ bs))) None (digits_on 0 (b ∷ bs)))

-- A minus stands before a number other than 0.
abbrev pub negated : Option ℕ → Option Number
negated None = None
negated (Some v) = cond (v == 0) None (Some (record { value = v; negative = true }))

-- A number without a minus.
abbrev pub unsigned : Option ℕ → Option Number
unsigned None = None
unsigned (Some v) = Some (record { value = v; negative = false })

-- The number that a stretch of bytes is, if it is one.
unfoldable pub numeral_of : List ℕ → Option Number
numeral_of [] = None
numeral_of (b ∷ bs) = cond (b == 45) (negated (natural_of bs)) (unsigned (natural_of (b ∷ bs)))

-- A stretch at a place, as a number where it is one.
abbrev pub sorted : List ℕ → ℕ → Option Number → Token
sorted t p None = letters t p
sorted t p (Some n) = number n p

-- The word that a stretch of bytes is.
abbrev pub sort_word : List ℕ → ℕ → Token
sort_word t p = sorted t p (numeral_of t)
