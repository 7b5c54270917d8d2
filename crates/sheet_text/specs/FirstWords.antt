-- What the first word of a line says of it.
use Rattle.std.specs.Prelude.{ℕ, Bool, cond, ◌&&◌, ◌||◌, List, [], ◌∷◌, ◌==◌, nat_le}
use Rattle.prefix.specs.declared.kind.Kind.TheVariants.{Report, Reply}
use Rattle.sheet_text.specs.Words.{Token, letters, number, line_end}
use Rattle.sheet_text.specs.declared.first.First.{First}
use Rattle.sheet_text.specs.declared.first.First.TheVariants as first

-- Letters are A to Z and a to z.
abbrev pub is_letter : ℕ → Bool
is_letter b = (nat_le 65 b && nat_le b 90) || (nat_le 97 b && nat_le b 122)

-- A first word that is none of the four letters.
abbrev pub other_first : ℕ → First
other_first b = cond (is_letter b) first.Letters first.Other

-- A first word of one byte: c, p, a or e, or another.
abbrev pub letter_first : ℕ → First
letter_first b =
    cond (b == 99) first.Comment
    (cond (b == 112) first.Header
    (cond (b == 97) (first.Quantifier Report)
    (cond (b == 101) (first.Quantifier Reply) (other_first b))))

-- What a first word says of its line.
abbrev pub first_word : List ℕ → First
first_word [] = first.Other
first_word (b ∷ []) = letter_first b
first_word (b ∷ c ∷ bs) = other_first b

abbrev pub first_of : Token → First
first_of (letters t p) = first_word t
first_of (number n p) = first.Number
first_of (line_end p) = first.Other
