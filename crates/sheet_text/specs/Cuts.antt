-- How a text is cut into words, byte by byte. That these are the words of its lines is proved with the laws of `read_sheet`.
use Rattle.std.specs.Prelude.{ℕ, ◌+◌, Bool, cond, ◌&&◌, List, [], ◌∷◌, ◌++◌, drop, ◌==◌, nat_le}
use Rattle.sheet_text.specs.Words.{Token, line_end, sort_word}

-- The words of a text in order, up to its end or to a byte that is not allowed.
pub data Tokens : Type 0 where
  stop : Tokens
  bad : ℕ → Tokens
  next : Token → Tokens → Tokens

-- Between words, or in the word that began at a place with these bytes.
pub data Open : Type 0 where
  gap : Open
  within : ℕ → List ℕ → Open

-- A byte that a text may have besides the line end.
abbrev pub printable : ℕ → Bool
printable b = nat_le 32 b && nat_le b 126

-- The open word, if there is one, and the words after it.
abbrev pub closed : Open → Tokens → Tokens
closed gap ts = ts
closed (within q acc) ts = next (sort_word acc q) ts

-- One byte more of the open word, which may begin with it.
abbrev pub more : Open → ℕ → ℕ → Open
more gap p b = within p (b ∷ [])
more (within q acc) p b = within q (acc ++ b ∷ [])

-- Spaces part words, and byte 10 ends a line.
unfoldable pub cut : Open → ℕ → List ℕ → Tokens
cut o p [] = stop
cut o p (b ∷ bs) =
    cond (b == 32) (closed o (cut gap (p + 1) bs))
    (cond (b == 10) (closed o (next (line_end p) (cut gap (p + 1) bs)))
    (cond (printable b) (cut (more o p b) (p + 1) bs) (bad p)))

-- The end of the text ends a line.
abbrev pub ended : List ℕ → List ℕ
ended t = t ++ 10 ∷ []

-- The words from a place on.
abbrev pub tokens_from : List ℕ → Open → ℕ → Tokens
tokens_from t o p = cut o p (drop p (ended t))

-- The words of a text.
abbrev pub tokens : List ℕ → Tokens
tokens t = tokens_from t gap 0
