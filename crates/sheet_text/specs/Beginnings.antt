-- What is wanted after each beginning of a text.
use Rattle.std.specs.Prelude.{All, ◌≡◌, ℕ, ◌<◌, ◌≤◌, List, [], ◌∷◌, ◌++◌, map, length, codes, decimal}
use Rattle.prefix.specs.declared.kind.Kind.{Kind}
use Rattle.sheet.specs.declared.form.Form.{Form}
use Rattle.sheet_text.specs.Grammar.{Header, Quantified, Ruled, Begun, Comment, Signed, signed_word, Variable, Ranges, kind_word, form_word}
use Rattle.sheet_text.specs.Grammar as grammar

-- What is wanted next: before the header the first word of a line, in a comment any word, in the header its words; after it the first word of a line, in a quantifier line a variable or 0, in a rule a literal or 0; and then the end of the line.
pub data Awaited : Type 0 where
  opening : Awaited
  comment : Awaited
  form : Awaited
  variable_count : Form → Awaited
  rule_count : Form → ℕ → Awaited
  line : Header → List Variable → List (List Signed) → Awaited
  variable : Header → List Variable → Kind → List ℕ → Awaited
  literal : Header → List Variable → List (List Signed) → List Signed → Awaited
  over : Header → List Variable → List (List Signed) → Awaited

-- What the lines before a place, and the words of the open line, leave to be wanted.
abbrev pub Awaits : List (List (List ℕ)) → List (List ℕ) → Awaited → Type 0
Awaits lines words opening = All Comment lines × (words ≡ [])
Awaits lines words comment = All Comment lines × Comment words
Awaits lines words form = All Comment lines × (words ≡ codes "p" ∷ [])
Awaits lines words (variable_count f) = All Comment lines × (words ≡ codes "p" ∷ form_word f ∷ [])
Awaits lines words (rule_count f n) = All Comment lines × Ranges 24 n × (words ≡ codes "p" ∷ form_word f ∷ decimal n ∷ [])
Awaits lines words (line h qs rules) = Begun lines h qs rules × (words ≡ [])
Awaits lines words (variable h qs k vs) = Begun lines h qs [] × Quantified h.length (qs ++ map (grammar.variable k) vs) × (words ≡ kind_word k ∷ map decimal vs)
Awaits lines words (literal h qs rules ls) = Begun lines h qs rules × (length qs ≡ h.length) × (length rules < h.rules) × Ruled h.length qs ls × (1 ≤ length ls) × (words ≡ map signed_word ls)
Awaits lines words (over h qs rules) = Begun (lines ++ words ∷ []) h qs rules × (1 ≤ length words)
