-- The grammar of a sheet's text: which text says which sheet.
use Rattle.std.specs.Prelude.{All, ◌≡◌, ℕ, zero, suc, ◌≤◌, Bool, cond, ◌⊎◌, List, [], ◌∷◌, ◌++◌, map, length, codes, decimal, ◌==◌}
use Rattle.prefix.specs.Kinds.{report_count}
use Rattle.prefix.specs.declared.kind.Kind.{Kind}
pub use Rattle.prefix.specs.KindWords.{kind_word}
use Rattle.sheet.specs.Literals.{Distinct}
use Rattle.sheet.specs.declared.form.Form.{Form}
pub use Rattle.sheet.specs.FormWords.{form_word}
use Rattle.sheet.specs.declared.literal.Literal.{Literal}
use Rattle.sheet_text.specs.Sheets.{Sheet}

-- Line ends (byte 10) and printable characters are allowed.
abbrev pub Allowed : ℕ → Type 0
Allowed b = (b ≡ 10) ⊎ ((32 ≤ b) × (b ≤ 126))

-- A byte at the front of the first of some stretches.
abbrev pub onto : ℕ → List (List ℕ) → List (List ℕ)
onto b [] = (b ∷ []) ∷ []
onto b (w ∷ ws) = (b ∷ w) ∷ ws

-- The stretches of a list of bytes between the bytes s; there is one more of them than of those.
abbrev pub pieces : ℕ → List ℕ → List (List ℕ)
pieces s [] = [] ∷ []
pieces s (b ∷ bs) = cond (b == s) ([] ∷ pieces s bs) (onto b (pieces s bs))

-- Those of some lists that have an element.
abbrev pub non_empty : {A : Type 0} → List (List A) → List (List A)
non_empty [] = []
non_empty ([] ∷ xs) = non_empty xs
non_empty ((y ∷ ys) ∷ xs) = (y ∷ ys) ∷ non_empty xs

-- The words of a line stand between spaces (byte 32).
abbrev pub words_of : List ℕ → List (List ℕ)
words_of line = non_empty (pieces 32 line)

-- The lines of a text, each as its words; a line without words does not count.
abbrev pub lines_of : List ℕ → List (List (List ℕ))
lines_of t = non_empty (map words_of (pieces 10 t))

-- A comment begins with the word c.
abbrev pub Comment : List (List ℕ) → Type 0
Comment line = (rest : List (List ℕ)) × (line ≡ codes "c" ∷ rest)

-- The header: p, the form of the rules, how many variables, how many rules.
abbrev pub header_line : Form → ℕ → ℕ → List (List ℕ)
header_line f n m = codes "p" ∷ form_word f ∷ decimal n ∷ decimal m ∷ []

-- A quantifier line: a for reports or e for replies, the variables, 0.
pub record Quantifier : Type 0 where
  pub kind : Kind
  pub variables : List ℕ

-- The line's words.
abbrev pub quantifier_line : Quantifier → List (List ℕ)
quantifier_line q = kind_word q.kind ∷ (map decimal q.variables ++ codes "0" ∷ [])

-- A rule: variables, with a minus where off is wanted, then 0.
pub record Signed : Type 0 where
  pub variable : ℕ
  pub wanted : Bool

-- A literal's word, and a rule's words.
abbrev pub signed_word : Signed → List ℕ
signed_word l = cond l.wanted (decimal l.variable) (45 ∷ decimal l.variable)

abbrev pub rule_line : List Signed → List (List ℕ)
rule_line ls = map signed_word ls ++ codes "0" ∷ []

-- The variables in the order in which quantifier lines name them, which is that of the positions.
pub record Variable : Type 0 where
  pub name : ℕ
  pub kind : Kind

-- A variable of a kind, and the variables of some lines.
abbrev pub variable : Kind → ℕ → Variable
variable k v = record { name = v; kind = k }

abbrev pub order : List Quantifier → List Variable
order [] = []
order (q ∷ qs) = map (variable q.kind) q.variables ++ order qs

-- The position of a variable, which is its place in that order, from 1; 0 where it has none.
abbrev pub one_more : ℕ → ℕ
one_more zero = zero
one_more (suc k) = suc (suc k)

abbrev pub position_in : List Variable → ℕ → ℕ
position_in [] v = 0
position_in (q ∷ qs) v = cond (v == q.name) 1 (one_more (position_in qs v))

-- No variable stands twice in it.
abbrev pub Once : List Variable → Type 0
Once [] = Unit {0}
Once (q ∷ qs) = (position_in qs q.name ≡ 0) × Once qs

-- A literal of a rule, at its variable's position.
abbrev pub placed : List Variable → Signed → Literal
placed qs l = record { position = position_in qs l.variable; wanted = l.wanted }

-- A variable is a number from 1 to n.
abbrev pub Ranges : ℕ → ℕ → Type 0
Ranges n v = (1 ≤ v) × (v ≤ n)

-- What the header says.
pub record Header : Type 0 where
  pub form : Form
  pub length : ℕ
  pub rules : ℕ

-- Variables as quantifier lines may name them.
pub record Quantified (n : ℕ) (qs : List Variable) : Type 0 where
  pub range : All (λ q. Ranges n q.name) qs
  pub once : Once qs
  pub reports : report_count (map (λ q. q.kind) qs) ≤ 12

-- Literals as a rule may have them.
pub record Ruled (n : ℕ) (qs : List Variable) (ls : List Signed) : Type 0 where
  pub known : All (λ l. Ranges n l.variable) ls
  pub distinct : Distinct (map (placed qs) ls)

-- Lines that are as they should be, as far as they go: comments, the header h, quantifier lines that name the variables qs, and rules. Where there is a rule, every variable is named.
pub record Begun (lines : List (List (List ℕ))) (h : Header) (qs : List Variable) (rules : List (List Signed)) : Type 0 where
  pub comments : List (List (List ℕ))
  pub quantifiers : List Quantifier
  pub spelled : lines ≡ comments ++ header_line h.form h.length h.rules ∷ (map quantifier_line quantifiers ++ map rule_line rules)
  pub commented : All Comment comments
  pub positions : Ranges 24 h.length
  pub few : h.rules ≤ 256
  pub ordered : qs ≡ order quantifiers
  pub some : All (λ q. 1 ≤ length q.variables) quantifiers
  pub quantified : Quantified h.length qs
  pub most : length rules ≤ h.rules
  pub named : 1 ≤ length rules → length qs ≡ h.length
  pub ruled : All (Ruled h.length qs) rules

-- The header of a sheet's text.
abbrev pub header_of : Sheet → Header
header_of s = record { form = s.form; length = length s.kinds; rules = length s.rules }

-- The text t says the sheet s: its lines are as they should be, under the header of s, and none is missing. The variables give the kinds of the positions, and the rules their literals.
pub record Says (t : List ℕ) (s : Sheet) : Type 0 where
  pub variables : List Variable
  pub rules : List (List Signed)
  pub allowed : All Allowed t
  pub lines : Begun (lines_of t) (header_of s) variables rules
  pub kinds : s.kinds ≡ map (λ q. q.kind) variables
  pub literals : s.rules ≡ map (map (placed variables)) rules

-- A text that says a sheet names each variable from 1 to n, at a position from 1 to n.
abbrev pub EachNamed : List ℕ → Type 0
EachNamed t = (s : Sheet) (h : Says t s) (v : ℕ) → Ranges (length s.kinds) v → Ranges (length s.kinds) (position_in h.variables v)
