-- The text that a sheet is written as.
use Rattle.std.specs.Prelude.{ℕ, suc, Bool, true, false, cond, List, [], ◌∷◌, ◌++◌, map, reverse, length, take, Some, None, Option}
use Rattle.std.specs.List.{flat_map}
use Rattle.prefix.specs.Prefixes.{kinds}
use Rattle.prefix.specs.declared.kind.Kind.{Kind}
use Rattle.prefix.specs.declared.kind.Kind.TheVariants.{Report, Reply}
use Rattle.prefix.specs.declared.prefix.Prefix.{Prefix}
use Rattle.sheet.specs.Rules.{literals}
use Rattle.sheet.specs.declared.form.Form.{Form}
use Rattle.sheet.specs.declared.literal.Literal.{Literal}
use Rattle.sheet.specs.declared.rule.Rule.{Rule}
use Rattle.sheet_text.specs.Grammar.{Quantifier, Signed, header_line, quantifier_line, signed_word, rule_line}
use Rattle.sheet_text.specs.Sheets.{Sheet}

-- The literals of a rule at the positions 1 to n, in rising position; one past n counts as absent.
abbrev pub rising : Rule → ℕ → List Literal
rising r n = reverse (literals r n)

-- The sheet that is written: of the rules the first 256 count.
abbrev pub sheet_of_rules : Form → Prefix → List Rule → Sheet
sheet_of_rules f p rs = record { form = f; kinds = kinds p; rules = map (λ r. rising r p.length) (take 256 rs) }

abbrev pub same_kind : Kind → Kind → Bool
same_kind Report Report = true
same_kind Report Reply = false
same_kind Reply Report = false
same_kind Reply Reply = true

-- The variables from v on that belong to a run of the kind k, given the kinds from there on.
abbrev pub run_on : Kind → ℕ → List Kind → List ℕ
run_on k v [] = []
run_on k v (q ∷ ks) = cond (same_kind k q) (v ∷ run_on k (suc v) ks) []

-- The runs after that one.
abbrev pub runs_after : Kind → ℕ → List Kind → List Quantifier
runs_after k v [] = []
runs_after k v (q ∷ ks) = cond (same_kind k q) (runs_after k (suc v) ks) (record { kind = q; variables = v ∷ run_on q (suc v) ks } ∷ runs_after q (suc v) ks)

-- The quantifier lines: one for each longest run of equal kinds, the variables numbered from v on.
abbrev pub runs : ℕ → List Kind → List Quantifier
runs v [] = []
runs v (k ∷ ks) = record { kind = k; variables = v ∷ run_on k (suc v) ks } ∷ runs_after k (suc v) ks

-- A literal as a rule's line has it: its variable is its position.
abbrev pub signed : Literal → Signed
signed l = record { variable = l.position; wanted = l.wanted }

-- The words of a line are parted by one space each, and byte 10 ends it.
abbrev pub spaced : List (List ℕ) → List ℕ
spaced [] = []
spaced (w ∷ []) = w
spaced (w ∷ v ∷ ws) = w ++ 32 ∷ spaced (v ∷ ws)

abbrev pub line_text : List (List ℕ) → List ℕ
line_text ws = spaced ws ++ 10 ∷ []

abbrev pub quantifier_lines : List Kind → List (List (List ℕ))
quantifier_lines ks = map quantifier_line (runs 1 ks)

abbrev pub rule_lines : List (List Literal) → List (List (List ℕ))
rule_lines rules = map rule_line (map (map signed) rules)

-- The lines of a sheet, each as its words.
abbrev pub sheet_lines : Sheet → List (List (List ℕ))
sheet_lines s = header_line s.form (length s.kinds) (length s.rules) ∷ (quantifier_lines s.kinds ++ rule_lines s.rules)

-- The bytes that are written.
abbrev pub text_of : Sheet → List ℕ
text_of s = flat_map line_text (sheet_lines s)

abbrev pub written : Form → Prefix → List Rule → List ℕ
written f p rs = text_of (sheet_of_rules f p rs)

-- A literal in its rule's line, by the value that the rule wants at its position.
abbrev pub literal_text : ℕ → Option Bool → List ℕ
literal_text k None = []
literal_text k (Some w) = signed_word (record { variable = k; wanted = w }) ++ 32 ∷ []
