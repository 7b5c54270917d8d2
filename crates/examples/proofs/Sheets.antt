-- What holds of the sheet that reading a text gives holds of the one that it says.
use Rattle.std.proofs.Common.{◌≡◌, ℕ, Bool, List, [], ◌∷◌, map, length, Ok, All, sym, subst}
use Rattle.std.proofs.lemmas.List.Elements.{All-head, All-tail}
use Rattle.prefix.specs.Prefixes.{kinds}
use Rattle.prefix.specs.declared.prefix.Prefix.{Prefix}
use Rattle.sheet.specs.Rules.{rules_kept}
use Rattle.sheet_text.specs.Grammar.{Says, Signed, Variable, Ruled, placed}
use Rattle.sheet_text.specs.Reading.{read_text}
use Rattle.sheet_text.specs.Sheets.{Sheet}
use Rattle.sheet_text.specs.Tables.{MadeOf}
use Rattle.sheet_text.proofs.TextReads.{read_exactly}
use Rattle.sheet.specs.declared.literal.Literal.{Literal}
use Rattle.jobs.specs.OnSheet.{OnSheet}
use Rattle.examples.proofs.Rules.{rule_of, made_of}

rules_made : (n : ℕ) (qs : List Variable) (rules : List (List Signed)) → All (Ruled n qs) rules → MadeOf (map (map (placed qs)) rules) (map rule_of (map (map (placed qs)) rules))
rules_made n qs [] h = tt
rules_made n qs (ls ∷ rules) h =
    (made_of (map (placed qs) ls) (All-head (Ruled n qs) ls rules h).distinct, rules_made n qs rules (All-tail (Ruled n qs) ls rules h))

-- The rules of a text that is read.
pub text_rules : (t : List ℕ) (s : Sheet) → read_text t ≡ Ok s → MadeOf s.rules (map rule_of s.rules)
text_rules t s read =
    let says : Says t s = (read_exactly t s).0 read in
    subst (λ (rs : List (List Literal)). MadeOf rs (map rule_of rs)) (sym says.literals) (rules_made (length s.kinds) says.variables says.rules says.lines.ruled)

pub on_sheet : (t : List ℕ) (s : Sheet) (p : Prefix) (Claim : (List Bool → Bool) → Prefix → Type 0) → read_text t ≡ Ok s → kinds p ≡ s.kinds
    → Claim (rules_kept s.form p.length (map rule_of s.rules)) p → OnSheet t Claim
on_sheet t s p Claim read same holds = record {
  sheet = s;
  prefix = p;
  rules = map rule_of s.rules;
  says = (read_exactly t s).0 read;
  kinds = same;
  made = text_rules t s read;
  holds = holds;
}
