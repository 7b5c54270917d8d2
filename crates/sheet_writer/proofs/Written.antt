-- The text that is written says the sheet.
use Rattle.std.proofs.Common.{All, ◌≡◌, ℕ, zero, suc, ◌≤◌, List, [], ◌∷◌, ◌++◌, map, length, get_or, take, sym, refl, ap, ◌∙◌, subst, arith}
use Rattle.std.proofs.lemmas.List.Elements.{All-nil, All-cons, All-head, All-tail, All-append, All-map, All-weaker}
use Rattle.std.proofs.lemmas.List.{length-map, length-take}
use Rattle.prefix.proofs.Positions.{length-kinds, count-whole}
use Rattle.prefix.specs.Kinds.{report_count}
use Rattle.prefix.specs.Prefixes.{kinds}
use Rattle.prefix.specs.declared.kind.Kind.{Kind}
use Rattle.prefix.specs.declared.prefix.Prefix.{Prefix}
use Rattle.sheet.specs.Literals.{Distinct}
use Rattle.sheet.specs.declared.form.Form.{Form}
use Rattle.sheet.specs.declared.literal.Literal.{Literal}
use Rattle.sheet.specs.declared.rule.Rule.{Rule}
use Rattle.sheet_text.specs.Grammar.{Comment, header_line, Variable, order, position_in, Once, placed, Ranges, quantifier_line, rule_line, Says}
use Rattle.sheet_text.specs.Sheets.{Sheet}
use Rattle.sheet_writer.specs.Writing.{rising, sheet_of_rules, runs, signed, quantifier_lines, rule_lines, sheet_lines, text_of, written}
use Rattle.sheet_text.proofs.Beginnings.{all_ruled}
use Rattle.sheet_text.proofs.Naming.{Ranged}
use Rattle.sheet_text.proofs.RuleReads.{Known}
use Rattle.sheet_writer.proofs.Joining.{IsLine, lines-joined, allowed-joined}
use Rattle.sheet_writer.proofs.Rising.{Within, rising-within, rising-distinct}
use Rattle.sheet_writer.proofs.Runs.{VariablesIn, variables_from, order-runs, some_runs, kinds_from, named_from, once_from, place_from, named-lines}
use Rattle.sheet_writer.proofs.WrittenWords.{line_header, line_quantifier, line_rule}

-- What a sheet keeps to, so that its text says it.
record Proper (s : Sheet) : Type 0 where
  positions : Ranges 24 (length s.kinds)
  reports : report_count s.kinds ≤ 12
  few : length s.rules ≤ 256
  within : All (All (Within (length s.kinds))) s.rules
  distinct : All Distinct s.rules

variable_place : (ks : List Kind) (v : ℕ) → Ranges (length ks) v → position_in (variables_from 1 ks) v ≡ v
variable_place ks zero h = absurd (omega arith)
variable_place ks (suc i) h = place_from 1 (suc i) i ks (omega arith) (omega arith)

literal_placed : (ks : List Kind) (l : Literal) → Within (length ks) l → l ≡ placed (variables_from 1 ks) (signed l)
literal_placed ks l h = ap (λ (p : ℕ). record { position = p; wanted = l.wanted }) (sym (variable_place ks l.position h))

rule_placed : (ks : List Kind) (ls : List Literal) → All (Within (length ks)) ls → ls ≡ map (placed (variables_from 1 ks)) (map signed ls)
rule_placed ks [] h = refl
rule_placed ks (l ∷ ls) h =
    ap (λ (x : Literal). x ∷ ls) (literal_placed ks l (All-head (Within (length ks)) l ls h))
    ∙ ap (λ (x : List Literal). placed (variables_from 1 ks) (signed l) ∷ x) (rule_placed ks ls (All-tail (Within (length ks)) l ls h))

rules-placed : (ks : List Kind) (rules : List (List Literal)) → All (All (Within (length ks))) rules
    → rules ≡ map (map (placed (variables_from 1 ks))) (map (map signed) rules)
rules-placed ks [] h = refl
rules-placed ks (ls ∷ rules) h =
    ap (λ (x : List Literal). x ∷ rules) (rule_placed ks ls (All-head (All (Within (length ks))) ls rules h))
    ∙ ap (λ (x : List (List Literal)). map (placed (variables_from 1 ks)) (map signed ls) ∷ x) (rules-placed ks rules (All-tail (All (Within (length ks))) ls rules h))

known-rules : (n : ℕ) (rules : List (List Literal)) → All (All (Within n)) rules → All (All (Known n)) (map (map signed) rules)
known-rules n rules h =
    All-map (All (Known n)) (map signed) rules
    (All-weaker (All (Within n)) (λ ls. All (Known n) (map signed ls)) (λ ls w. All-map (Known n) signed ls w) rules h)

named-runs : (ks : List Kind) → All (Ranged (length ks)) (order (runs 1 ks))
named-runs ks = subst (All (Ranged (length ks))) (sym (order-runs 1 ks)) (named_from (length ks) 1 ks (omega arith) (omega arith))

lines_proper : (s : Sheet) → Proper s → All IsLine (sheet_lines s)
lines_proper s p =
    let n = length s.kinds in
    let small : n ≤ 24 = p.positions.1 in
    All-cons IsLine (header_line s.form n (length s.rules)) (quantifier_lines s.kinds ++ rule_lines s.rules)
    (line_header s.form n (length s.rules) small p.few)
    (All-append IsLine (quantifier_lines s.kinds) (rule_lines s.rules)
    (All-map IsLine quantifier_line (runs 1 s.kinds)
    (All-weaker (VariablesIn n) (λ q. IsLine (quantifier_line q)) (λ q h. line_quantifier n q small h) (runs 1 s.kinds) (named-lines n (runs 1 s.kinds) (named-runs s.kinds))))
    (All-map IsLine rule_line (map (map signed) s.rules)
    (All-weaker (All (Known n)) (λ ls. IsLine (rule_line ls)) (λ ls h. line_rule n ls small h) (map (map signed) s.rules) (known-rules n s.rules p.within))))

proper_says : (s : Sheet) → Proper s → Says (text_of s) s
proper_says s p =
    let ks = s.kinds in
    let qs = order (runs 1 ks) in
    let rs = map (map signed) s.rules in
    let are = sym (order-runs 1 ks) in
    let kinds-are : ks ≡ map (λ (q : Variable). q.kind) qs = kinds_from 1 ks ∙ ap (map (λ (q : Variable). q.kind)) are in
    let long : length qs ≡ length ks = sym (ap length kinds-are ∙ length-map qs (λ (q : Variable). q.kind)) in
    let placed-are : s.rules ≡ map (map (placed qs)) rs = rules-placed ks s.rules p.within ∙ ap (λ (vs : List Variable). map (map (placed vs)) rs) are in
    let many : length rs ≡ length s.rules = length-map s.rules (map signed) in
    record {
      variables = qs;
      rules = rs;
      allowed = allowed-joined (sheet_lines s) (lines_proper s p);
      lines = record {
        comments = [];
        quantifiers = runs 1 ks;
        spelled = lines-joined (sheet_lines s) (lines_proper s p);
        commented = All-nil Comment;
        positions = p.positions;
        few = p.few;
        ordered = refl;
        some = some_runs 1 ks;
        quantified = record {
          range = named-runs ks;
          once = subst Once are (once_from 1 ks);
          reports = subst (λ (ks : List Kind). report_count ks ≤ 12) kinds-are p.reports;
        };
        most = omega arith;
        named = λ _. long;
        ruled = all_ruled (length ks) qs rs (known-rules (length ks) s.rules p.within) (subst (All Distinct) placed-are p.distinct);
      };
      kinds = kinds-are;
      literals = placed-are;
    }

all_of : {A B : Type 0} (P : B → Type 0) (f : A → B) → ((x : A) → P (f x)) → (xs : List A) → All P (map f xs)
all_of P f h xs = All-map P f xs (λ k d lt. h (get_or xs k d))

proper_rules : (f : Form) (p : Prefix) (rs : List Rule) → Proper (sheet_of_rules f p rs)
proper_rules f p rs =
    let n : length (kinds p) ≡ p.length = length-kinds p.length p.reports in
    record {
      positions = (omega (arith, n, p.ok.0), omega (arith, n, p.ok.1));
      reports = subst (λ (x : ℕ). x ≤ 12) (sym (count-whole p.length p.reports p.ok.2)) p.ok.3;
      few = simp (length-map, length-take) (omega arith);
      within =
          subst (λ (x : ℕ). All (All (Within x)) (map (λ r. rising r p.length) (take 256 rs))) (sym n)
          (all_of (All (Within p.length)) (λ r. rising r p.length) (λ r. rising-within r p.length) (take 256 rs));
      distinct = all_of Distinct (λ r. rising r p.length) (λ r. rising-distinct r p.length p.ok.1) (take 256 rs);
    }

pub written-says : (f : Form) (p : Prefix) (rs : List Rule) → Says (written f p rs) (sheet_of_rules f p rs)
written-says f p rs = proper_says (sheet_of_rules f p rs) (proper_rules f p rs)
