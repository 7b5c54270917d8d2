-- The words of a sheet's lines are words: letters, digits and a minus.
use Rattle.std.proofs.lemmas.Grind.{common_steps}
use Rattle.std.proofs.Common.{All, rules, ℕ, ◌+◌, ◌%◌, ◌^◌, ◌<◌, ◌≤◌, Bool, true, false, cond, List, [], ◌∷◌, ◌++◌, map, codes, decimal, arith, length-append}
use Rattle.std.proofs.lemmas.List.Elements.{All-nil, All-cons, All-map, All-push, All-weaker}
use Rattle.std.proofs.lemmas.Fmt.{decimal_by_steps}
use Rattle.prefix.specs.declared.kind.Kind.{Kind}
use Rattle.prefix.specs.declared.kind.Kind.TheVariants.{Report, Reply}
use Rattle.sheet.specs.declared.form.Form.{Form}
use Rattle.sheet.specs.declared.form.Form.TheVariants.{Cnf, Dnf}
use Rattle.sheet_text.specs.Grammar.{Quantifier, Signed, Ranges, form_word, header_line, kind_word, quantifier_line, signed_word, rule_line}
use Rattle.sheet_text.proofs.RuleReads.{Known}
use Rattle.sheet_text.specs.Bytes.{Visible}
use Rattle.sheet_writer.proofs.Joining.{IsWord, IsLine}

digits_more : (n : ℕ) (ds : List ℕ) → 10 ≤ n → IsWord ds → IsWord (ds ++ (48 + n % 10) ∷ [])
digits_more n ds h w = grind (arith, common_steps, All-push)

word_decimal : (n : ℕ) → n < 2 ^ 64 → IsWord (decimal n)
word_decimal n h = decimal_by_steps (λ n ds. IsWord ds) (λ n l. search rules) digits_more n h

word_form : (f : Form) → IsWord (form_word f)
word_form Cnf = search rules
word_form Dnf = search rules

word_kind : (k : Kind) → IsWord (kind_word k)
word_kind Report = search rules
word_kind Reply = search rules

word_zero : IsWord (codes "0")
word_zero = search rules

word_p : IsWord (codes "p")
word_p = search rules

word_sign : (on : Bool) (v : ℕ) → v < 2 ^ 64 → IsWord (cond on (decimal v) (45 ∷ decimal v))
word_sign true v h = word_decimal v h
word_sign false v h = (omega arith, All-cons Visible 45 (decimal v) (omega arith, omega arith) (word_decimal v h).1)

word_signed : (n : ℕ) (l : Signed) → n ≤ 24 → Ranges n l.variable → IsWord (signed_word l)
word_signed n l few h = word_sign l.wanted l.variable (omega arith)

pub line_header : (f : Form) (n m : ℕ) → n ≤ 24 → m ≤ 256 → IsLine (header_line f n m)
line_header f n m few h =
    let counts = All-cons IsWord (decimal n) (decimal m ∷ []) (word_decimal n (omega arith)) (All-cons IsWord (decimal m) [] (word_decimal m (omega arith)) (All-nil IsWord)) in
    (omega arith, All-cons IsWord (codes "p") (form_word f ∷ decimal n ∷ decimal m ∷ []) word_p (All-cons IsWord (form_word f) (decimal n ∷ decimal m ∷ []) (word_form f) counts))

pub line_quantifier : (n : ℕ) (q : Quantifier) → n ≤ 24 → All (Ranges n) q.variables → IsLine (quantifier_line q)
line_quantifier n q few h = (
  omega arith,
  All-cons IsWord (kind_word q.kind) (map decimal q.variables ++ codes "0" ∷ []) (word_kind q.kind)
      (All-push IsWord (map decimal q.variables) (codes "0")
      (All-map IsWord decimal q.variables (All-weaker (Ranges n) (λ v. IsWord (decimal v)) (λ v r. word_decimal v (omega arith)) q.variables h)) word_zero),
)

pub line_rule : (n : ℕ) (ls : List Signed) → n ≤ 24 → All (Known n) ls → IsLine (rule_line ls)
line_rule n ls few h = (
  simp length-append (omega arith),
  All-push IsWord (map signed_word ls) (codes "0")
      (All-map IsWord signed_word ls (All-weaker (Known n) (λ l. IsWord (signed_word l)) (λ l r. word_signed n l few r) ls h)) word_zero,
)
