-- The text of a sheet in its three parts: the header, the quantifier lines, the rules.
use Rattle.std.proofs.Common.{◌≡◌, ℕ, List, ◌++◌, map, length, take, ap, ◌∙◌}
use Rattle.std.proofs.lemmas.List.{length-map}
use Rattle.std.proofs.lemmas.Grind.{flat_map-append}
use Rattle.std.specs.List.{flat_map}
use Rattle.prefix.specs.Prefixes.{kinds}
use Rattle.prefix.specs.declared.prefix.Prefix.{Prefix}
use Rattle.sheet.specs.declared.form.Form.{Form}
use Rattle.sheet.specs.declared.rule.Rule.{Rule}
use Rattle.sheet_text.specs.Grammar.{header_line}
use Rattle.sheet_writer.specs.Writing.{rising, line_text, quantifier_lines, rule_lines, written}

abbrev in_parts : Form → Prefix → ℕ → ℕ → List Rule → List ℕ
in_parts f p n m rs = line_text (header_line f n (length rs)) ++ (flat_map line_text (quantifier_lines (kinds p)) ++ flat_map line_text (rule_lines (map (λ r. rising r m) rs)))

joined-parts : (f : Form) (p : Prefix) (rs : List Rule) → in_parts f p (length (kinds p)) p.length (take 256 rs) ≡ written f p rs
joined-parts f p rs = simp (length-map, flat_map-append)

pub written_parts : (f : Form) (p : Prefix) (rs counted : List Rule) (n m : ℕ) → n ≡ length (kinds p) → n ≡ p.length → counted ≡ take 256 rs → m ≡ length counted
    → line_text (header_line f n m) ++ (flat_map line_text (quantifier_lines (kinds p)) ++ flat_map line_text (rule_lines (map (λ r. rising r n) counted))) ≡ written f p rs
written_parts f p rs counted n m e e' r l =
    ap (λ (x : ℕ). line_text (header_line f n x) ++ (flat_map line_text (quantifier_lines (kinds p)) ++ flat_map line_text (rule_lines (map (λ q. rising q n) counted)))) l
    ∙ ap (λ (l : List Rule). in_parts f p n n l) r ∙ ap (λ (x : ℕ). in_parts f p n x (take 256 rs)) e' ∙ ap (λ (x : ℕ). in_parts f p x p.length (take 256 rs)) e
    ∙ joined-parts f p rs
