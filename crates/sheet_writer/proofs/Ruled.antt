-- A rule's line as it is written: each literal with a space after it, then 0.
use Rattle.std.proofs.Common.{◌≡◌, ℕ, zero, suc, ◌+◌, ◌-◌, ◌≤◌, Bool, true, false, cond, List, [], ◌∷◌, ◌++◌, map, Some, None, Result, codes, Option, sym, refl, ◌∙◌, arith}
use Rattle.std.specs.List.{flat_map}
use Rattle.std.specs.Fmt.{HasWritten, WritesOnOk}
use Rattle.std.specs.Result.{IsOk}
use Rattle.std.specs.declared.fmt.Error.{Error}
use Rattle.std.specs.declared.fmt.Formatter.{Formatter}
use Rattle.std.proofs.Output.{has_written_append, has_written_of_eq, has_written_to_eq}
use Rattle.std.proofs.lemmas.List.{append-nil, append_assoc}
use Rattle.sheet.specs.Rules.{wanted_at}
use Rattle.sheet.specs.declared.literal.Literal.{Literal}
use Rattle.sheet.specs.declared.rule.Rule.{Rule}
use Rattle.sheet_text.specs.Grammar.{signed_word, rule_line}
use Rattle.sheet_writer.specs.Writing.{rising, signed, spaced, line_text, rule_lines, literal_text}
use Rattle.sheet_writer.proofs.Rising.{rising-more}

-- Literals, with a space after each.
abbrev pub literals_text : List Literal → List ℕ
literals_text [] = []
literals_text (l ∷ ls) = (signed_word (signed l) ++ 32 ∷ []) ++ literals_text ls

spaced-more : (w : List ℕ) (ls : List Literal) (z : List ℕ) → spaced (w ∷ (map signed_word (map signed ls) ++ z ∷ []))
    ≡ w ++ 32 ∷ spaced (map signed_word (map signed ls) ++ z ∷ [])
spaced-more w [] z = refl
spaced-more w (l ∷ ls) z = refl

spaced-literals : (ls : List Literal) (z : List ℕ) → spaced (map signed_word (map signed ls) ++ z ∷ []) ≡ literals_text ls ++ z
spaced-literals [] z = refl
spaced-literals (l ∷ ls) z = spaced-more (signed_word (signed l)) ls z ∙ simp (spaced-literals ls z, append_assoc)

pub rule_line_lem : (ls : List Literal) → line_text (rule_line (map signed ls)) ≡ literals_text ls ++ codes "0\n"
rule_line_lem ls = simp (spaced-literals, append_assoc)

literals-append : (ls ms : List Literal) → literals_text (ls ++ ms) ≡ literals_text ls ++ literals_text ms
literals-append [] ms = refl
literals-append (l ∷ ls) ms = simp (literals-append ls ms, append_assoc)

one_literal : (b w : Bool) (i : ℕ) → literals_text (cond b (record { position = suc i; wanted = w } ∷ []) []) ≡ literal_text (suc i) (cond b (Some w) None)
one_literal true w i = append-nil (literal_text (suc i) (Some w))
one_literal false w i = refl

-- The literal at position i + 1 goes after those before it.
pub literals-more : (r : Rule) (i : ℕ) → literals_text (rising r (suc i)) ≡ literals_text (rising r i) ++ literal_text (suc i) (wanted_at r (suc i))
literals-more r i = simp (rising-more, literals-append, one_literal)

pub literals_next : (r : Rule) (p : ℕ) (w : Option Bool) → 1 ≤ p → w ≡ wanted_at r p
    → literals_text (rising r (p - 1)) ++ literal_text p w ≡ literals_text (rising r (p + 1 - 1))
literals_next r zero w low e = absurd (omega arith)
literals_next r (suc i) w low e =
    let here : suc i - 1 ≡ i = omega arith in
    let next : suc i + 1 - 1 ≡ suc i = omega arith in
    rw (here, next, e) (sym (literals-more r i))

-- The literals at the first n positions, and then the end of the line.
pub rule_ended : {W : Type 0} (took : W → List ℕ → W → Type 0) (f g g' h : Formatter W) (r : Rule) (n m : ℕ) (o : Result (Unit {0}) Error) → g' ≡ g → m ≡ n
    → HasWritten took f (literals_text (rising r m)) g → WritesOnOk took g' o (codes "0\n") h → IsOk o → HasWritten took f (line_text (rule_line (map signed (rising r n)))) h
rule_ended took f g g' h r n m o is all written end ok =
    let before = has_written_to_eq took f (literals_text (rising r m)) g g' is written in
    has_written_of_eq took _ _ _ _ (rw all (sym (rule_line_lem (rising r n))))
    (has_written_append took f (literals_text (rising r m)) g' (codes "0\n") h before (end before.plain ok))

-- The lines of some rules over n positions.
abbrev pub rules_text : ℕ → List Rule → List ℕ
rules_text n rs = flat_map line_text (rule_lines (map (λ r. rising r n) rs))
