-- The quantifier lines as they are written, one variable more at a time.
use Rattle.std.proofs.Common.{◌≡◌, ◌≢◌, ℕ, zero, suc, ◌+◌, ◌-◌, ◌<◌, ◌≤◌, List, [], ◌∷◌, ◌++◌, map, length, drop, Result, Some, codes, decimal, sym, refl, ap, ◌∙◌, subst, arith, add-one}
use Rattle.std.specs.List.{flat_map}
use Rattle.std.specs.Option.{IsSome}
use Rattle.std.specs.Fmt.{HasWritten, WritesOnOk}
use Rattle.std.specs.Result.{IsOk}
use Rattle.std.specs.declared.fmt.Error.{Error}
use Rattle.std.specs.declared.fmt.Formatter.{Formatter}
use Rattle.std.proofs.Output.{has_written_append, has_written_of_eq, has_written_to_eq}
use Rattle.std.proofs.lemmas.Fmt.{decimal_digit}
use Rattle.std.proofs.lemmas.List.{append_assoc, drop_all}
use Rattle.prefix.specs.Kinds.{kind_at}
use Rattle.prefix.specs.declared.kind.Kind.{Kind}
use Rattle.prefix.specs.declared.kind.Kind.TheVariants.{Report, Reply}
use Rattle.sheet_text.specs.Grammar.{Quantifier, kind_word, quantifier_line}
use Rattle.sheet_writer.specs.Writing.{run_on, runs_after, runs, spaced, line_text, quantifier_lines}

-- Variables, with a space before each.
abbrev variables_text : List ℕ → List ℕ
variables_text vs = flat_map (λ v. 32 ∷ decimal v) vs

abbrev lines_text : List Quantifier → List ℕ
lines_text qs = flat_map line_text (map quantifier_line qs)

-- What is left to write from variable v on, in an open line of the kind k.
abbrev open_text : Kind → ℕ → List Kind → List ℕ
open_text k v ks = variables_text (run_on k v ks) ++ (32 ∷ 48 ∷ 10 ∷ lines_text (runs_after k v ks))

spaced-variables : (w : List ℕ) (vs : List ℕ) (z : List ℕ) → spaced (w ∷ (map decimal vs ++ z ∷ [])) ≡ w ++ (variables_text vs ++ 32 ∷ z)
spaced-variables w [] z = refl
spaced-variables w (v ∷ vs) z =
    ap (λ (x : List ℕ). w ++ 32 ∷ x) (spaced-variables (decimal v) vs z ∙ sym (append_assoc (decimal v) (variables_text vs) (32 ∷ z)))

line_open : (k : Kind) (vs rest : List ℕ) → line_text (quantifier_line (record { kind = k; variables = vs })) ++ rest
    ≡ kind_word k ++ (variables_text vs ++ (32 ∷ 48 ∷ 10 ∷ rest))
line_open k vs rest = simp (spaced-variables, append_assoc)

run_open : (k : Kind) (v : ℕ) (ks : List Kind) → lines_text (runs v (k ∷ ks)) ≡ kind_word k ++ (32 ∷ (decimal v ++ open_text k (suc v) ks))
run_open k v ks = line_open k (v ∷ run_on k (suc v) ks) (lines_text (runs_after k (suc v) ks)) ∙ simp append_assoc

open_same : (k : Kind) (v : ℕ) (ks : List Kind) → open_text k v (k ∷ ks) ≡ 32 ∷ (decimal v ++ open_text k (suc v) ks)
open_same Report v ks = simp append_assoc
open_same Reply v ks = simp append_assoc

open_other : (k q : Kind) (v : ℕ) (ks : List Kind) → q ≢ k → open_text k v (q ∷ ks) ≡ 32 ∷ 48 ∷ 10 ∷ (kind_word q ++ (32 ∷ (decimal v ++ open_text q (suc v) ks)))
open_other Report Report v ks other = absurd (other refl)
open_other Reply Reply v ks other = absurd (other refl)
open_other Report Reply v ks other = ap (λ (x : List ℕ). 32 ∷ 48 ∷ 10 ∷ x) (run_open Reply v ks)
open_other Reply Report v ks other = ap (λ (x : List ℕ). 32 ∷ 48 ∷ 10 ∷ x) (run_open Report v ks)

-- A prefix has a kind at each of its positions.
pub some_kind : (ks : List Kind) (p : ℕ) → 1 ≤ p → p ≤ length ks → IsSome (kind_at ks p)
some_kind ks zero low high = absurd (omega arith)
some_kind [] (suc i) low high = absurd (omega arith)
some_kind (k ∷ ks) (suc zero) low high = refl
some_kind (k ∷ ks) (suc (suc i)) low high = some_kind ks (suc i) (omega arith) (omega arith)

drop-kinds : (ks : List Kind) (i : ℕ) (q : Kind) → kind_at ks (suc i) ≡ Some q → drop i ks ≡ q ∷ drop (suc i) ks
drop-kinds [] i q e = cc
drop-kinds (k ∷ ks) zero q e = cc
drop-kinds (k ∷ ks) (suc i) q e = drop-kinds ks i q e

-- What is left from position p on, in an open line of the kind k.
abbrev left_from : List Kind → Kind → ℕ → List ℕ
left_from ks k p = open_text k p (drop (p - 1) ks)

-- The formatter g is f after part of the lines, and left are those from position p on, in an open line of the kind k.
pub record Begun {W : Type 0} (took : W → List ℕ → W → Type 0) (f g : Formatter W) (ks : List Kind) (k : Kind) (p : ℕ) : Type 0 where
  pub text : List ℕ
  pub written : HasWritten took f text g
  pub whole : text ++ left_from ks k p ≡ flat_map line_text (quantifier_lines ks)

-- What is left from position p on begins with that position's kind.
left_more : (ks : List Kind) (k q : Kind) (p : ℕ) → 1 ≤ p → kind_at ks p ≡ Some q → left_from ks k p ≡ open_text k p (q ∷ drop (p + 1 - 1) ks)
left_more ks k q zero low at = absurd (omega arith)
left_more ks k q (suc i) low at =
    let here : suc i - 1 ≡ i = omega arith in
    let next : suc i + 1 - 1 ≡ suc i = omega arith in
    rw (here, next) (ap (open_text k (suc i)) (drop-kinds ks i q at))

left-same : (ks : List Kind) (k : Kind) (p : ℕ) → 1 ≤ p → kind_at ks p ≡ Some k → left_from ks k p ≡ (32 ∷ decimal p) ++ left_from ks k (p + 1)
left-same ks k p low at = left_more ks k k p low at ∙ open_same k p (drop (p + 1 - 1) ks) ∙ ap (λ (n : ℕ). 32 ∷ (decimal p ++ open_text k n (drop (p + 1 - 1) ks))) (sym (add-one p))

left-other : (ks : List Kind) (k q : Kind) (p : ℕ) → 1 ≤ p → q ≢ k → kind_at ks p ≡ Some q
    → left_from ks k p ≡ (32 ∷ 48 ∷ 10 ∷ (kind_word q ++ 32 ∷ decimal p)) ++ left_from ks q (p + 1)
left-other ks k q p low other at =
    left_more ks k q p low at ∙ open_other k q p (drop (p + 1 - 1) ks) other
    ∙ ap (λ (n : ℕ). 32 ∷ 48 ∷ 10 ∷ (kind_word q ++ 32 ∷ (decimal p ++ open_text q n (drop (p + 1 - 1) ks)))) (sym (add-one p))
    ∙ ap (λ (x : List ℕ). 32 ∷ 48 ∷ 10 ∷ x) (sym (append_assoc (kind_word q) (32 ∷ decimal p) (left_from ks q (p + 1))))

module _ {W : Type 0} (took : W → List ℕ → W → Type 0) (f : Formatter W) (ks : List Kind) where
  pub begun : (g : Formatter W) (q : Kind) → kind_at ks 1 ≡ Some q → HasWritten took f (kind_word q ++ 32 ∷ 49 ∷ []) g → Begun took f g ks q 2
  begun g q first write = record {
    text = kind_word q ++ 32 ∷ 49 ∷ [];
    written = write;
    whole =
        append_assoc (kind_word q) (32 ∷ 49 ∷ []) (left_from ks q 2)
        ∙ ap (λ (x : List ℕ). kind_word q ++ 32 ∷ (x ++ left_from ks q 2)) (sym (decimal_digit 1 (omega arith)))
        ∙ sym (ap (λ (x : List Kind). lines_text (runs 1 x)) (drop-kinds ks 0 q first) ∙ run_open q 1 (drop 1 ks));
  }

  begun_more : (g h : Formatter W) (k q : Kind) (p : ℕ) (more : List ℕ) → left_from ks k p ≡ more ++ left_from ks q (p + 1)
      → Begun took f g ks k p → HasWritten took g more h → Begun took f h ks q (p + 1)
  begun_more g h k q p more left b write = record {
    text = b.text ++ more;
    written = has_written_append took f b.text g more h b.written write;
    whole = append_assoc b.text more (left_from ks q (p + 1)) ∙ ap (λ (x : List ℕ). b.text ++ x) (sym left) ∙ b.whole;
  }

  -- Variable p goes on in the open line, or in a new one.
  pub same_line : (g h : Formatter W) (k q : Kind) (p : ℕ) → 1 ≤ p → q ≡ k → kind_at ks p ≡ Some q → Begun took f g ks k p → HasWritten took g (32 ∷ decimal p) h
      → Begun took f h ks q (p + 1)
  same_line g h k q p low same at b write =
      begun_more g h q q p (32 ∷ decimal p) (left-same ks q p low at) (subst (λ (x : Kind). Begun took f g ks x p) (sym same) b) write

  pub next_line : (g h : Formatter W) (k q : Kind) (p : ℕ) → 1 ≤ p → q ≢ k → kind_at ks p ≡ Some q → Begun took f g ks k p
      → HasWritten took g (32 ∷ 48 ∷ 10 ∷ (kind_word q ++ 32 ∷ decimal p)) h → Begun took f h ks q (p + 1)
  next_line g h k q p low other at b write = begun_more g h k q p (32 ∷ 48 ∷ 10 ∷ (kind_word q ++ 32 ∷ decimal p)) (left-other ks k q p low other at) b write

  pub ended : (g g' h : Formatter W) (k : Kind) (p : ℕ) (r : Result (Unit {0}) Error) → g' ≡ g → length ks < p → Begun took f g ks k p → WritesOnOk took g' r (codes " 0\n") h
      → IsOk r → HasWritten took f (flat_map line_text (quantifier_lines ks)) h
  ended g g' h k p r is past b write ok =
      let none : left_from ks k p ≡ codes " 0\n" = ap (open_text k p) (drop_all (p - 1) ks (omega arith)) in
      let before = has_written_to_eq took f b.text g g' is b.written in
      has_written_of_eq took _ _ _ _ (ap (λ (x : List ℕ). b.text ++ x) (sym none) ∙ b.whole) (has_written_append took f b.text g' (codes " 0\n") h before (write before.plain ok))
