-- Clauses and terms are sound: a whole line breaks them where it is not kept, a
-- part line where no line from there on is.
use Rattle.std.proofs.Common.{All, ◌≡◌, ℕ, zero, suc, ◌≤◌, Bool, true, false, not, ◌&&◌, leb, List, ◌++◌, length, get_or, sym, refl, ap, ◌∙◌, arith}
use mathlib.Core.Bool.{beq}
use Rattle.std.proofs.lemmas.List.{get_or_append_left}
use Rattle.std.proofs.lemmas.Bool.{and_parts, and_right, not-true, le-leb, leb-true}
use Rattle.sheet.specs.Meaning.{Sound}
use Rattle.sheet.specs.Rules.{literal_at, literals, value_at, holds, fails, clauses_kept, clauses_broken, terms_kept, terms_broken}
use Rattle.sheet.specs.declared.literal.Literal.{Literal}
use Rattle.sheet.specs.declared.rule.Rule.{Rule}
use Rattle.sheet.proofs.Named.{all_fail, some_holds, some_fails, all_hold, all-literals}
use Rattle.sheet.proofs.Quantified.{every_dual, some_dual, every_excludes, some_excludes}

-- At a position that has its value a literal fails where it does not hold.
decided : (v : List Bool) (l : Literal) → l.position ≤ length v → fails v l ≡ not (holds v l)
decided v l h =
    let same = beq (value_at v l.position) l.wanted in
    let e = le-leb l.position (length v) h in
    ap (λ (b : Bool). b && not same) e ∙ sym (ap (λ (b : Bool). not (b && same)) e)

all_decided : (r : Rule) (n : ℕ) (v : List Bool) → length v ≡ n → All (λ l. fails v l ≡ not (holds v l)) (literals r n)
all_decided r n v e = all-literals r (λ l. fails v l ≡ not (holds v l)) n (λ i h. decided v (literal_at r i) (omega arith))

value_append : (u rest : List Bool) (k : ℕ) → k ≤ length u → value_at (u ++ rest) k ≡ value_at u k
value_append u rest zero h = refl
value_append u rest (suc i) h = get_or_append_left u rest false i (omega arith)

-- A literal that fails holds at no line from there on.
lost : (u rest : List Bool) (l : Literal) → fails u l ≡ true → holds (u ++ rest) l ≡ false
lost u rest l h =
    let same : List Bool → Bool = λ v. beq (value_at v l.position) l.wanted in
    let both = and_parts (leb l.position (length u)) (not (same u)) h in
    let e = value_append u rest l.position (leb-true l.position (length u) both.0) in
    and_right (leb l.position (length (u ++ rest))) (same (u ++ rest))
    (ap (λ (b : Bool). beq b l.wanted) e ∙ not-true (same u) both.1)

each : {A : Type 0} (P : A → Type 0) → ((x : A) → P x) → (xs : List A) → All P xs
each P f xs k d lt = f (get_or xs k d)

pub clauses_sound : (n : ℕ) (rules : List Rule) → Sound n (clauses_kept n rules) (clauses_broken n rules)
clauses_sound n rules = record {
  whole = λ v e. some_dual (all_fail n v) (some_holds n v) rules
      (each (λ r. all_fail n v r ≡ not (some_holds n v r)) (λ r. every_dual (fails v) (holds v) (literals r n) (all_decided r n v e)) rules);
  part = λ u rest _ h. some_excludes (all_fail n u) (some_holds n (u ++ rest))
      (λ r. every_excludes (fails u) (holds (u ++ rest)) (lost u rest) (literals r n)) rules h;
}

pub terms_sound : (n : ℕ) (rules : List Rule) → Sound n (terms_kept n rules) (terms_broken n rules)
terms_sound n rules = record {
  whole = λ v e. every_dual (some_fails n v) (all_hold n v) rules
      (each (λ r. some_fails n v r ≡ not (all_hold n v r)) (λ r. some_dual (fails v) (holds v) (literals r n) (all_decided r n v e)) rules);
  part = λ u rest _ h. every_excludes (some_fails n u) (all_hold n (u ++ rest))
      (λ r. some_excludes (fails u) (holds (u ++ rest)) (lost u rest) (literals r n)) rules h;
}
