-- The literals of a rule in rising position, one position more at a time; they are distinct.
use Rattle.std.proofs.Common.{All, ◌≡◌, ℕ, zero, suc, ◌<◌, ◌≤◌, Bool, true, false, cond, eqb, List, [], ◌∷◌, ◌++◌, reverse, Some, None, Option, sym, refl, subst, arith}
use mathlib.Core.List.{reverse-cons}
use Rattle.std.proofs.lemmas.List.Elements.{All-nil, All-cons, All-head, All-tail, All-append, All-weaker}
use Rattle.std.proofs.lemmas.List.{append-nil}
use Rattle.std.proofs.lemmas.Bool.{cond-false, ne_eqb}
use Rattle.prefix.specs.Bits.{bit}
use Rattle.sheet.specs.Literals.{InRange, lookup, Distinct}
use Rattle.sheet.specs.Rules.{literal_at, literals}
use Rattle.sheet.specs.declared.literal.Literal.{Literal}
use Rattle.sheet.specs.declared.rule.Rule.{Rule}
use Rattle.sheet_text.specs.Grammar.{Ranges}
use Rattle.sheet_writer.specs.Writing.{rising}

-- The literal at position i + 1, if the rule has one.
abbrev pub literals_at : Rule → ℕ → List Literal
literals_at r i = cond (bit r.named i) (literal_at r i ∷ []) []

reverse-cond : (b : Bool) (l : Literal) (ls : List Literal) → reverse (cond b (l ∷ ls) ls) ≡ reverse ls ++ cond b (l ∷ []) []
reverse-cond true l ls = reverse-cons l ls
reverse-cond false l ls = sym (append-nil (reverse ls))

pub rising-more : (r : Rule) (i : ℕ) → rising r (suc i) ≡ rising r i ++ literals_at r i
rising-more r i = reverse-cond (bit r.named i) (literal_at r i) (literals r i)

-- The literal stands at a position from 1 to n.
abbrev pub Within : ℕ → Literal → Type 0
Within n l = Ranges n l.position

within-cond : (n : ℕ) (b : Bool) (l : Literal) → Within n l → All (Within n) (cond b (l ∷ []) [])
within-cond n true l h = All-cons (Within n) l [] h (All-nil (Within n))
within-cond n false l h = All-nil (Within n)

pub rising-within : (r : Rule) (n : ℕ) → All (λ l. Ranges n l.position) (rising r n)
rising-within r zero = All-nil (Within 0)
rising-within r (suc i) =
    subst (All (Within (suc i))) (sym (rising-more r i))
    (All-append (Within (suc i)) (rising r i) (literals_at r i) (All-weaker (Within i) (Within (suc i)) (λ l h. (h.0, omega arith)) (rising r i) (rising-within r i))
    (within-cond (suc i) (bit r.named i) (literal_at r i) (omega arith, omega arith)))

lookup_under : (b : Bool) (v o o' : Option Bool) → (o ≡ None → o' ≡ None) → cond b v o ≡ None → cond b v o' ≡ None
lookup_under true v o o' f h = h
lookup_under false v o o' f h = f h

-- A literal after others that stand at other positions.
lookup_push : (k : ℕ) (l : Literal) (ls : List Literal) → (k ≡ l.position → ⊥) → lookup ls k ≡ None → lookup (ls ++ l ∷ []) k ≡ None
lookup_push k l [] ne h = cond-false (eqb k l.position) (Some l.wanted) None (ne_eqb k l.position ne)
lookup_push k l (m ∷ ls) ne h = lookup_under (eqb k m.position) (Some m.wanted) (lookup ls k) (lookup (ls ++ l ∷ []) k) (lookup_push k l ls ne) h

distinct_push : (i : ℕ) (l : Literal) (ls : List Literal) → All (Within i) ls → i < l.position → InRange l → Distinct ls → Distinct (ls ++ l ∷ [])
distinct_push i l [] within past here d = (here, refl, tt)
distinct_push i l (m ∷ ls) within past here d =
    (d.0, lookup_push m.position l ls (λ e. omega (arith, (All-head (Within i) m ls within).1)) d.1, distinct_push i l ls (All-tail (Within i) m ls within) past here d.2)

distinct_cond : (i : ℕ) (b : Bool) (l : Literal) (ls : List Literal) → All (Within i) ls → i < l.position → InRange l → Distinct ls
    → Distinct (ls ++ cond b (l ∷ []) [])
distinct_cond i true l ls within past here d = distinct_push i l ls within past here d
distinct_cond i false l ls within past here d = subst Distinct (sym (append-nil ls)) d

pub rising-distinct : (r : Rule) (n : ℕ) → n ≤ 24 → Distinct (rising r n)
rising-distinct r zero few = tt
rising-distinct r (suc i) few =
    subst Distinct (sym (rising-more r i))
    (distinct_cond i (bit r.named i) (literal_at r i) (rising r i) (rising-within r i) (omega arith) (omega arith, omega arith) (rising-distinct r i (omega arith)))
