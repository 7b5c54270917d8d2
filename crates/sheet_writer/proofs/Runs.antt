-- The quantifier lines of a sheet name the variables 1 to n in order, each with its kind.
use Rattle.std.proofs.Common.{All, ◌≡◌, ℕ, zero, suc, ◌+◌, ◌<◌, ◌≤◌, eqb, List, [], ◌∷◌, ◌++◌, map, length, refl, ap, ◌∙◌, arith}
use Rattle.std.proofs.lemmas.List.Elements.{All-nil, All-cons}
use Rattle.std.proofs.lemmas.Bool.{cond-true, cond-false, eq-eqb, ne_eqb}
use Rattle.prefix.specs.declared.kind.Kind.{Kind}
use Rattle.prefix.specs.declared.kind.Kind.TheVariants.{Report, Reply}
use Rattle.sheet_text.specs.Grammar.{Quantifier, Variable, variable, order, one_more, position_in, Once, Ranges}
use Rattle.sheet_text.proofs.Naming.{Ranged}
use Rattle.sheet_text.proofs.SheetReads.{SomeVariable, range_front}
use Rattle.sheet_writer.specs.Writing.{run_on, runs_after, runs}

-- The variables from v on, one for each of the kinds.
abbrev pub variables_from : ℕ → List Kind → List Variable
variables_from v [] = []
variables_from v (k ∷ ks) = variable k v ∷ variables_from (suc v) ks

order_after : (k : Kind) (v : ℕ) (ks : List Kind) → map (variable k) (run_on k v ks) ++ order (runs_after k v ks) ≡ variables_from v ks
order_after k v [] = refl
order_after Report v (Report ∷ ks) = ap (λ (x : List Variable). variable Report v ∷ x) (order_after Report (suc v) ks)
order_after Report v (Reply ∷ ks) = ap (λ (x : List Variable). variable Reply v ∷ x) (order_after Reply (suc v) ks)
order_after Reply v (Report ∷ ks) = ap (λ (x : List Variable). variable Report v ∷ x) (order_after Report (suc v) ks)
order_after Reply v (Reply ∷ ks) = ap (λ (x : List Variable). variable Reply v ∷ x) (order_after Reply (suc v) ks)

pub order-runs : (v : ℕ) (ks : List Kind) → order (runs v ks) ≡ variables_from v ks
order-runs v [] = refl
order-runs v (k ∷ ks) = ap (λ (x : List Variable). variable k v ∷ x) (order_after k (suc v) ks)

-- The run that begins at v.
abbrev run : Kind → ℕ → List Kind → Quantifier
run k v ks = record { kind = k; variables = v ∷ run_on k (suc v) ks }

some_after : (k : Kind) (v : ℕ) (ks : List Kind) → All SomeVariable (runs_after k v ks)
some_after k v [] = All-nil SomeVariable
some_after Report v (Report ∷ ks) = some_after Report (suc v) ks
some_after Report v (Reply ∷ ks) = All-cons SomeVariable (run Reply v ks) (runs_after Reply (suc v) ks) (omega arith) (some_after Reply (suc v) ks)
some_after Reply v (Report ∷ ks) = All-cons SomeVariable (run Report v ks) (runs_after Report (suc v) ks) (omega arith) (some_after Report (suc v) ks)
some_after Reply v (Reply ∷ ks) = some_after Reply (suc v) ks

pub some_runs : (v : ℕ) (ks : List Kind) → All SomeVariable (runs v ks)
some_runs v [] = All-nil SomeVariable
some_runs v (k ∷ ks) = All-cons SomeVariable (run k v ks) (runs_after k (suc v) ks) (omega arith) (some_after k (suc v) ks)

pub kinds_from : (v : ℕ) (ks : List Kind) → ks ≡ map (λ q. q.kind) (variables_from v ks)
kinds_from v [] = refl
kinds_from v (k ∷ ks) = ap (λ (x : List Kind). k ∷ x) (kinds_from (suc v) ks)

pub named_from : (n v : ℕ) (ks : List Kind) → 1 ≤ v → v + length ks ≤ suc n → All (Ranged n) (variables_from v ks)
named_from n v [] low high = All-nil (Ranged n)
named_from n v (k ∷ ks) low high = All-cons (Ranged n) (variable k v) (variables_from (suc v) ks) (low, omega arith) (named_from n (suc v) ks (omega arith) (omega arith))

absent_below : (v w : ℕ) (ks : List Kind) → w < v → position_in (variables_from v ks) w ≡ 0
absent_below v w [] h = refl
absent_below v w (k ∷ ks) h =
    cond-false (eqb w v) 1 (one_more (position_in (variables_from (suc v) ks) w)) (ne_eqb w v (λ e. omega arith))
    ∙ ap one_more (absent_below (suc v) w ks (omega arith))

pub once_from : (v : ℕ) (ks : List Kind) → Once (variables_from v ks)
once_from v [] = tt
once_from v (k ∷ ks) = (absent_below (suc v) v ks (omega arith), once_from (suc v) ks)

pub place_from : (v w i : ℕ) (ks : List Kind) → w ≡ v + i → i < length ks → position_in (variables_from v ks) w ≡ suc i
place_from v w i [] e h = absurd (omega arith)
place_from v w zero (k ∷ ks) e h = cond-true (eqb w v) 1 (one_more (position_in (variables_from (suc v) ks) w)) (eq-eqb w v (omega arith))
place_from v w (suc i) (k ∷ ks) e h =
    cond-false (eqb w v) 1 (one_more (position_in (variables_from (suc v) ks) w)) (ne_eqb w v (λ d. omega arith))
    ∙ ap one_more (place_from (suc v) w i ks (omega arith) (omega arith))

-- A line's variables are from 1 to n.
abbrev pub VariablesIn : ℕ → Quantifier → Type 0
VariablesIn n q = All (Ranges n) q.variables

-- The variables of each quantifier line are among those that the lines name.
pub named-lines : (n : ℕ) (qs : List Quantifier) → All (Ranged n) (order qs) → All (VariablesIn n) qs
named-lines n [] h = All-nil (VariablesIn n)
named-lines n (q ∷ qs) h = let s = range_front n q.kind q.variables (order qs) h in All-cons (VariablesIn n) q qs s.0 (named-lines n qs s.1)
