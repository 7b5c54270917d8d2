-- Facts about all settings, and about all replies, by a test of each.
use Rattle.std.proofs.Common.{◌≡◌, ℕ, zero, suc, ◌<◌, ◌≤◌, Bool, true, false, ◌&&◌, List, [], ◌∷◌, length, subst, ⊎_elim, arith}
use Rattle.std.proofs.lemmas.Bool.{and_parts, cases_lt}

-- The test passes on every list of r values.
abbrev pub every : ℕ → (List Bool → Bool) → Bool
every zero f = f []
every (suc r) f = every r (λ v. f (false ∷ v)) && every r (λ v. f (true ∷ v))

pub every_holds : (r : ℕ) (f : List Bool → Bool) → every r f ≡ true → (v : List Bool) → length v ≡ r → f v ≡ true
every_holds zero f h [] e = h
every_holds zero f h (x ∷ v) e = absurd (omega arith)
every_holds (suc r) f h [] e = absurd (omega arith)
every_holds (suc r) f h (false ∷ v) e = every_holds r (λ v. f (false ∷ v)) (and_parts (every r (λ v. f (false ∷ v))) (every r (λ v. f (true ∷ v))) h).0 v (omega arith)
every_holds (suc r) f h (true ∷ v) e = every_holds r (λ v. f (true ∷ v)) (and_parts (every r (λ v. f (false ∷ v))) (every r (λ v. f (true ∷ v))) h).1 v (omega arith)

-- The test passes on every number below n.
abbrev pub each_below : ℕ → (ℕ → Bool) → Bool
each_below zero f = true
each_below (suc n) f = each_below n f && f n

pub each_holds : (n : ℕ) (f : ℕ → Bool) → each_below n f ≡ true → (k : ℕ) → k < n → f k ≡ true
each_holds zero f h k lt = absurd (omega arith)
each_holds (suc n) f h k lt =
    let both = and_parts (each_below n f) (f n) h in
    ⊎_elim (λ (l : k < n). each_holds n f both.0 k l) (λ (e : n ≤ k). subst (λ (i : ℕ). f i ≡ true) (let same : n ≡ k = omega arith in same) both.1) (cases_lt k n)
