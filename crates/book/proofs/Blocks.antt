-- The blocks of a table: how many words, and where they begin.
use Rattle.std.proofs.Common.{◌≡◌, ℕ, zero, suc, ◌+◌, ◌-◌, ◌*◌, ◌≤◌, ◌<◌, min, ◌⊎◌, cond, length, sym, ap, ◌∙◌, ⊎_elim, inr, arith}
use Rattle.std.proofs.lemmas.Bool.{cases_lt}
use Rattle.prefix.specs.Kinds.{some_reply}
use Rattle.prefix.specs.Points.{sum_to}
use Rattle.prefix.specs.Prefixes.{kinds}
use Rattle.prefix.specs.declared.prefix.Prefix.{Prefix}
use Rattle.prefix.proofs.Positions.{kind_outside, length-kinds}
use Rattle.book.specs.Tables.{block_words, words_at, words_before, word_count}

-- A sum stays where nothing is added to it.
sum_still : (f : ℕ → ℕ) (n i : ℕ) → n ≤ i → ((j : ℕ) → n < j → f j ≡ 0) → sum_to f i ≡ sum_to f n
sum_still f n zero h z = let e : n ≡ 0 = omega arith in ap (sum_to f) (sym e)
sum_still f n (suc i) h z =
    ⊎_elim (λ (l : i < n). let e : suc i ≡ n = omega arith in ap (sum_to f) e)
    (λ (l : n ≤ i). omega (arith, sum_still f n i l z, z (suc i) (omega arith)))
    (cases_lt i n)

-- No reply stands at a number that is no position, so no blocks do.
no_words : (p : Prefix) (k : ℕ) → (k ≡ 0) ⊎ (p.length < k) → words_at (kinds p) k ≡ 0
no_words p k o = ap (λ q. cond (some_reply q) (2 * block_words (kinds p) k) 0) (kind_outside p.length p.reports k o)

-- Before a position past the last stand the words of all positions.
pub words_capped : (p : Prefix) (k : ℕ) → words_before (kinds p) k ≡ sum_to (words_at (kinds p)) (min (k - 1) p.length)
words_capped p k =
    ⊎_elim (λ (l : k - 1 < p.length). let e : k - 1 ≡ min (k - 1) p.length = omega arith in ap (sum_to (words_at (kinds p))) e)
    (λ (l : p.length ≤ k - 1).
    let e : p.length ≡ min (k - 1) p.length = omega arith in
    sum_still (words_at (kinds p)) p.length (k - 1) l (λ i h. no_words p i (inr h)) ∙ ap (sum_to (words_at (kinds p))) e)
    (cases_lt (k - 1) p.length)

pub words_all : (p : Prefix) (k : ℕ) → k ≡ p.length + 1 → words_before (kinds p) k ≡ word_count (kinds p)
words_all p k h = let e : k - 1 ≡ length (kinds p) = omega (arith, length-kinds p.length p.reports) in ap (sum_to (words_at (kinds p))) e
