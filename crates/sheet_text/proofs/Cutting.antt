use Rattle.std.proofs.Common.{◌≡◌, ℕ, zero, suc, ◌+◌, ◌-◌, ◌<◌, ◌≤◌, cond, eqb, ◌⊎◌, List, [], ◌∷◌, ◌++◌, length, get_or, take, drop, sym, refl, ap, ◌∙◌, subst, inl, inr, ⊎_elim, arith, get_or-drop}
use Rattle.std.proofs.lemmas.List.{at_drop_more, get_or_append_left, get_or_at, length-append, take_more, length-drop, drop_all, get_or-take, length-take-le}
use Rattle.std.proofs.lemmas.Bool.{cases_eq, cases_lt}
use Rattle.std.proofs.lemmas.Bool.Decides.{nat_tests}
use Rattle.sheet_text.specs.Bytes.{EachBefore, Space, Visible}
use Rattle.sheet_text.specs.Words.{line_end, digits_on, natural_of, sort_word}
use Rattle.sheet_text.specs.Cuts.{stop, next, bad, Open, gap, within, closed, more, cut, ended, tokens_from}

pub ended_in : (t : List ℕ) (i : ℕ) → i < length t → get_or (ended t) i 0 ≡ get_or t i 0
ended_in t i h = get_or_append_left t (10 ∷ []) 0 i h

pub ended_at : (t : List ℕ) (i : ℕ) → i ≤ length t → length t ≤ i → get_or (ended t) i 0 ≡ 10
ended_at t i h k = get_or_at t 10 [] 0 i (omega arith)

inside : (t : List ℕ) (i : ℕ) → i ≤ length t → i < length (ended t)
inside t i h = simp length-append (omega arith)

module _ (o : Open) (p b : ℕ) (bs : List ℕ) where
  pub on_space : b ≡ 32 → cut o p (b ∷ bs) ≡ closed o (cut gap (p + 1) bs)
  unfolding cut
  on_space e = grind (arith, nat_tests)

  pub on_line : b ≡ 10 → cut o p (b ∷ bs) ≡ closed o (next (line_end p) (cut gap (p + 1) bs))
  unfolding cut
  on_line e = grind (arith, nat_tests)

  pub on_printable : (b ≡ 32 → ⊥) → (b ≡ 10 → ⊥) → 32 ≤ b → b ≤ 126 → cut o p (b ∷ bs) ≡ cut (more o p b) (p + 1) bs
  unfolding cut
  on_printable a c low high = grind (arith, nat_tests)

  pub on_bad : (b ≡ 32 → ⊥) → (b ≡ 10 → ⊥) → (b < 32) ⊎ (126 < b) → cut o p (b ∷ bs) ≡ bad p
  unfolding cut
  on_bad a c out = grind (arith, nat_tests)

module _ (t : List ℕ) (o : Open) (p b : ℕ) (h : p ≤ length t) (is : b ≡ get_or (ended t) p 0) where
  pub front : tokens_from t o p ≡ cut o p (b ∷ drop (p + 1) (ended t))
  front = at_drop_more (cut o p) (ended t) p 0 (inside t p h) ∙ ap (λ x. cut o p (x ∷ drop (p + 1) (ended t))) (sym is)

  pub cut_space : b ≡ 32 → tokens_from t o p ≡ closed o (tokens_from t gap (p + 1))
  cut_space e = front ∙ on_space o p b _ e

  pub cut_line : b ≡ 10 → tokens_from t o p ≡ closed o (next (line_end p) (tokens_from t gap (p + 1)))
  cut_line e = front ∙ on_line o p b _ e

  pub cut-printable : (b ≡ 32 → ⊥) → (b ≡ 10 → ⊥) → 32 ≤ b → b ≤ 126 → tokens_from t o p ≡ tokens_from t (more o p b) (p + 1)
  cut-printable a c low high = front ∙ on_printable o p b _ a c low high

  pub cut-bad : (b ≡ 32 → ⊥) → (b ≡ 10 → ⊥) → (b < 32) ⊎ (126 < b) → tokens_from t o p ≡ bad p
  cut-bad a c out = front ∙ on_bad o p b _ a c out

-- how far the within from `from` on is read at i
abbrev pub open_at : List ℕ → ℕ → ℕ → Open
open_at t from i = cond (eqb i from) gap (within from (take (i - from) (drop from t)))

pub open_within : (t : List ℕ) (from i : ℕ) → from < i → open_at t from i ≡ within from (take (i - from) (drop from t))
open_within t from i h = grind (arith, nat_tests)

pub open_gap : (t : List ℕ) (from i : ℕ) → i ≡ from → open_at t from i ≡ gap
open_gap t from i e = grind (arith, nat_tests)

pub open_more : (t : List ℕ) (from i b : ℕ) → from ≤ i → i < length t → b ≡ get_or t i 0 → more (open_at t from i) i b ≡ open_at t from (i + 1)
open_more t from i b h k is =
    let len : i - from < length (drop from t) = simp length-drop (omega arith) in
    let here : get_or (drop from t) (i - from) 0 ≡ b = get_or-drop from t (i - from) 0 ∙ ap (λ n. get_or t n 0) (let e : from + (i - from) ≡ i = omega arith in e) ∙ sym is in
    let next : take (i + 1 - from) (drop from t) ≡ take (i - from) (drop from t) ++ b ∷ [] =
    ap (λ n. take n (drop from t)) (let e : i + 1 - from ≡ i - from + 1 = omega arith in e) ∙ take_more (drop from t) (i - from) 0 len ∙ ap (λ x. take (i - from) (drop from t) ++ x ∷ []) here
    in
    ⊎_elim
    (λ e. ap (λ o. more o i b) (open_gap t from i e) ∙ (λ j. within (e j) (sym (next ∙ ap (λ n. take n (drop from t) ++ b ∷ []) (let z : i - from ≡ 0 = omega arith in z)) j)) ∙ sym (open_within t from (i + 1) (omega arith)))
    (λ l. ap (λ o. more o i b) (open_within t from i (let z : from < i = omega arith in z)) ∙ ap (within from) (sym next) ∙ sym (open_within t from (i + 1) (omega arith)))
    (cases_eq i from)

pub natural_of_is : (t : List ℕ) → 0 < length t → length t ≤ 6 → (get_or t 0 0 ≡ 48 → 1 < length t → ⊥) → natural_of t ≡ digits_on 0 t
natural_of_is [] a b f = absurd (omega arith)
natural_of_is (x ∷ t) a b f = grind (arith, nat_tests)

pub not_last : (t : List ℕ) (i b : ℕ) → i ≤ length t → b ≡ get_or (ended t) i 0 → (b ≡ 10 → ⊥) → i < length t
not_last t i b h is ne = ⊎_elim (λ l. l) (λ l. absurd (ne (is ∙ ended_at t i h l))) (cases_lt i (length t))

-- a within was read to its end
pub scan_end : (t : List ℕ) (from i b : ℕ) → from ≤ i → i ≤ length t → b ≡ get_or (ended t) i 0 → (b ≡ 32) ⊎ (b ≡ 10) → from < i → tokens_from t gap from ≡ tokens_from t (open_at t from i) i → tokens_from t gap from ≡ next (sort_word (take (i - from) (drop from t)) from) (tokens_from t gap i)
scan_end t from i b h k is end more inv =
    let w : tokens_from t (open_at t from i) i ≡ tokens_from t (within from (take (i - from) (drop from t))) i = ap (λ o. tokens_from t o i) (open_within t from i more) in
    ⊎_elim
    (λ e. inv ∙ w ∙ cut_space t (within from (take (i - from) (drop from t))) i b k is e ∙ ap (λ ts. next (sort_word (take (i - from) (drop from t)) from) ts) (sym (cut_space t gap i b k is e)))
    (λ e. inv ∙ w ∙ cut_line t (within from (take (i - from) (drop from t))) i b k is e ∙ ap (λ ts. next (sort_word (take (i - from) (drop from t)) from) ts) (sym (cut_line t gap i b k is e)))
    end

pub scan_more : (t : List ℕ) (from i b : ℕ) → from ≤ i → i ≤ length t → b ≡ get_or (ended t) i 0 → (b ≡ 32 → ⊥) → (b ≡ 10 → ⊥) → 32 ≤ b → b ≤ 126 → tokens_from t gap from ≡ tokens_from t (open_at t from i) i → tokens_from t gap from ≡ tokens_from t (open_at t from (i + 1)) (i + 1)
scan_more t from i b h k is s l low high inv =
    let lt = not_last t i b k is l in
    inv ∙ cut-printable t (open_at t from i) i b k is s l low high ∙ ap (λ o. tokens_from t o (i + 1)) (open_more t from i b h lt (is ∙ ended_in t i lt))

pub scan_some : (t : List ℕ) (from i b : ℕ) → from ≤ i → b ≡ get_or (ended t) i 0 → (b ≡ 32) ⊎ (b ≡ 10) → (get_or (ended t) from 0 ≡ 32 → ⊥) → (get_or (ended t) from 0 ≡ 10 → ⊥) → from < i
scan_some t from i b h is end s l = grind (arith, nat_tests)

pub over : (t : List ℕ) (p : ℕ) → length t < p → tokens_from t gap p ≡ stop
unfolding cut
over t p h = ap (cut gap p) (drop_all p (ended t) (simp length-append (omega arith)))

-- An element of a slice of the text.
pub at_slice : (t : List ℕ) (a n k : ℕ) → k < n → get_or (take n (drop a t)) k 0 ≡ get_or t (a + k) 0
at_slice t a n k h = get_or-take n (drop a t) k 0 h ∙ get_or-drop a t k 0

pub skip_spaces : (t : List ℕ) (p n : ℕ) → p + n ≤ length t → ((k : ℕ) → k < n → get_or t (p + k) 0 ≡ 32) → tokens_from t gap p ≡ tokens_from t gap (p + n)
skip_spaces t p zero h all = ap (tokens_from t gap) (omega arith)
skip_spaces t p (suc n) h all =
    let here : get_or t p 0 ≡ 32 = ap (λ (i : ℕ). get_or t i 0) (let e : p ≡ p + 0 = omega arith in e) ∙ all 0 (omega arith) in
    cut_space t gap p (get_or (ended t) p 0) (omega arith) refl (ended_in t p (omega arith) ∙ here)
    ∙ skip_spaces t (p + 1) n (omega arith) (λ k l. ap (λ (i : ℕ). get_or t i 0) (let e : p + 1 + k ≡ p + suc k = omega arith in e) ∙ all (suc k) (omega arith))
    ∙ ap (tokens_from t gap) (let e : p + 1 + n ≡ p + suc n = omega arith in e)

-- The first n bytes of the word from a place on.
pub word_read : (t : List ℕ) (from n : ℕ) → from + n ≤ length t → ((k : ℕ) → k < n → Visible (get_or t (from + k) 0)) → tokens_from t gap from ≡ tokens_from t (open_at t from (from + n)) (from + n)
word_read t from zero h fair = grind (arith, nat_tests)
word_read t from (suc n) h fair =
    let b = get_or t (from + n) 0 in
    let here = fair n (omega arith) in
    scan_more t from (from + n) b (omega arith) (omega arith) (sym (ended_in t (from + n) (omega arith))) (omega (arith, here.0)) (omega (arith, here.0)) (omega (arith, here.0)) here.1
    (word_read t from n (omega arith) (λ k l. fair k (omega arith)))
    ∙ ap (λ (i : ℕ). tokens_from t (open_at t from i) i) (let e : from + n + 1 ≡ from + suc n = omega arith in e)

-- The byte at a place, where a line's end or the text's is.
end_at : (t : List ℕ) (i : ℕ) → i ≤ length t → (i ≡ length t) ⊎ (get_or t i 0 ≡ 10) → 10 ≡ get_or (ended t) i 0
end_at t i h e =
    ⊎_elim (λ (l : i < length t). ⊎_elim (λ (z : i ≡ length t). absurd (omega arith)) (λ (z : get_or t i 0 ≡ 10). sym (ended_in t i l ∙ z)) e)
    (λ (l : length t ≤ i). sym (ended_at t i h l)) (cases_lt i (length t))

-- What follows some spaces.
module _ (t : List ℕ) (a s : ℕ) (in_text : a + s ≤ length t) (spaces : EachBefore s Space (take (length t - a) (drop a t))) where
  skipped : tokens_from t gap a ≡ tokens_from t gap (a + s)
  skipped = skip_spaces t a s in_text (λ k h. sym (at_slice t a (length t - a) k (omega arith)) ∙ spaces k h)

  pub line_drawn : (a + s ≡ length t) ⊎ (get_or t (a + s) 0 ≡ 10) → tokens_from t gap a ≡ next (line_end (a + s)) (tokens_from t gap (a + s + 1))
  line_drawn e = skipped ∙ cut_line t gap (a + s) 10 in_text (end_at t (a + s) in_text e) refl

  -- n bytes of a word stand there.
  module _ (n : ℕ) (more : a + s < length t) (whole : n ≤ length (take (length t - (a + s)) (drop (a + s) t))) (fair : EachBefore n Visible (take (length t - (a + s)) (drop (a + s) t))) where
    inside_text : a + s + n ≤ length t
    inside_text = omega (arith, length-take-le (length t - (a + s)) (drop (a + s) t) (simp length-drop (omega arith)))

    read : tokens_from t gap (a + s) ≡ tokens_from t (open_at t (a + s) (a + s + n)) (a + s + n)
    read = word_read t (a + s) n inside_text (λ k h. subst Visible (at_slice t (a + s) (length t - (a + s)) k (omega (arith, inside_text))) (fair k h))

    -- The byte that follows is not allowed.
    pub bad_drawn : a + s + n < length t → (n < length (take (length t - (a + s)) (drop (a + s) t)) → (get_or (take (length t - (a + s)) (drop (a + s) t)) n 0 ≤ 32) ⊎ (126 < get_or (take (length t - (a + s)) (drop (a + s) t)) n 0))
        → (get_or t (a + s + n) 0 ≡ 32 → ⊥) → (get_or t (a + s + n) 0 ≡ 10 → ⊥) → tokens_from t gap a ≡ bad (a + s + n)
    bad_drawn l stops no_space no_line =
        let b = get_or t (a + s + n) 0 in
        let out : (b ≤ 32) ⊎ (126 < b) = subst (λ (b : ℕ). (b ≤ 32) ⊎ (126 < b)) (at_slice t (a + s) (length t - (a + s)) n (omega arith)) (stops (omega (arith, length-take-le (length t - (a + s)) (drop (a + s) t) (simp length-drop (omega arith))))) in
        let beyond : (b < 32) ⊎ (126 < b) = ⊎_elim (λ (low : b ≤ 32). inl (omega (arith, no_space))) (λ (high : 126 < b). inr high) out in
        skipped ∙ read ∙ cut-bad t _ (a + s + n) b (omega arith) (sym (ended_in t (a + s + n) l)) no_space no_line beyond

    -- The word ends there.
    pub word_drawn : (s < length (take (length t - a) (drop a t)) → get_or (take (length t - a) (drop a t)) s 0 ≡ 32 → ⊥) → (get_or t (a + s) 0 ≡ 10 → ⊥)
        → (length t ≤ a + s + n) ⊎ ((get_or t (a + s + n) 0 ≡ 32) ⊎ (get_or t (a + s + n) 0 ≡ 10)) → tokens_from t gap a ≡ next (sort_word (take (a + s + n - (a + s)) (drop (a + s) t)) (a + s)) (tokens_from t gap (a + s + n))
    word_drawn no_space no_line ends =
        let b = get_or (ended t) (a + s + n) 0 in
        let end : (b ≡ 32) ⊎ (b ≡ 10) = ⊎_elim
        (λ (l : a + s + n < length t). ⊎_elim (λ (z : length t ≤ a + s + n). absurd (omega arith)) (λ (e : (get_or t (a + s + n) 0 ≡ 32) ⊎ (get_or t (a + s + n) 0 ≡ 10)). subst (λ (b : ℕ). (b ≡ 32) ⊎ (b ≡ 10)) (sym (ended_in t (a + s + n) l)) e) ends)
        (λ (l : length t ≤ a + s + n). inr (ended_at t (a + s + n) inside_text l)) (cases_lt (a + s + n) (length t)) in
        let first = ended_in t (a + s) more in
        let start : get_or (ended t) (a + s) 0 ≡ 32 → ⊥ = λ e. no_space (omega (arith, length-take-le (length t - a) (drop a t) (simp length-drop (omega arith)))) (at_slice t a (length t - a) s (omega arith) ∙ sym first ∙ e) in
        let some : a + s < a + s + n = scan_some t (a + s) (a + s + n) b (omega arith) refl end start (λ e. no_line (sym first ∙ e)) in
        skipped ∙ scan_end t (a + s) (a + s + n) b (omega arith) inside_text refl end some read
