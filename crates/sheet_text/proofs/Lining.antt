-- The words of a text against its lines.
use Rattle.std.proofs.Common.{All, ◌≡◌, ℕ, ◌+◌, ◌≤◌, true, false, cond, eqb, List, [], ◌∷◌, ◌++◌, map, sym, refl, ap, ◌∙◌, subst, ⊎_elim, arith}
use Rattle.std.proofs.lemmas.List.{append_assoc, append-nil}
use Rattle.std.proofs.lemmas.Bool.{cond-true, cond-false, cases_Bool, eqb-true, eqb-false, eq-eqb, ne_eqb}
use Rattle.std.proofs.lemmas.List.Elements.{All-nil, All-head, All-tail, All-push, All-weaker}
use Rattle.sheet_text.specs.Grammar.{Allowed, onto, pieces, non_empty, words_of}
use Rattle.sheet_text.specs.Words.{line_end, sort_word}
use Rattle.sheet_text.specs.Cuts.{Tokens, stop, next, Open, gap, within, closed, more, cut, ended, tokens}
use Rattle.sheet_text.proofs.Cutting.{on_space, on_line, on_printable}

-- The tokens begin with those of a line's words, at some places, and its end.
abbrev pub Line : List (List ℕ) → Tokens → Tokens → Type 0
Line [] ts rest = (p : ℕ) × (ts ≡ next (line_end p) rest)
Line (w ∷ ws) ts rest = (p : ℕ) × (after : Tokens) × (ts ≡ next (sort_word w p) after) × Line ws after rest

-- The tokens are those of these lines.
abbrev pub Lined : List (List (List ℕ)) → Tokens → Type 0
Lined [] ts = ts ≡ stop
Lined (l ∷ ls) ts = (rest : Tokens) × Line l ts rest × Lined ls rest

-- The tokens begin with those of these lines, and go on with the rest.
abbrev pub LinedTo : List (List (List ℕ)) → Tokens → Tokens → Type 0
LinedTo [] ts rest = ts ≡ rest
LinedTo (l ∷ ls) ts rest = (after : Tokens) × Line l ts after × LinedTo ls after rest

pub lined_to : (ls : List (List (List ℕ))) (ts : Tokens) → Lined ls ts → LinedTo ls ts stop
lined_to [] ts h = h
lined_to (l ∷ ls) ts h = (h.0, h.1, lined_to ls h.0 h.2)

-- The tokens begin with those of these words.
abbrev pub WordsTo : List (List ℕ) → Tokens → Tokens → Type 0
WordsTo [] ts rest = ts ≡ rest
WordsTo (w ∷ ws) ts rest = (p : ℕ) × (after : Tokens) × (ts ≡ next (sort_word w p) after) × WordsTo ws after rest

-- A line is its first words, and then the others.
pub line_split : (xs ys : List (List ℕ)) (ts rest : Tokens) → Line (xs ++ ys) ts rest → (mid : Tokens) × WordsTo xs ts mid × Line ys mid rest
line_split [] ys ts rest l = (ts, refl, l)
line_split (x ∷ xs) ys ts rest l = let go = line_split xs ys l.1 rest l.3 in (go.0, (l.0, l.1, l.2, go.1), go.2)

pub words_split : (xs ys : List (List ℕ)) (ts rest : Tokens) → WordsTo (xs ++ ys) ts rest → (mid : Tokens) × WordsTo xs ts mid × WordsTo ys mid rest
words_split [] ys ts rest l = (ts, refl, l)
words_split (x ∷ xs) ys ts rest l = let go = words_split xs ys l.1 rest l.3 in (go.0, (l.0, l.1, l.2, go.1), go.2)

-- A byte of a word.
abbrev Inner : ℕ → Type 0
Inner b = (eqb b 32 ≡ false) × (eqb b 10 ≡ false)

-- The bytes of the word that is open, which is not empty.
abbrev begun : Open → List ℕ
begun gap = []
begun (within q acc) = acc

abbrev Sized : Open → Type 0
Sized gap = Unit {0}
Sized (within q []) = ⊥
Sized (within q (b ∷ bs)) = Unit {0}

-- A word goes on with the first piece of what follows.
abbrev before : List ℕ → List (List ℕ) → List (List ℕ)
before acc [] = acc ∷ []
before acc (l ∷ ls) = (acc ++ l) ∷ ls

before_onto : (acc : List ℕ) (b : ℕ) (ps : List (List ℕ)) → before acc (onto b ps) ≡ before (acc ++ b ∷ []) ps
before_onto acc b [] = refl
before_onto acc b (p ∷ ps) = ap (λ l. l ∷ ps) (sym (append_assoc acc (b ∷ []) p))

-- There is always a first piece.
pub first_piece : (s : ℕ) (t : List ℕ) → (l : List ℕ) × (ls : List (List ℕ)) × (pieces s t ≡ l ∷ ls)
first_piece s [] = ([], [], refl)
first_piece s (b ∷ t) = elim (eqb b s) as (λ c. (l : List ℕ) × (ls : List (List ℕ)) × (cond c ([] ∷ pieces s t) (onto b (pieces s t)) ≡ l ∷ ls)) [ true ↦ ([], pieces s t, refl) | false ↦ first_onto (pieces s t) ]
  where
    first_onto : (ps : List (List ℕ)) → (l : List ℕ) × (ls : List (List ℕ)) × (onto b ps ≡ l ∷ ls)
    first_onto [] = (b ∷ [], [], refl)
    first_onto (p ∷ ps) = (b ∷ p, ps, refl)

-- A byte other than s.
abbrev Other : ℕ → ℕ → Type 0
Other s b = eqb b s ≡ false

-- Bytes other than s, and then s, are a piece.
pub pieces-cut : (s : ℕ) (w l : List ℕ) → All (λ b. eqb b s ≡ false) w → pieces s (w ++ s ∷ l) ≡ w ∷ pieces s l
pieces-cut s [] l h = cond-true _ _ _ (eq-eqb s s refl)
pieces-cut s (b ∷ w) l h = cond-false _ _ _ (All-head (Other s) b w h) ∙ ap (onto b) (pieces-cut s w l (All-tail (Other s) b w h))

pub pieces_one : (s : ℕ) (w : List ℕ) → All (λ b. eqb b s ≡ false) w → pieces s w ≡ w ∷ []
pieces_one s [] h = refl
pieces_one s (b ∷ w) h = cond-false _ _ _ (All-head (Other s) b w h) ∙ ap (onto b) (pieces_one s w (All-tail (Other s) b w h))

no_space : (w : List ℕ) → All Inner w → All (λ b. eqb b 32 ≡ false) w
no_space w h = All-weaker Inner (Other 32) (λ b i. i.0) w h

-- The open word is the first of its line.
closed-line : (o : Open) (ps : List (List ℕ)) (ts rest : Tokens) → Sized o → Line (non_empty ps) ts rest → Line (non_empty (begun o ∷ ps)) (closed o ts) rest
closed-line gap ps ts rest h l = l
closed-line (within q []) ps ts rest h l = absurd h
closed-line (within q (b ∷ bs)) ps ts rest h l = (q, ts, refl, l)

-- A line that the open word ends.
last_word : (o : Open) (p : ℕ) (rest : Tokens) → Sized o → All Inner (begun o) → Line (words_of (begun o ++ [])) (closed o (next (line_end p) rest)) rest
last_word o p rest h i =
    subst (λ (ps : List (List ℕ)). Line (non_empty ps) (closed o (next (line_end p) rest)) rest)
    (sym (ap (pieces 32) (append-nil (begun o)) ∙ pieces_one 32 (begun o) (no_space (begun o) i)))
    (closed-line o [] (next (line_end p) rest) rest h (p, refl))

-- A line that goes on after the open word and a space.
word_and_more : (o : Open) (l : List ℕ) (ts rest : Tokens) → Sized o → All Inner (begun o) → Line (words_of l) ts rest → Line (words_of (begun o ++ 32 ∷ l)) (closed o ts) rest
word_and_more o l ts rest h i line =
    subst (λ (ps : List (List ℕ)). Line (non_empty ps) (closed o ts) rest) (sym (pieces-cut 32 (begun o) l (no_space (begun o) i)))
    (closed-line o (pieces 32 l) ts rest h line)

more_sized : (o : Open) (p b : ℕ) → Sized (more o p b)
more_sized gap p b = tt
more_sized (within q []) p b = tt
more_sized (within q (c ∷ cs)) p b = tt

more-begun : (o : Open) (p b : ℕ) → begun (more o p b) ≡ begun o ++ b ∷ []
more-begun gap p b = refl
more-begun (within q acc) p b = refl

cut_none : (q : ℕ) → cut gap q [] ≡ stop
unfolding cut
cut_none q = refl

-- The tokens of a text whose bytes are all allowed are those of its lines.
pub lined : (o : Open) (p : ℕ) (t : List ℕ) → All Allowed t → Sized o → All Inner (begun o) → Lined (map words_of (before (begun o) (pieces 10 t))) (cut o p (ended t))
lined o p [] a h i =
    subst (Lined (map words_of ((begun o ++ []) ∷ []))) (sym (on_line o p 10 [] refl ∙ ap (λ ts. closed o (next (line_end p) ts)) (cut_none (p + 1))))
    (stop, last_word o p stop h i, refl)
lined o p (b ∷ t) a h i =
    let later = All-tail Allowed b t a in
    let rest = cut gap (p + 1) (ended t) in
    let piece = first_piece 10 t in
    let l = piece.0 in
    let ls = piece.1 in
    let after : Lined (map words_of (l ∷ ls)) rest = subst (λ (ps : List (List ℕ)). Lined (map words_of (before [] ps)) rest) piece.2 (lined gap (p + 1) t later tt (All-nil Inner)) in
    ⊎_elim
    (λ (s : eqb b 32 ≡ true).
    let is = eqb-true b 32 s in
    let goal : List (List ℕ) → Tokens → Type 0 = λ ps ts. Lined (map words_of (before (begun o) ps)) ts in
    let pieces-is : pieces 10 (b ∷ t) ≡ (32 ∷ l) ∷ ls = cond-false _ _ _ (ne_eqb b 10 (λ z. omega arith)) ∙ (λ j. onto (is j) (piece.2 j)) in
    subst (λ ts. goal (pieces 10 (b ∷ t)) ts) (sym (on_space o p b (ended t) is))
    (subst (λ (ps : List (List ℕ)). goal ps (closed o rest)) (sym pieces-is) (after.0, word_and_more o l rest after.0 h i after.1, after.2)))
    (λ (ns : eqb b 32 ≡ false). ⊎_elim
    (λ (n : eqb b 10 ≡ true).
    let pieces-is : pieces 10 (b ∷ t) ≡ [] ∷ (l ∷ ls) = cond-true _ _ _ n ∙ ap (λ ps. [] ∷ ps) piece.2 in
    subst (λ ts. Lined (map words_of (before (begun o) (pieces 10 (b ∷ t)))) ts) (sym (on_line o p b (ended t) (eqb-true b 10 n)))
    (subst (λ (ps : List (List ℕ)). Lined (map words_of (before (begun o) ps)) (closed o (next (line_end p) rest))) (sym pieces-is) (rest, last_word o p rest h i, after)))
    (λ (nn : eqb b 10 ≡ false).
    let ok : (32 ≤ b) × (b ≤ 126) = ⊎_elim (λ z. absurd (eqb-false b 10 nn z)) (λ k. k) (All-head Allowed b t a) in
    let go : Lined (map words_of (before (begun (more o p b)) (pieces 10 t))) (cut (more o p b) (p + 1) (ended t)) =
    lined (more o p b) (p + 1) t later (more_sized o p b) (subst (All Inner) (sym (more-begun o p b)) (All-push Inner (begun o) b i (ns, nn))) in
    subst (λ ts. Lined (map words_of (before (begun o) (pieces 10 (b ∷ t)))) ts) (sym (on_printable o p b (ended t) (eqb-false b 32 ns) (eqb-false b 10 nn) ok.0 ok.1))
    (subst (λ (ps : List (List ℕ)). Lined (map words_of ps) (cut (more o p b) (p + 1) (ended t)))
    (ap (λ acc. before acc (pieces 10 t)) (more-begun o p b) ∙ sym (before_onto (begun o) b (pieces 10 t)) ∙ ap (before (begun o)) (sym (cond-false (eqb b 10) ([] ∷ pieces 10 t) (onto b (pieces 10 t)) nn))) go))
    (cases_Bool (eqb b 10)))
    (cases_Bool (eqb b 32))

pub lined_text : (t : List ℕ) → All Allowed t → Lined (map words_of (pieces 10 t)) (tokens t)
lined_text t a =
    let piece = first_piece 10 t in
    subst (λ (ps : List (List ℕ)). Lined (map words_of ps) (tokens t)) (sym piece.2)
    (subst (λ (ps : List (List ℕ)). Lined (map words_of (before [] ps)) (tokens t)) piece.2 (lined gap 0 t a tt (All-nil Inner)))
