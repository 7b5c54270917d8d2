-- The lines of a text that was joined from lines of words are those lines.
use Rattle.std.proofs.Common.{All, ◌≡◌, ℕ, ◌<◌, false, eqb, List, [], ◌∷◌, ◌++◌, map, length, refl, ap, ◌∙◌, inl, inr, arith}
use Rattle.std.specs.List.{flat_map}
use Rattle.std.proofs.lemmas.List.Elements.{All-nil, All-cons, All-head, All-tail, All-append, All-push, All-weaker}
use Rattle.std.proofs.lemmas.List.{append_assoc}
use Rattle.std.proofs.lemmas.Bool.{ne_eqb}
use Rattle.sheet_text.specs.Bytes.{Printable, Visible}
use Rattle.sheet_text.specs.Grammar.{Allowed, pieces, non_empty, words_of, lines_of}
use Rattle.sheet_writer.specs.Writing.{spaced, line_text}
use Rattle.sheet_text.proofs.Lining.{pieces-cut, pieces_one}

-- A word has a byte, and its bytes are printable and no spaces.
abbrev pub IsWord : List ℕ → Type 0
IsWord w = (0 < length w) × All Visible w

-- A line has a word.
abbrev pub IsLine : List (List ℕ) → Type 0
IsLine l = (0 < length l) × All IsWord l

abbrev Without : ℕ → List ℕ → Type 0
Without s w = All (λ b. eqb b s ≡ false) w

non_empty_first : {A : Type 0} (x : List A) (xs : List (List A)) → 0 < length x → non_empty (x ∷ xs) ≡ x ∷ non_empty xs
non_empty_first [] xs h = absurd (omega arith)
non_empty_first (y ∷ ys) xs h = refl

no_space : (w : List ℕ) → All Visible w → Without 32 w
no_space w h = All-weaker Visible (λ b. eqb b 32 ≡ false) (λ b v. ne_eqb b 32 (λ e. omega arith)) w h

no_line_end : (w : List ℕ) → All Printable w → Without 10 w
no_line_end w h = All-weaker Printable (λ b. eqb b 10 ≡ false) (λ b v. ne_eqb b 10 (λ e. omega arith)) w h

printable : (w : List ℕ) → All Visible w → All Printable w
printable w h = All-weaker Visible Printable (λ b v. (omega arith, omega arith)) w h

printable-spaced : (ws : List (List ℕ)) → All IsWord ws → All Printable (spaced ws)
printable-spaced [] h = All-nil Printable
printable-spaced (w ∷ []) h = printable w (All-head IsWord w [] h).1
printable-spaced (w ∷ v ∷ ws) h =
    let rest = spaced (v ∷ ws) in
    All-append Printable w (32 ∷ rest) (printable w (All-head IsWord w (v ∷ ws) h).1)
    (All-cons Printable 32 rest (omega arith, omega arith) (printable-spaced (v ∷ ws) (All-tail IsWord w (v ∷ ws) h)))

words_spaced : (ws : List (List ℕ)) → All IsWord ws → words_of (spaced ws) ≡ ws
words_spaced [] h = refl
words_spaced (w ∷ []) h =
    let here : IsWord w = All-head IsWord w [] h in
    ap non_empty (pieces_one 32 w (no_space w here.1)) ∙ non_empty_first w [] here.0
words_spaced (w ∷ v ∷ ws) h =
    let here : IsWord w = All-head IsWord w (v ∷ ws) h in
    ap non_empty (pieces-cut 32 w (spaced (v ∷ ws)) (no_space w here.1)) ∙ non_empty_first w (pieces 32 (spaced (v ∷ ws))) here.0
    ∙ ap (λ (x : List (List ℕ)). w ∷ x) (words_spaced (v ∷ ws) (All-tail IsWord w (v ∷ ws) h))

-- The text of a line and then others.
line_then : (l : List (List ℕ)) (t : List ℕ) → line_text l ++ t ≡ spaced l ++ 10 ∷ t
line_then l t = append_assoc (spaced l) (10 ∷ []) t

pub lines-joined : (ls : List (List (List ℕ))) → All IsLine ls → lines_of (flat_map line_text ls) ≡ ls
lines-joined [] h = refl
lines-joined (l ∷ ls) h =
    let here : IsLine l = All-head IsLine l ls h in
    ap lines_of (line_then l (flat_map line_text ls))
    ∙ ap (λ (x : List (List ℕ)). non_empty (map words_of x)) (pieces-cut 10 (spaced l) (flat_map line_text ls) (no_line_end (spaced l) (printable-spaced l here.1)))
    ∙ ap (λ (x : List (List ℕ)). non_empty (x ∷ map words_of (pieces 10 (flat_map line_text ls)))) (words_spaced l here.1)
    ∙ non_empty_first l (map words_of (pieces 10 (flat_map line_text ls))) here.0
    ∙ ap (λ (x : List (List (List ℕ))). l ∷ x) (lines-joined ls (All-tail IsLine l ls h))

allowed-line : (l : List (List ℕ)) → All IsWord l → All Allowed (line_text l)
allowed-line l h = All-push Allowed (spaced l) 10 (All-weaker Printable Allowed (λ b p. inr p) (spaced l) (printable-spaced l h)) (inl refl)

pub allowed-joined : (ls : List (List (List ℕ))) → All IsLine ls → All Allowed (flat_map line_text ls)
allowed-joined [] h = All-nil Allowed
allowed-joined (l ∷ ls) h = All-append Allowed (line_text l) (flat_map line_text ls) (allowed-line l (All-head IsLine l ls h).1) (allowed-joined ls (All-tail IsLine l ls h))
