-- The words of a text up to a place in it, and what stands there.
use Rattle.std.proofs.Common.{All, ◌≡◌, ◌≢◌, ℕ, ◌+◌, ◌<◌, ◌≤◌, ◌⊎◌, List, [], ◌∷◌, ◌++◌, map, length, sym, refl, ap, ◌∙◌, subst, inl, inr, ⊎_elim, arith}
use Rattle.std.proofs.lemmas.Bool.{cases_eq}
use Rattle.std.proofs.lemmas.List.{append_assoc, append-nil, length-append}
use Rattle.std.proofs.Math.Seq.{take-append_seam, drop-append_seam}
use Rattle.std.proofs.lemmas.List.Elements.{All-take, All-drop, All-nil, All-head, All-tail, All-push}
use Rattle.sheet_text.specs.Places.{Inner}
use Rattle.sheet_text.specs.Bytes.{Printable}
use Rattle.sheet_text.specs.Grammar.{Allowed, pieces, non_empty, words_of, lines_of}
use Rattle.sheet_text.specs.Places.{WholeLines, Before, Separator, BeginsAfter, EndsBefore, WordAt, LineEndAt, ByteAt}
use Rattle.sheet_text.specs.Words.{line_end, sort_word}
use Rattle.sheet_text.specs.Cuts.{Tokens, bad, next, gap, cut, ended, tokens}
use Rattle.sheet_text.proofs.Cutting.{on_space, on_line, on_bad}
use Rattle.sheet_text.proofs.Lining.{Line, LinedTo, WordsTo}
use Rattle.sheet_text.proofs.Items.{pieces_parted, words_parted, lines_parted, one_piece, one_word, part_begins, opened, opened_more, word_over, byte_kinds, printable_or_not}

-- The words that are left of a text after the bytes `front`.
abbrev pub left_after : List ℕ → List ℕ → Tokens
left_after front rest = cut gap (length front) (ended rest)

-- What holds of two stretches together holds of each.
All_parts : (P : ℕ → Type 0) (xs ys : List ℕ) → All P (xs ++ ys) → All P xs × All P ys
All_parts P xs ys h = (subst (All P) (take-append_seam xs ys) (All-take P (length xs) (xs ++ ys) h), subst (All P) (drop-append_seam xs ys) (All-drop P (length xs) (xs ++ ys) h))

-- The open word goes on with the bytes `word`.
word_cut : (q : ℕ) (begun word after : List ℕ) → All Inner word → All Allowed word → cut (opened q begun) (q + length begun) (word ++ after) ≡ cut (opened q (begun ++ word)) (q + length (begun ++ word)) after
word_cut q begun [] after inner allowed = ap (λ bs. cut (opened q bs) (q + length bs) after) (sym (append-nil begun))
word_cut q begun (b ∷ word) after inner allowed =
    let here = All-head Inner b word inner in
    let fair : Printable b = ⊎_elim (λ (e : b ≡ 10). absurd (here.1 e)) (λ (e : Printable b). e) (All-head Allowed b word allowed) in
    opened_more q b begun (word ++ after) here fair
    ∙ word_cut q (begun ++ b ∷ []) word after (All-tail Inner b word inner) (All-tail Allowed b word allowed)
    ∙ ap (λ bs. cut (opened q bs) (q + length bs) after) (append_assoc begun (b ∷ []) word)

-- The bytes of a word open it.
word_opened : (q : ℕ) (word after : List ℕ) → All Inner word → All Allowed word → cut gap q (word ++ after) ≡ cut (opened q word) (q + length word) after
word_opened q word after inner allowed = ap (λ p. cut gap p (word ++ after)) (omega arith) ∙ word_cut q [] word after inner allowed

-- A word that a separator ends is a token.
word_whole : (q b : ℕ) (word after : List ℕ) → 1 ≤ length word → All Inner word → All Allowed word → Separator b → cut gap q (word ++ b ∷ after) ≡ next (sort_word word q) (cut gap (q + length word) (b ∷ after))
word_whole q b word after some inner allowed end = word_opened q word (b ∷ after) inner allowed ∙ word_over q (q + length word) b word after some end

-- What parts words follows at the end of the text too.
ended_parted : (rest : List ℕ) → EndsBefore rest → (b : ℕ) × (bs : List ℕ) × Separator b × (ended rest ≡ b ∷ bs)
ended_parted [] ends = (10, [], inr refl, refl)
ended_parted (b ∷ rest) ends = (b, ended rest, ends, refl)

-- The tokens of some words and then of others are those of all.
words_append : (xs ys : List (List ℕ)) (ts mid rest : Tokens) → WordsTo xs ts mid → WordsTo ys mid rest → WordsTo (xs ++ ys) ts rest
words_append [] ys ts mid rest x y = subst (λ (m : Tokens). WordsTo ys m rest) (sym x) y
words_append (w ∷ xs) ys ts mid rest x y = (x.0, x.1, x.2, words_append xs ys x.1 mid rest x.3 y)

-- A line ends after its words.
words_line : (ws : List (List ℕ)) (ts rest : Tokens) (p : ℕ) → WordsTo ws ts (next (line_end p) rest) → Line ws ts rest
words_line [] ts rest p h = (p, h)
words_line (w ∷ ws) ts rest p h = (h.0, h.1, h.2, words_line ws h.1 rest p h.3)

-- The tokens from a place on begin with the words of the bytes xs, which a separator follows.
abbrev WordsOf : ℕ → ℕ → List ℕ → List ℕ → Type 0
WordsOf b q after xs = WordsTo (words_of xs) (cut gap q (xs ++ b ∷ after)) (cut gap (q + length xs) (b ∷ after))

at_once : (q : ℕ) (bs : List ℕ) → cut gap q bs ≡ cut gap (q + 0) bs
at_once q bs = ap (λ p. cut gap p bs) (omega arith)

-- The bytes are one word, or none.
word_there : (b q : ℕ) (after word : List ℕ) → Separator b → All Inner word → All Allowed word → WordsOf b q after word
word_there b q after [] end inner allowed = at_once q (b ∷ after)
word_there b q after (c ∷ word) end inner allowed =
    subst (λ (ws : List (List ℕ)). WordsTo ws (cut gap q (c ∷ (word ++ b ∷ after))) (cut gap (q + length (c ∷ word)) (b ∷ after)))
    (sym (one_word (c ∷ word) (omega arith) inner))
    (q, cut gap (q + length (c ∷ word)) (b ∷ after), word_whole q b (c ∷ word) after (omega arith) inner allowed end, refl)

-- The bytes are one line. The word that is open in it has been read up to `bs`.
words_there : (b q : ℕ) (after word bs : List ℕ) → Separator b → All Inner word → All Allowed word → All (λ c. c ≢ 10) bs → All Allowed bs → WordsOf b q after (word ++ bs)
words_there b q after word [] end inner allowed inside fair = subst (WordsOf b q after) (sym (append-nil word)) (word_there b q after word end inner allowed)
words_there b q after word (c ∷ bs) end inner allowed inside fair =
    ⊎_elim
    (λ (space : c ≡ 32).
    let m = q + length word in
    let go : WordsOf b (m + 1) after bs = words_there b (m + 1) after [] bs end (All-nil Inner) (All-nil Allowed) inside_later later in
    subst (λ (c : ℕ). WordsOf b q after (word ++ c ∷ bs)) (sym space) (spaced go))
    (λ (e : (c ≡ 10) ⊎ Inner c).
    let here : Inner c = ⊎_elim (λ (line : c ≡ 10). absurd (All-head (λ c. c ≢ 10) c bs inside line)) (λ (i : Inner c). i) e in
    subst (WordsOf b q after) (append_assoc word (c ∷ []) bs)
    (words_there b q after (word ++ c ∷ []) bs end (All-push Inner word c inner here) (All-push Allowed word c allowed (All-head Allowed c bs fair)) inside_later later))
    (byte_kinds c)
  where
    inside_later : All (λ c. c ≢ 10) bs
    inside_later = All-tail (λ c. c ≢ 10) c bs inside

    later : All Allowed bs
    later = All-tail Allowed c bs fair

    spaced : WordsOf b (q + length word + 1) after bs → WordsOf b q after (word ++ 32 ∷ bs)
    spaced go =
        let m = q + length word in
        let first = word_there 32 q (bs ++ b ∷ after) word (inl refl) inner allowed in
        let then : WordsTo (words_of bs) (cut gap m (32 ∷ (bs ++ b ∷ after))) (cut gap (m + 1 + length bs) (b ∷ after)) = rw (on_space gap m 32 (bs ++ b ∷ after) refl) go in
        let place : q + length (word ++ 32 ∷ bs) ≡ m + 1 + length bs = simp length-append (omega arith) in
        rw (words_parted word bs, append_assoc word (32 ∷ bs) (b ∷ after), place) (words_append (words_of word) (words_of bs) _ _ _ first then)

-- Where a line end follows, they are a whole line.
line_there : (q : ℕ) (after line : List ℕ) → All (λ c. c ≢ 10) line → All Allowed line → Line (words_of line) (cut gap q (line ++ 10 ∷ after)) (cut gap (q + length line + 1) after)
line_there q after line inside fair =
    let m = q + length line in
    words_line (words_of line) (cut gap q (line ++ 10 ∷ after)) (cut gap (m + 1) after) m
    (subst (WordsTo (words_of line) (cut gap q (line ++ 10 ∷ after))) (on_line gap m 10 after refl) (words_there 10 q after [] line (inr refl) (All-nil Inner) (All-nil Allowed) inside fair))

-- The tokens from a place on begin with those of the lines of the bytes xs, which a line end follows.
abbrev LinesOf : ℕ → List ℕ → List ℕ → Type 0
LinesOf q after xs = LinedTo (map words_of (pieces 10 xs)) (cut gap q (xs ++ 10 ∷ after)) (cut gap (q + length xs + 1) after)

-- The line that is open has been read up to `bs`.
lines_there : (q : ℕ) (after line bs : List ℕ) → All (λ c. c ≢ 10) line → All Allowed line → All Allowed bs → LinesOf q after (line ++ bs)
lines_there q after line [] inside fair allowed =
    let is = one_piece 10 line inside in
    rw (append-nil line, is) (cut gap (q + length line + 1) after, line_there q after line inside fair, refl)
lines_there q after line (c ∷ bs) inside fair allowed =
    ⊎_elim
    (λ (e : c ≡ 10).
    subst (λ (c : ℕ). LinesOf q after (line ++ c ∷ bs)) (sym e) (parted (lines_there (q + length line + 1) after [] bs (All-nil (λ c. c ≢ 10)) (All-nil Allowed) later)))
    (λ (ne : c ≢ 10).
    subst (LinesOf q after) (append_assoc line (c ∷ []) bs)
    (lines_there q after (line ++ c ∷ []) bs (All-push (λ c. c ≢ 10) line c inside ne) (All-push Allowed line c fair (All-head Allowed c bs allowed)) later))
    (cases_eq c 10)
  where
    later : All Allowed bs
    later = All-tail Allowed c bs allowed

    parted : LinesOf (q + length line + 1) after bs → LinesOf q after (line ++ 10 ∷ bs)
    parted go =
        let place : q + length (line ++ 10 ∷ bs) + 1 ≡ q + length line + 1 + length bs + 1 = simp length-append (omega arith) in
        rw (pieces_parted 10 line bs, one_piece 10 line inside, append_assoc line (10 ∷ bs) (10 ∷ after), place)
        (cut gap (q + length line + 1) (bs ++ 10 ∷ after), line_there q (bs ++ 10 ∷ after) line inside fair, go)

-- The tokens of the lines that are over.
whole_reached : (whole after : List ℕ) → WholeLines whole → All Allowed whole → (raw : List (List (List ℕ))) × (non_empty raw ≡ lines_of whole) × LinedTo raw (cut gap 0 (whole ++ after)) (cut gap (length whole) after)
whole_reached whole after over allowed =
    ⊎_elim
    (λ (e : whole ≡ []). rw e ([], refl, refl))
    (λ (e : (front : List ℕ) × (whole ≡ front ++ 10 ∷ [])).
    let some = (All_parts Allowed e.0 (10 ∷ []) (subst (All Allowed) e.1 allowed)).0 in
    let is : lines_of e.0 ≡ lines_of whole = sym (ap lines_of e.1 ∙ lines_parted e.0 [] ∙ append-nil (lines_of e.0)) in
    let place : length whole ≡ 0 + length e.0 + 1 = ap length e.1 ∙ length-append e.0 (10 ∷ []) ∙ omega arith in
    let text : whole ++ after ≡ e.0 ++ 10 ∷ after = ap (λ bs. bs ++ after) e.1 ∙ append_assoc e.0 (10 ∷ []) after in
    (map words_of (pieces 10 e.0), is, rw (text, place) (lines_there 0 after [] e.0 (All-nil (λ c. c ≢ 10)) (All-nil Allowed) some)))
    over

-- The tokens of the line that is open, where no word goes on after it.
part_reached : (q : ℕ) (part rest : List ℕ) → All (λ c. c ≢ 10) part → All Allowed part → ((part ≡ []) ⊎ ((cs : List ℕ) × (part ≡ cs ++ 32 ∷ []))) ⊎ EndsBefore rest → WordsTo (words_of part) (cut gap q (part ++ ended rest)) (cut gap (q + length part) (ended rest))
part_reached q part rest inside allowed edge =
    ⊎_elim
    (λ (begins : (part ≡ []) ⊎ ((cs : List ℕ) × (part ≡ cs ++ 32 ∷ []))).
    ⊎_elim
    (λ (e : part ≡ []). rw e (at_once q (ended rest)))
    (λ (e : (cs : List ℕ) × (part ≡ cs ++ 32 ∷ [])). subst (λ bs. WordsTo (words_of bs) (cut gap q (bs ++ ended rest)) (cut gap (q + length bs) (ended rest))) (sym e.1) (spaced e.0 e.1))
    begins)
    (λ (ends : EndsBefore rest).
    let end = ended_parted rest ends in
    let is = end.3 in
    rw is (words_there end.0 q end.1 [] part end.2 (All-nil Inner) (All-nil Allowed) inside allowed))
    edge
  where
    spaced : (cs : List ℕ) → part ≡ cs ++ 32 ∷ [] → WordsTo (words_of (cs ++ 32 ∷ [])) (cut gap q ((cs ++ 32 ∷ []) ++ ended rest)) (cut gap (q + length (cs ++ 32 ∷ [])) (ended rest))
    spaced cs e =
        let same : words_of (cs ++ 32 ∷ []) ≡ words_of cs = words_parted cs [] ∙ append-nil (words_of cs) in
        let place : q + length (cs ++ 32 ∷ []) ≡ q + length cs + 1 = simp length-append (omega arith) in
        let inside_cs = (All_parts (λ c. c ≢ 10) cs (32 ∷ []) (subst (All (λ c. c ≢ 10)) e inside)).0 in
        let allowed_cs = (All_parts Allowed cs (32 ∷ []) (subst (All Allowed) e allowed)).0 in
        rw (same, append_assoc cs (32 ∷ []) (ended rest), place)
        (subst (WordsTo (words_of cs) (cut gap q (cs ++ 32 ∷ ended rest))) (on_space gap (q + length cs) 32 (ended rest) refl)
        (words_there 32 q (ended rest) [] cs (inl refl) (All-nil Inner) (All-nil Allowed) inside_cs allowed_cs))

-- The words before a place are those of the lines that are over and of the line that is open.
pub reached : (t front rest : List ℕ) (lines : List (List (List ℕ))) (words : List (List ℕ)) → Before front lines words → t ≡ front ++ rest → BeginsAfter front ⊎ EndsBefore rest
    → (raw : List (List (List ℕ))) × (mid : Tokens) × (non_empty raw ≡ lines) × LinedTo raw (tokens t) mid × WordsTo words mid (left_after front rest)
reached t front rest lines words h text edge =
    let parts = h.parts in
    let fair = All_parts Allowed h.whole h.part (subst (All Allowed) parts h.allowed) in
    let lines_read = whole_reached h.whole (h.part ++ ended rest) h.ended fair.0 in
    let mid = cut gap (length h.whole) (h.part ++ ended rest) in
    let begins : ((h.part ≡ []) ⊎ ((cs : List ℕ) × (h.part ≡ cs ++ 32 ∷ []))) ⊎ EndsBefore rest =
    ⊎_elim (λ (e : BeginsAfter front). inl (part_begins h.whole h.part front parts h.inside e)) (λ (e : EndsBefore rest). inr e) edge in
    let whole_text : ended t ≡ h.whole ++ (h.part ++ ended rest) =
    ap ended (text ∙ ap (λ bs. bs ++ rest) parts) ∙ append_assoc (h.whole ++ h.part) rest (10 ∷ []) ∙ append_assoc h.whole h.part (ended rest) in
    let place : length h.whole + length h.part ≡ length front = sym (ap length parts ∙ length-append h.whole h.part) in
    let open_read : WordsTo words mid (left_after front rest) =
    subst (λ (ws : List (List ℕ)). WordsTo ws mid (left_after front rest)) (sym h.part_words)
    (subst (λ (n : ℕ). WordsTo (words_of h.part) mid (cut gap n (ended rest))) place (part_reached (length h.whole) h.part rest h.inside fair.1 begins)) in
    (lines_read.0, mid, lines_read.1 ∙ sym h.whole_lines, subst (λ (bs : List ℕ). LinedTo lines_read.0 (cut gap 0 bs) mid) (sym whole_text) lines_read.2, open_read)

-- What stands at a place is the next token.
pub byte_token : (t front : List ℕ) (p : ℕ) → ByteAt t front p → (rest : List ℕ) × (t ≡ front ++ rest) × BeginsAfter front × (left_after front rest ≡ bad p)
byte_token t front p h =
    let b = h.byte in
    let inner : Inner b = (λ (e : b ≡ 32). h.bad (inr (omega arith, omega arith)), λ (e : b ≡ 10). h.bad (inl e)) in
    let out : (b < 32) ⊎ (126 < b) = ⊎_elim (λ (fair : Printable b). absurd (h.bad (inr fair))) (λ (e : (b < 32) ⊎ (126 < b)). e) (printable_or_not b) in
    let is : left_after front (h.begun ++ b ∷ h.rest) ≡ bad p =
    ap (cut gap (length front)) (append_assoc h.begun (b ∷ h.rest) (10 ∷ []))
    ∙ word_opened (length front) h.begun (b ∷ ended h.rest) h.inner h.allowed
    ∙ on_bad (opened (length front) h.begun) (length front + length h.begun) b (ended h.rest) inner.0 inner.1 out
    ∙ ap bad (sym h.place) in
    (h.begun ++ b ∷ h.rest, h.text, h.begins, is)

pub word_token : (t front word : List ℕ) → WordAt t front word → (rest : List ℕ) × (ts : Tokens) × (t ≡ front ++ rest) × BeginsAfter front × (left_after front rest ≡ next (sort_word word (length front)) ts)
word_token t front word h =
    let q = length front in
    let end = ended_parted h.rest h.ends in
    let is : left_after front (word ++ h.rest) ≡ next (sort_word word q) (cut gap (q + length word) (end.0 ∷ end.1)) =
    ap (cut gap q) (append_assoc word h.rest (10 ∷ []) ∙ ap (λ bs. word ++ bs) end.3)
    ∙ word_whole q end.0 word end.1 h.some h.inner h.allowed end.2 in
    (word ++ h.rest, cut gap (q + length word) (end.0 ∷ end.1), h.text, h.begins, is)

pub line_token : (t front : List ℕ) → LineEndAt t front → (rest : List ℕ) × (ts : Tokens) × (t ≡ front ++ rest) × EndsBefore rest × (left_after front rest ≡ next (line_end (length front)) ts)
line_token t front h =
    ⊎_elim
    (λ (e : t ≡ front). ([], cut gap (length front + 1) [], e ∙ sym (append-nil front), tt, on_line gap (length front) 10 [] refl))
    (λ (e : (rest : List ℕ) × (t ≡ front ++ 10 ∷ rest)). (10 ∷ e.0, cut gap (length front + 1) (ended e.0), e.1, inr refl, on_line gap (length front) 10 (ended e.0) refl))
    h
