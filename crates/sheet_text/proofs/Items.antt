-- What stands next in a text: a word, the end of a line, or a byte that is not allowed.
use Rattle.std.proofs.Common.{All, ◌≡◌, ◌≢◌, ℕ, ◌+◌, ◌<◌, ◌≤◌, false, eqb, ◌⊎◌, List, [], ◌∷◌, ◌++◌, map, length, Some, sym, refl, ap, ◌∙◌, subst, inl, inr, ⊎_elim, arith}
use Rattle.std.proofs.lemmas.Bool.{cond-true, cases_eq, cases_lt, eq-eqb, ne_eqb}
use Rattle.std.proofs.lemmas.List.{append_assoc, append-nil, map-append, length-append}
use Rattle.std.proofs.lemmas.List.Elements.{All-nil, All-push, All-append, All-pop, All-weaker}
use Rattle.sheet_text.specs.Places.{Inner}
use Rattle.sheet_text.specs.Bytes.{Printable}
use Rattle.sheet_text.specs.Grammar.{Allowed, pieces, non_empty, words_of, lines_of}
use Rattle.sheet_text.specs.Places.{WholeLines, Before, Separator, BeginsAfter, EndsBefore, WordAt, ByteAt}
use Rattle.sheet_text.specs.Words.{line_end, sort_word}
use Rattle.sheet_text.specs.Cuts.{Tokens, stop, bad, next, Open, gap, within, more, cut, ended}
use Rattle.sheet_text.proofs.Lining.{first_piece, pieces_one}
use Rattle.sheet_text.proofs.Cutting.{on_space, on_line, on_printable, on_bad}

-- The bytes `rest` are left after the bytes `front`, and no word goes on from these to those.
pub record Between (t front rest : List ℕ) (lines : List (List (List ℕ))) (words : List (List ℕ)) : Type 0 where
  pub text : t ≡ front ++ rest
  pub before : Before front lines words
  pub edge : BeginsAfter front ⊎ EndsBefore rest

-- The bytes `front` may have some spaces more than before.
pub record ByteNext (t : List ℕ) (lines : List (List (List ℕ))) (words : List (List ℕ)) (ts : Tokens) : Type 0 where
  pub front : List ℕ
  pub place : ℕ
  pub before : Before front lines words
  pub at : ByteAt t front place
  pub is : ts ≡ bad place

pub record WordNext (t : List ℕ) (lines : List (List (List ℕ))) (words : List (List ℕ)) (ts : Tokens) : Type 0 where
  pub front : List ℕ
  pub word : List ℕ
  pub rest : List ℕ
  pub before : Before front lines words
  pub at : WordAt t front word
  pub between : Between t (front ++ word) rest lines (words ++ word ∷ [])
  pub is : ts ≡ next (sort_word word (length front)) (cut gap (length (front ++ word)) (ended rest))

pub record LineNext (t : List ℕ) (lines : List (List (List ℕ))) (words : List (List ℕ)) (ts : Tokens) : Type 0 where
  pub front : List ℕ
  pub rest : List ℕ
  pub before : Before front lines words
  pub at : t ≡ front ++ 10 ∷ rest
  pub between : Between t (front ++ 10 ∷ []) rest (lines ++ non_empty (words ∷ [])) []
  pub is : ts ≡ next (line_end (length front)) (cut gap (length (front ++ 10 ∷ [])) (ended rest))

pub record LastNext (t : List ℕ) (lines : List (List (List ℕ))) (words : List (List ℕ)) (ts : Tokens) : Type 0 where
  pub before : Before t lines words
  pub over : lines ++ non_empty (words ∷ []) ≡ lines_of t
  pub is : ts ≡ next (line_end (length t)) stop

abbrev pub Next : List ℕ → List (List (List ℕ)) → List (List ℕ) → Tokens → Type 0
Next t lines words ts = ByteNext t lines words ts ⊎ (WordNext t lines words ts ⊎ (LineNext t lines words ts ⊎ LastNext t lines words ts))

non_empty_append : {A : Type 0} (xs ys : List (List A)) → non_empty (xs ++ ys) ≡ non_empty xs ++ non_empty ys
non_empty_append [] ys = refl
non_empty_append ([] ∷ xs) ys = non_empty_append xs ys
non_empty_append ((z ∷ zs) ∷ xs) ys = ap (λ ws. (z ∷ zs) ∷ ws) (non_empty_append xs ys)

-- The byte s parts the pieces before it from those after it.
pub pieces_parted : (s : ℕ) (xs ys : List ℕ) → pieces s (xs ++ s ∷ ys) ≡ pieces s xs ++ pieces s ys
pieces_parted s [] ys = cond-true _ _ _ (eq-eqb s s refl)
pieces_parted s (b ∷ xs) ys =
    let piece = first_piece s xs in
    rw (pieces_parted s xs ys, piece.2) (grind arith)

pub words_parted : (xs ys : List ℕ) → words_of (xs ++ 32 ∷ ys) ≡ words_of xs ++ words_of ys
words_parted xs ys = ap non_empty (pieces_parted 32 xs ys) ∙ non_empty_append (pieces 32 xs) (pieces 32 ys)

pub lines_parted : (xs ys : List ℕ) → lines_of (xs ++ 10 ∷ ys) ≡ lines_of xs ++ lines_of ys
lines_parted xs ys =
    ap (λ ps. non_empty (map words_of ps)) (pieces_parted 10 xs ys)
    ∙ ap non_empty (map-append words_of (pieces 10 xs) (pieces 10 ys))
    ∙ non_empty_append (map words_of (pieces 10 xs)) (map words_of (pieces 10 ys))

-- Bytes other than s are one piece.
pub one_piece : (s : ℕ) (w : List ℕ) → All (λ b. b ≢ s) w → pieces s w ≡ w ∷ []
one_piece s w h = pieces_one s w (All-weaker (λ b. b ≢ s) (λ b. eqb b s ≡ false) (λ b ne. ne_eqb b s ne) w h)

-- A word is the only one of its bytes.
pub one_word : (w : List ℕ) → 1 ≤ length w → All Inner w → words_of w ≡ w ∷ []
one_word [] some inner = absurd (omega arith)
one_word (b ∷ w) some inner = ap non_empty (one_piece 32 (b ∷ w) (All-weaker Inner (λ c. c ≢ 32) (λ c i. i.0) (b ∷ w) inner))

-- Bytes without a line end are one line, after whole lines too.
one_line : (part : List ℕ) → All (λ b. b ≢ 10) part → lines_of part ≡ non_empty (words_of part ∷ [])
one_line part inside = ap (λ ps. non_empty (map words_of ps)) (one_piece 10 part inside)

line_after : (whole part : List ℕ) → WholeLines whole → All (λ b. b ≢ 10) part → lines_of (whole ++ part) ≡ lines_of whole ++ non_empty (words_of part ∷ [])
line_after whole part over inside =
    ⊎_elim
    (λ (e : whole ≡ []). rw e (one_line part inside))
    (λ (e : (front : List ℕ) × (whole ≡ front ++ 10 ∷ [])).
    cc (append_assoc e.0 (10 ∷ []) part, lines_parted e.0 part, one_line part inside, lines_parted e.0 [], append-nil (lines_of e.0)))
    over

-- Where two stretches end with b together, the second is empty or ends with it.
end_of : (whole part bs : List ℕ) (b : ℕ) → whole ++ part ≡ bs ++ b ∷ [] → (part ≡ []) ⊎ ((cs : List ℕ) × (part ≡ cs ++ b ∷ []))
end_of [] part bs b e = inr (bs, e)
end_of (x ∷ []) part [] b e = inl (cc)
end_of (x ∷ y ∷ xs) part [] b e = absurd (cc)
end_of (x ∷ xs) part (c ∷ bs) b e = end_of xs part bs b (cc)

-- Where a word may begin, the open line is empty or ends with a space.
pub part_begins : (whole part front : List ℕ) → front ≡ whole ++ part → All (λ b. b ≢ 10) part → BeginsAfter front → (part ≡ []) ⊎ ((cs : List ℕ) × (part ≡ cs ++ 32 ∷ []))
part_begins whole part front parts inside begins =
    ⊎_elim
    (λ (e : front ≡ []). inl (none_left whole part (sym parts ∙ e)))
    (λ (e : (bs : List ℕ) × (b : ℕ) × Separator b × (front ≡ bs ++ b ∷ [])).
    ⊎_elim (λ (z : part ≡ []). inl z)
    (λ (z : (cs : List ℕ) × (part ≡ cs ++ e.1 ∷ [])).
    ⊎_elim
    (λ (space : e.1 ≡ 32). inr (z.0, z.1 ∙ ap (λ b. z.0 ++ b ∷ []) space))
    (λ (line : e.1 ≡ 10). absurd ((All-pop (λ b. b ≢ 10) part z.0 (Some e.1) z.1 inside).1 line))
    e.2)
    (end_of whole part e.0 e.1 (sym parts ∙ e.3)))
    begins
  where
    none_left : (xs ys : List ℕ) → xs ++ ys ≡ [] → ys ≡ []
    none_left [] ys e = e
    none_left (x ∷ xs) ys e = absurd (cc)

-- There a word is one more of the line.
words_more : (part w : List ℕ) → (part ≡ []) ⊎ ((cs : List ℕ) × (part ≡ cs ++ 32 ∷ [])) → 1 ≤ length w → All Inner w → words_of (part ++ w) ≡ words_of part ++ w ∷ []
words_more part w begins some inner =
    ⊎_elim
    (λ (e : part ≡ []). rw e (one_word w some inner))
    (λ (e : (cs : List ℕ) × (part ≡ cs ++ 32 ∷ [])).
    cc (append_assoc e.0 (32 ∷ []) w, words_parted e.0 w, one_word w some inner, words_parted e.0 [], append-nil (words_of e.0)))
    begins

-- What stands before a place, and then before the place after a space, a line end or a word.
module _ (front : List ℕ) (lines : List (List (List ℕ))) (words : List (List ℕ)) (h : Before front lines words) where
  -- Where the text ends there, these are its lines.
  lines_over : lines ++ non_empty (words ∷ []) ≡ lines_of front
  lines_over = cc (line_after h.whole h.part h.ended h.inside)

  after_space : Before (front ++ 32 ∷ []) lines words
  after_space = record {
    whole = h.whole;
    part = h.part ++ 32 ∷ [];
    allowed = All-push Allowed front 32 h.allowed (inr (omega arith, omega arith));
    parts = cc (append_assoc h.whole h.part (32 ∷ []));
    ended = h.ended;
    inside = All-push (λ b. b ≢ 10) h.part 32 h.inside (λ e. omega arith);
    whole_lines = h.whole_lines;
    part_words = cc (words_parted h.part [], append-nil (words_of h.part));
  }

  after_line : Before (front ++ 10 ∷ []) (lines ++ non_empty (words ∷ [])) []
  after_line = record {
    whole = front ++ 10 ∷ [];
    part = [];
    allowed = All-push Allowed front 10 h.allowed (inl refl);
    parts = sym (append-nil (front ++ 10 ∷ []));
    ended = inr (front, refl);
    inside = All-nil (λ b. b ≢ 10);
    whole_lines = cc (lines_over, lines_parted front [], append-nil (lines_of front));
    part_words = refl;
  }

  after_word : (w : List ℕ) → BeginsAfter front → 1 ≤ length w → All Inner w → All Allowed w → Before (front ++ w) lines (words ++ w ∷ [])
  after_word w begins some inner allowed = record {
    whole = h.whole;
    part = h.part ++ w;
    allowed = All-append Allowed front w h.allowed allowed;
    parts = cc (append_assoc h.whole h.part w);
    ended = h.ended;
    inside = All-append (λ b. b ≢ 10) h.part w h.inside (All-weaker Inner (λ b. b ≢ 10) (λ b i. i.1) w inner);
    whole_lines = h.whole_lines;
    part_words = cc (words_more h.part w (part_begins h.whole h.part front h.parts h.inside begins) some inner);
  }

-- The open word, where its bytes begin at the place q.
abbrev pub opened : ℕ → List ℕ → Open
opened q [] = gap
opened q (b ∷ bs) = within q (b ∷ bs)

more_opened : (q b : ℕ) (word : List ℕ) → more (opened q word) (q + length word) b ≡ opened q (word ++ b ∷ [])
more_opened q b [] = ap (λ p. within p (b ∷ [])) (omega arith)
more_opened q b (c ∷ word) = refl

-- A printable byte other than the space goes on with the open word.
pub opened_more : (q b : ℕ) (word bs : List ℕ) → Inner b → Printable b → cut (opened q word) (q + length word) (b ∷ bs) ≡ cut (opened q (word ++ b ∷ [])) (q + length (word ++ b ∷ [])) bs
opened_more q b word bs inner fair = on_printable (opened q word) (q + length word) b bs inner.0 inner.1 fair.0 fair.1 ∙ (λ j. cut (more_opened q b word j) (place j) bs)
  where
    place : q + length word + 1 ≡ q + length (word ++ b ∷ [])
    place = simp length-append (omega arith)

-- A separator closes the open word.
pub word_over : (q p b : ℕ) (word bs : List ℕ) → 1 ≤ length word → Separator b → cut (opened q word) p (b ∷ bs) ≡ next (sort_word word q) (cut gap p (b ∷ bs))
word_over q p b [] bs some end = absurd (omega arith)
word_over q p b (c ∷ word) bs some end =
    ⊎_elim
    (λ (e : b ≡ 32). cc (on_space (within q (c ∷ word)) p b bs e, on_space gap p b bs e))
    (λ (e : b ≡ 10). cc (on_line (within q (c ∷ word)) p b bs e, on_line gap p b bs e))
    end

-- A byte is a space, a line end or a byte of a word.
pub byte_kinds : (b : ℕ) → (b ≡ 32) ⊎ ((b ≡ 10) ⊎ Inner b)
byte_kinds b =
    ⊎_elim (λ (e : b ≡ 32). inl e)
    (λ (ns : b ≢ 32). ⊎_elim (λ (e : b ≡ 10). inr (inl e)) (λ (nl : b ≢ 10). inr (inr (ns, nl))) (cases_eq b 10))
    (cases_eq b 32)

-- A byte is printable or not.
pub printable_or_not : (b : ℕ) → Printable b ⊎ ((b < 32) ⊎ (126 < b))
printable_or_not b =
    ⊎_elim (λ (l : b < 32). inr (inl l))
    (λ (l : 32 ≤ b). ⊎_elim (λ (k : 126 < b). inr (inr k)) (λ (k : b ≤ 126). inl (l, k)) (cases_lt 126 b))
    (cases_lt b 32)

-- A word begins after `front`.
module _ (t front : List ℕ) (lines : List (List (List ℕ))) (words : List (List ℕ)) (before : Before front lines words) (begins : BeginsAfter front) where
  -- Its first bytes are `word`, and `rest` is left.
  record Started (word rest : List ℕ) : Type 0 where
    pub text : t ≡ front ++ (word ++ rest)
    pub inner : All Inner word
    pub allowed : All Allowed word

  -- The tokens from there.
  abbrev left : List ℕ → List ℕ → Tokens
  left word rest = cut (opened (length front) word) (length front + length word) (ended rest)

  word_next : (word rest : List ℕ) → Started word rest → 1 ≤ length word → EndsBefore rest → left word rest ≡ next (sort_word word (length front)) (cut gap (length front + length word) (ended rest)) → Next t lines words (left word rest)
  word_next word rest h some ends is = inr (inl (record {
    front = front;
    word = word;
    rest = rest;
    before = before;
    at = record { rest = rest; text = h.text; begins = begins; ends = ends; some = some; inner = h.inner; allowed = h.allowed };
    between = record {
      text = cc (append_assoc front word rest);
      before = after_word front lines words before word begins some h.inner h.allowed;
      edge = inr ends;
    };
    is = cc (length-append front word);
  }))

  -- A byte more of the word.
  started_more : (word rest : List ℕ) (b : ℕ) → Started word (b ∷ rest) → Inner b → Printable b → Started (word ++ b ∷ []) rest
  started_more word rest b h inner fair = record {
    text = cc (append_assoc word (b ∷ []) rest);
    inner = All-push Inner word b h.inner inner;
    allowed = All-push Allowed word b h.allowed (inr fair);
  }

  byte_next : (word rest : List ℕ) (b : ℕ) → Started word (b ∷ rest) → Inner b → (b < 32) ⊎ (126 < b) → Next t lines words (left word (b ∷ rest))
  byte_next word rest b h inner out = inl (record {
    front = front;
    place = length front + length word;
    before = before;
    at = record { begun = word; byte = b; rest = rest; text = h.text; begins = begins; inner = h.inner; allowed = h.allowed; bad = λ (ok : Allowed b). grind arith; place = refl };
    is = on_bad (opened (length front) word) (length front + length word) b (ended rest) inner.0 inner.1 out;
  })

  -- The byte b is the next of the word, or is not allowed.
  byte_on : (word rest : List ℕ) (b : ℕ) → Started word (b ∷ rest) → Inner b → (Started (word ++ b ∷ []) rest → Next t lines words (left (word ++ b ∷ []) rest)) → Next t lines words (left word (b ∷ rest))
  byte_on word rest b h inner go =
      ⊎_elim
      (λ (fair : Printable b). subst (Next t lines words) (sym (opened_more (length front) b word (ended rest) inner fair)) (go (started_more word rest b h inner fair)))
      (λ (out : (b < 32) ⊎ (126 < b)). byte_next word rest b h inner out)
      (printable_or_not b)

  -- The word goes on up to a separator, the end of the text or a byte that is not allowed.
  word_on : (word rest : List ℕ) → Started word rest → 1 ≤ length word → Next t lines words (left word rest)
  word_on word [] h some = word_next word [] h some tt (word_over (length front) (length front + length word) 10 word [] some (inr refl))
  word_on word (b ∷ rest) h some =
      ⊎_elim
      (λ (e : b ≡ 32). at_separator (inl e))
      (λ (e : (b ≡ 10) ⊎ Inner b).
      ⊎_elim
      (λ (e : b ≡ 10). at_separator (inr e))
      (λ (inner : Inner b). byte_on word rest b h inner (λ g. word_on (word ++ b ∷ []) rest g (simp length-append (omega arith))))
      e)
      (byte_kinds b)
    where
      at_separator : Separator b → Next t lines words (left word (b ∷ rest))
      at_separator s = word_next word (b ∷ rest) h some s (word_over (length front) (length front + length word) b word (ended rest) some s)

  word_begun : (rest : List ℕ) (b : ℕ) → t ≡ front ++ b ∷ rest → Inner b → Next t lines words (cut gap (length front) (b ∷ ended rest))
  word_begun rest b text inner =
      subst (λ p. Next t lines words (cut gap p (b ∷ ended rest))) (let e : length front + 0 ≡ length front = omega arith in e)
      (byte_on [] rest b (record { text = text; inner = All-nil Inner; allowed = All-nil Allowed }) inner (λ g. word_on (b ∷ []) rest g (omega arith)))

line_next : (t front rest : List ℕ) (lines : List (List (List ℕ))) (words : List (List ℕ)) → t ≡ front ++ 10 ∷ rest → Before front lines words → Next t lines words (cut gap (length front) (10 ∷ ended rest))
line_next t front rest lines words text before = inr (inr (inl (record {
  front = front;
  rest = rest;
  before = before;
  at = text;
  between = record {
    text = cc (append_assoc front (10 ∷ []) rest);
    before = after_line front lines words before;
    edge = inl (inr (front, 10, inr refl, refl));
  };
  is = cc (on_line gap (length front) 10 (ended rest) refl, length-append front (10 ∷ []));
})))

last_next : (t : List ℕ) (lines : List (List (List ℕ))) (words : List (List ℕ)) → Before t lines words → Next t lines words (cut gap (length t) (10 ∷ []))
unfolding cut
last_next t lines words before = inr (inr (inr (record {
  before = before;
  over = lines_over t lines words before;
  is = on_line gap (length t) 10 [] refl;
})))

-- Before the first byte.
pub between_start : (t : List ℕ) → Between t [] t [] []
between_start t = record {
  text = refl;
  before = record { whole = []; part = []; allowed = All-nil Allowed; parts = refl; ended = inl refl; inside = All-nil (λ b. b ≢ 10); whole_lines = refl; part_words = refl };
  edge = inl (inl refl);
}

pub next_item : (t front rest : List ℕ) (lines : List (List (List ℕ))) (words : List (List ℕ)) → Between t front rest lines words → Next t lines words (cut gap (length front) (ended rest))
next_item t front [] lines words h =
    let whole : t ≡ front = h.text ∙ append-nil front in
    subst (λ (bs : List ℕ). Next t lines words (cut gap (length bs) (10 ∷ []))) whole (last_next t lines words (subst (λ (bs : List ℕ). Before bs lines words) (sym whole) h.before))
next_item t front (b ∷ rest) lines words h =
    ⊎_elim
    (λ (e : b ≡ 32).
    let go : Next t lines words (cut gap (length (front ++ 32 ∷ [])) (ended rest)) = next_item t (front ++ 32 ∷ []) rest lines words (record {
      text = cc (append_assoc front (32 ∷ []) rest);
      before = after_space front lines words h.before;
      edge = inl (inr (front, 32, inl refl, refl));
    }) in
    subst (Next t lines words) (ap (λ p. cut gap p (ended rest)) (length-append front (32 ∷ [])) ∙ sym (on_space gap (length front) b (ended rest) e)) go)
    (λ (e : (b ≡ 10) ⊎ Inner b).
    ⊎_elim
    (λ (e : b ≡ 10).
    subst (λ c. Next t lines words (cut gap (length front) (c ∷ ended rest))) (sym e) (line_next t front rest lines words (h.text ∙ ap (λ c. front ++ c ∷ rest) e) h.before))
    (λ (inner : Inner b). word_begun t front lines words h.before (begins inner) rest b h.text inner)
    e)
    (byte_kinds b)
  where
    begins : Inner b → BeginsAfter front
    begins inner = ⊎_elim (λ (e : BeginsAfter front). e) (λ (e : Separator b). absurd (⊎_elim inner.0 inner.1 e)) h.edge
