-- What reading a text comes to: a fault that stands in it, or all its lines.
use Rattle.std.proofs.Common.{All, ◌≡◌, ℕ, List, [], ◌∷◌, ◌++◌, length, Ok, Err, Result, sym, refl, ap, ◌∙◌, subst, inl, inr, ⊎_elim}
use Rattle.std.proofs.lemmas.List.Elements.{All-nil}
use Rattle.sheet_text.specs.Grammar.{Allowed, Comment, lines_of}
use Rattle.sheet_text.specs.Reading.{Progress, begin, advance, onward, run}
use Rattle.sheet_text.specs.Beginnings.{Awaited, opening, Awaits}
use Rattle.sheet_text.specs.Refusing.{wrong, FaultInside}
use Rattle.sheet_text.specs.Words.{Token, line_end, sort_word}
use Rattle.sheet_text.specs.Cuts.{Tokens, stop, bad, next, gap, cut, ended, tokens}
use Rattle.faults.specs.declared.sheet.SheetFault.{SheetFault}
use Rattle.faults.specs.declared.sheet.SheetFault.TheVariants as fault
use Rattle.faults.specs.declared.text.TextFault.TheVariants.{Byte}
use Rattle.sheet_text.proofs.Advancing.{Onward, after_word, after_line_end}
use Rattle.sheet_text.proofs.Agreeing.{forget, agree}
use Rattle.sheet_text.proofs.Awaiting.{Reflects}
use Rattle.sheet_text.proofs.Items.{Between, Next, ByteNext, WordNext, LineNext, LastNext, between_start, next_item}

-- What reading the rest of a text comes to: a fault that stands there, or all its lines, of bytes that are allowed.
abbrev pub Came : List ℕ → Result Progress SheetFault → Type 0
Came t (Ok z) = All Allowed t × Onward (lines_of t) [] z
Came t (Err f) = FaultInside t f

-- One word more.
step_came : (t : List ℕ) (s : Progress) (w : Token) (ts : Tokens) → ((f : SheetFault) → advance s w ≡ Err f → FaultInside t f) → ((u : Progress) → advance s w ≡ Ok u → Came t (run u ts)) → Came t (run s (next w ts))
unfolding run
step_came t s w ts fault on = by (advance s w) refl
  where
    by : (o : Result Progress SheetFault) → advance s w ≡ o → Came t (onward o (λ u. run u ts))
    by (Ok u) is = on u is
    by (Err f) is = fault f is

bad_came : (t : List ℕ) (s : Progress) (p : ℕ) → FaultInside t (fault.Text (Byte p)) → Came t (run s (bad p))
unfolding run
bad_came t s p h = h

stop_came : (t : List ℕ) (s : Progress) → All Allowed t → Onward (lines_of t) [] s → Came t (run s stop)
unfolding run
stop_came t s allowed h = (allowed, h)

-- The fault that a word has is what is wrong with it.
wrong_as : (a : Awaited) (s : Progress) (w : Token) (f : SheetFault) → Reflects s.reader s.literals s.rules a → advance s w ≡ Err f → wrong a w ≡ Err f
wrong_as a s w f r e = agree a s.reader s.literals s.rules w r ∙ ap forget e

-- What reading the words ts comes to, after any beginning.
abbrev Comes : List ℕ → Tokens → Type 0
Comes t ts = (front rest : List ℕ) (lines : List (List (List ℕ))) (words : List (List ℕ)) (a : Awaited) (s : Progress) → Between t front rest lines words → ts ≡ cut gap (length front) (ended rest) → Awaits lines words a → Reflects s.reader s.literals s.rules a → Came t (run s ts)

stop_bad : (p : ℕ) → stop ≡ bad p → ⊥
stop_bad p e = cc e

stop_next : (w : Token) (ts : Tokens) → stop ≡ next w ts → ⊥
stop_next w ts e = cc e

bad_next : (p : ℕ) (w : Token) (ts : Tokens) → bad p ≡ next w ts → ⊥
bad_next p w ts e = cc e

next_bad : (p : ℕ) (w : Token) (ts : Tokens) → next w ts ≡ bad p → ⊥
next_bad p w ts e = cc e

same_bad : (p q : ℕ) → bad p ≡ bad q → p ≡ q
same_bad p q e = cc e

same_word : (v w : Token) (ts us : Tokens) → next v ts ≡ next w us → v ≡ w
same_word v w ts us e = cc e

same_rest : (v w : Token) (ts us : Tokens) → next v ts ≡ next w us → ts ≡ us
same_rest v w ts us e = cc e

module _ (t : List ℕ) (lines : List (List (List ℕ))) (words : List (List ℕ)) (a : Awaited) (s : Progress) (w : Token) (ts : Tokens) (go : Comes t ts) (wants : Awaits lines words a) (r : Reflects s.reader s.literals s.rules a) where
  word_came : WordNext t lines words (next w ts) → Came t (run s (next w ts))
  word_came n =
      let v = sort_word n.word (length n.front) in
      let is : w ≡ v = same_word w v ts _ n.is in
      step_came t s w ts
      (λ f e. record { front = n.front; lines = lines; words = words; awaited = a; before = n.before; awaits = wants; fault = inr (inl (n.word, n.at, sym (ap (wrong a) is) ∙ wrong_as a s w f r e)) })
      (λ u e.
      let b = after_word a lines words s.reader s.literals s.rules n.word (length n.front) u wants r (sym (ap (advance s) is) ∙ e) in
      go (n.front ++ n.word) n.rest lines (words ++ n.word ∷ []) b.0 u n.between (same_rest w v ts _ n.is) b.1 b.2)

  line_came : LineNext t lines words (next w ts) → Came t (run s (next w ts))
  line_came n =
      let v = line_end (length n.front) in
      let is : w ≡ v = same_word w v ts _ n.is in
      step_came t s w ts
      (λ f e. record { front = n.front; lines = lines; words = words; awaited = a; before = n.before; awaits = wants; fault = inr (inr (inr (n.rest, n.at), sym (ap (wrong a) is) ∙ wrong_as a s w f r e)) })
      (λ u e.
      let b = after_line_end a lines words s.reader s.literals s.rules (length n.front) u wants r (sym (ap (advance s) is) ∙ e) in
      go (n.front ++ 10 ∷ []) n.rest _ [] b.0 u n.between (same_rest w v ts _ n.is) b.1 b.2)

  last_came : LastNext t lines words (next w ts) → Came t (run s (next w ts))
  last_came n =
      let v = line_end (length t) in
      let is : w ≡ v = same_word w v ts stop n.is in
      step_came t s w ts
      (λ f e. record { front = t; lines = lines; words = words; awaited = a; before = n.before; awaits = wants; fault = inr (inr (inl refl, sym (ap (wrong a) is) ∙ wrong_as a s w f r e)) })
      (λ u e.
      let b = after_line_end a lines words s.reader s.literals s.rules (length t) u wants r (sym (ap (advance s) is) ∙ e) in
      subst (λ (ts : Tokens). Came t (run u ts)) (sym (same_rest w v ts stop n.is)) (stop_came t u n.before.allowed (subst (λ (ls : List (List (List ℕ))). Onward ls [] u) n.over b)))

comes : (t : List ℕ) (ts : Tokens) → Comes t ts
comes t stop front rest lines words a s h e wants r =
    let n = subst (Next t lines words) (sym e) (next_item t front rest lines words h) in
    ⊎_elim (λ (n : ByteNext t lines words stop). absurd (stop_bad n.place n.is))
    (⊎_elim (λ (n : WordNext t lines words stop). absurd (stop_next _ _ n.is))
    (⊎_elim (λ (n : LineNext t lines words stop). absurd (stop_next _ _ n.is)) (λ (n : LastNext t lines words stop). absurd (stop_next _ _ n.is)))) n
comes t (bad p) front rest lines words a s h e wants r =
    let n = subst (Next t lines words) (sym e) (next_item t front rest lines words h) in
    ⊎_elim
    (λ (n : ByteNext t lines words (bad p)).
    bad_came t s p (record { front = n.front; lines = lines; words = words; awaited = a; before = n.before; awaits = wants; fault = inl (n.place, n.at, ap (λ (p : ℕ). fault.Text (Byte p)) (same_bad p n.place n.is)) }))
    (⊎_elim (λ (n : WordNext t lines words (bad p)). absurd (bad_next p _ _ n.is))
    (⊎_elim (λ (n : LineNext t lines words (bad p)). absurd (bad_next p _ _ n.is)) (λ (n : LastNext t lines words (bad p)). absurd (bad_next p _ _ n.is)))) n
comes t (next w ts) front rest lines words a s h e wants r =
    let n = subst (Next t lines words) (sym e) (next_item t front rest lines words h) in
    ⊎_elim (λ (n : ByteNext t lines words (next w ts)). absurd (next_bad n.place w ts n.is))
    (⊎_elim (word_came t lines words a s w ts (comes t ts) wants r)
    (⊎_elim (line_came t lines words a s w ts (comes t ts) wants r) (last_came t lines words a s w ts (comes t ts) wants r))) n

-- What reading the whole text comes to.
pub text_comes : (t : List ℕ) → Came t (run begin (tokens t))
text_comes t = comes t (tokens t) [] t [] [] opening begin (between_start t) refl (All-nil Comment, refl) (refl, refl, refl)
