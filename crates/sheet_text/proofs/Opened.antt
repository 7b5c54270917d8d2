-- A line's first word, in two calls: one opens the line, and in a rule a second reads the word.
use Rattle.std.proofs.Common.{◌≡◌, ℕ, None, Ok, Err, Option, Result, sym, refl, ap, subst}
use Rattle.sheet_text.specs.Words.{Token, letters, number, line_end, place_of, token}
use Rattle.sheet_text.specs.Keeping.{Went, Gave, Sound, Fits}
use Rattle.sheet_text.specs.Machine.{open_line, nothing, step_in, opened, begun, literal_word, start_word}
use Rattle.sheet_text.specs.FirstWords.{first_of}
use Rattle.faults.specs.declared.sheet.SheetFault.{SheetFault}
use Rattle.sheet_text.specs.declared.state.Mode.{Mode}
use Rattle.sheet_text.specs.declared.state.Mode.TheVariants as mode
use Rattle.sheet_text.specs.declared.state.State.{State}
use Rattle.sheet_text.specs.declared.taken.Taken.{Taken}
use Rattle.sheet_text.specs.declared.first.First.{First}
use Rattle.sheet_text.specs.declared.word.Word.{Word}
use Rattle.sheet_text.specs.declared.word.Word.TheVariants as word
use Rattle.sheet_text.proofs.Steps.{err_ok, Keeps, KeepsR, step_keeps}

pub went_ok : (b : State) (o : Result State SheetFault) (x : Unit {0}) (m : State) → Went b o (Ok x) m → o ≡ Ok m
went_ok b (Ok n) x m h = ap Ok (sym h.1)
went_ok b (Err f) x m h = absurd (err_ok f x (sym h.0))

pub went_err : (b : State) (o : Result State SheetFault) (f : SheetFault) (m : State) → Went b o (Err f) m → (o ≡ Err f) × (m ≡ b)
went_err b (Ok n) f m h = absurd (err_ok f tt h.0)
went_err b (Err g) f m h = let e : g ≡ f = cc h.0 in (ap Err e, h.1)

pub gave_ok : (o : Result (State × Option Taken) SheetFault) (x : Option Taken) (m : State) → Gave o (Ok x) m → o ≡ Ok (m, x)
gave_ok (Ok p) x m h = let e : x ≡ p.1 = cc h.0 in λ i. Ok (sym h.1 i, sym e i)
gave_ok (Err f) x m h = absurd (err_ok f x (sym h))

-- What a call leaves is sound where what it was to leave is, and where it was before.
pub went_sound : (b : State) (o : Result State SheetFault) (r : Result (Unit {0}) SheetFault) (m : State) → Sound b → KeepsR o → Went b o r m → Sound m
went_sound b (Ok n) r m h k w = subst Sound (sym w.1) k
went_sound b (Err f) r m h k w = subst Sound (sym w.1) h

keeps_back : (o : Result State SheetFault) → Keeps (nothing o) → KeepsR o
keeps_back (Ok m) h = h
keeps_back (Err f) h = tt

-- What a step by one call leaves is sound.
pub went_step : (m : State) (o : Mode) (s : Token) (x : Result State SheetFault) (r : Result (Unit {0}) SheetFault) (n : State) → Sound m → m.mode ≡ o → step_in m o s ≡ nothing x → Went m x r n → Sound n
went_step m o s x r n h at does w = went_sound m x r n h (keeps_back x (subst Keeps does (step_keeps m o s h (subst (λ o. Fits o m) at h.mode)))) w

no_literal : (n : State) (o : Mode) (s : Token) → (o ≡ mode.Literals → ⊥) → begun n o s ≡ Ok (n, None)
no_literal n mode.Literals s other = absurd (other refl)
no_literal n mode.LineStart s other = refl
no_literal n mode.Comment s other = refl
no_literal n mode.Form s other = refl
no_literal n mode.Length s other = refl
no_literal n mode.RuleCount s other = refl
no_literal n mode.HeaderEnd s other = refl
no_literal n (mode.Variables k some) s other = refl
no_literal n mode.LineEnd s other = refl

module _ (m : State) (f : First) (p : ℕ) (r : Result (Option Taken) SheetFault) (after : State) where
  -- The line is opened so, unless the line has no word.
  by_opened : (s : Token) → f ≡ first_of s → p ≡ place_of s → ((q : ℕ) → s ≡ line_end q → ⊥) → Gave (opened (open_line m f p) s) r after → Gave (start_word m s) r after
  by_opened (letters t q) fe pe ne g = subst (λ o. Gave (opened o (letters t q)) r after) (λ j. open_line m (fe j) (pe j)) g
  by_opened (number n q) fe pe ne g = subst (λ o. Gave (opened o (number n q)) r after) (λ j. open_line m (fe j) (pe j)) g
  by_opened (line_end q) fe pe ne g = absurd (ne q refl)

  pub begin_rule : (s : Token) (n : State) → f ≡ first_of s → p ≡ place_of s → ((q : ℕ) → s ≡ line_end q → ⊥) → open_line m f p ≡ Ok n → n.mode ≡ mode.Literals → Gave (literal_word n s) r after → Gave (start_word m s) r after
  begin_rule s n fe pe ne e i g =
      by_opened s fe pe ne (subst (λ o. Gave (opened o s) r after) (sym e) (subst (λ (o : Mode). Gave (begun n o s) r after) (sym i) g))

  pub begin_fault : (s : Token) (g : SheetFault) → f ≡ first_of s → p ≡ place_of s → ((q : ℕ) → s ≡ line_end q → ⊥) → open_line m f p ≡ Err g → r ≡ Err g → Gave (start_word m s) r after
  begin_fault s g fe pe ne e i = by_opened s fe pe ne (subst (λ o. Gave (opened o s) r after) (sym e) i)

  pub begin_other : (s : Token) (n : State) → f ≡ first_of s → p ≡ place_of s → ((q : ℕ) → s ≡ line_end q → ⊥) → open_line m f p ≡ Ok n → (n.mode ≡ mode.Literals → ⊥) → r ≡ Ok None → after ≡ n → Gave (start_word m s) r after
  begin_other s n fe pe ne e other i same =
      by_opened s fe pe ne (subst (λ o. Gave (opened o s) r after) (sym e) (subst (λ o. Gave o r after) (sym (no_literal n n.mode s other)) (i, same)))

pub not_end : (w : Word) → ((x : ℕ) → w ≡ word.LineEnd x → ⊥) → (q : ℕ) → token w ≡ line_end q → ⊥
not_end (word.Letters t p) h q e = cc e
not_end (word.Number n p) h q e = cc e
not_end (word.LineEnd p) h q e = h p refl
