-- A text is refused exactly when a fault stands in it, and then with that one.
use Rattle.std.proofs.lemmas.Bool.Decides.{nat_tests}
use Rattle.std.proofs.Common.{All, ◌≡◌, ℕ, zero, suc, ◌⊎◌, ◌↔◌, List, [], ◌∷◌, ◌++◌, map, length, Ok, Err, Result, sym, refl, ap, ◌∙◌, subst, inl, inr, ⊎_elim, arith}
use Rattle.sheet_text.specs.Grammar.{Comment, Header, Begun, Variable, Signed, Allowed, pieces, words_of, lines_of}
use Rattle.sheet_text.specs.Machine.{step}
use Rattle.sheet_text.specs.Reading.{Progress, begin, given, run, complete, finished, whole, ending, read_through, sheet_from, read_text}
use Rattle.sheet_text.specs.Places.{BeginsAfter, EndsBefore, ByteAt}
use Rattle.sheet_text.specs.Beginnings.{Awaited, opening, comment, form, variable_count, rule_count, line, variable, literal, over, Awaits}
use Rattle.sheet_text.specs.Refusing.{wrong, wrong_end, FaultInside, FaultAtEnd, HasFault, Decided}
use Rattle.sheet_text.specs.Words.{Token, line_end, sort_word}
use Rattle.sheet_text.specs.Cuts.{Tokens, stop, bad, next, tokens}
use Rattle.faults.specs.declared.sheet.SheetFault.{SheetFault}
use Rattle.faults.specs.declared.sheet.SheetFault.TheVariants as fault
use Rattle.faults.specs.declared.text.TextFault.TheVariants.{Byte}
use Rattle.sheet_text.specs.declared.state.State.{State}
use Rattle.sheet_text.specs.declared.state.Section.{Section}
use Rattle.sheet_text.proofs.Coming.{Came, text_comes}
use Rattle.sheet_text.proofs.Agreeing.{forget, agree}
use Rattle.sheet_text.proofs.Awaiting.{section_of, Late, Reflects}
use Rattle.sheet_text.proofs.LineReads.{nil_cons}
use Rattle.sheet_text.proofs.Lining.{LinedTo, lined_to, lined_text}
use Rattle.sheet_text.proofs.Passing.{Passed, awaited_forth, comments_forth, begun_forth}
use Rattle.sheet_text.proofs.Places.{left_after, reached, byte_token, word_token, line_token}
use Rattle.sheet_text.proofs.TextReads.{read_exactly}
use Rattle.sheet_text.proofs.Running.{progress, run_fault, run_over}

-- What is wrong with the end of a text is what the reader finds there.
end_wrong : (m : State) (h : Header) (qs : List Variable) (rs : List (List Signed)) (p : ℕ) → Late m h qs (length rs) → m.section ≡ section_of (length rs) → wrong_end h qs rs p ≡ forget (finished p m.section m)
end_wrong m h qs rs p l section = by (length rs) ∙ ap (λ (s : Section). forget (finished p s m)) (sym section)
  where
    compared : wrong_end h qs rs p ≡ forget (complete p m)
    compared = grind (arith, nat_tests, l.read, l.rules, l.length, l.knows.count)

    by : (n : ℕ) → wrong_end h qs rs p ≡ forget (finished p (section_of n) m)
    by zero = compared
    by (suc n) = compared

-- At the end of a text no word is left in its line, so it is a line that is wanted.
module _ (t : List ℕ) (f : SheetFault) (z : Progress) (allowed : All Allowed t) where
  faulty_end : (o : Result (Unit {0}) SheetFault) → sheet_from (whole z o) ≡ Err f → o ≡ Err f
  faulty_end (Ok u) q = absurd (cc q)
  faulty_end (Err g) q = let same : g ≡ f = cc q in ap Err same

  at_end : (a : Awaited) → Awaits (lines_of t) [] a → Reflects z.reader z.literals z.rules a → finished (length t) z.reader.section z.reader ≡ Err f → FaultAtEnd t f
  at_end opening a r e = (allowed, inl (a.0, (let same : ◌≡◌ {A = Result (Unit {0}) SheetFault} (Err (fault.Word (length t))) (Err f) = ap (λ (m : State). finished (length t) m.section m) (sym r.0) ∙ e in cc same)))
  at_end comment a r e = absurd (nil_cons a.1.1)
  at_end form a r e = absurd (nil_cons a.1)
  at_end (variable_count g) a r e = absurd (nil_cons a.1)
  at_end (rule_count g n) a r e = absurd (nil_cons a.2)
  at_end (line h qs rs) a r e = (allowed, inr (h, qs, rs, a.0, end_wrong z.reader h qs rs (length t) r.2 r.1 ∙ ap forget e))
  at_end (variable h qs k vs) a r e = absurd (nil_cons a.2)
  at_end (literal h qs rs []) a r e = absurd (omega (arith, a.4))
  at_end (literal h qs rs (s ∷ ss)) a r e = absurd (nil_cons a.5)
  at_end (over h qs rs) a r e = absurd (omega (arith, a.1))

-- A text that is refused has that fault.
refused : (t : List ℕ) (f : SheetFault) → read_text t ≡ Err f → HasFault t f
unfolding read_through
refused t f e = by (run begin (tokens t)) (text_comes t) e
  where
    by : (o : Result Progress SheetFault) → Came t o → sheet_from (ending (length t) o) ≡ Err f → HasFault t f
    by (Ok z) c q = inr (at_end t f z c.0 c.1.0 c.1.1 c.1.2 (faulty_end t f z c.0 (finished (length t) z.reader.section z.reader) q))
    by (Err g) c q = inl (subst (FaultInside t) (let same : g ≡ f = cc q in same) c)

forget_fault : {A : Type 0} (o : Result A SheetFault) (f : SheetFault) → forget o ≡ Err f → o ≡ Err f
forget_fault (Ok x) f e = absurd (cc e)
forget_fault (Err g) f e = let same : g ≡ f = cc e in ap Err same

-- A fault in what the words of a text say is that of the text.
faulty_words : (t : List ℕ) (f : SheetFault) → run begin (tokens t) ≡ Err f → read_text t ≡ Err f
unfolding read_through
faulty_words t f e = ap (λ o. sheet_from (ending (length t) o)) e

bad_fault : (s : Progress) (p : ℕ) → run s (bad p) ≡ Err (fault.Text (Byte p))
unfolding run
bad_fault s p = refl

-- A text that has a fault inside is refused with it.
module _ (t : List ℕ) (f : SheetFault) (h : FaultInside t f) where
  passed : (rest : List ℕ) → t ≡ h.front ++ rest → BeginsAfter h.front ⊎ EndsBefore rest → Passed (tokens t) (left_after h.front rest) h.awaited
  passed rest text edge =
      let r = reached t h.front rest h.lines h.words h.before text edge in
      awaited_forth h.awaited h.lines h.words r.0 (tokens t) r.1 (left_after h.front rest) h.awaits r.3 r.2 r.4

  at_byte : (p : ℕ) → ByteAt t h.front p → f ≡ fault.Text (Byte p) → run begin (tokens t) ≡ Err f
  at_byte p at is =
      let b = byte_token t h.front p at in
      let s = passed b.0 b.1 (inl b.2) in
      s.3 ∙ ap (run (progress s.0 s.1 s.2)) b.3 ∙ bad_fault (progress s.0 s.1 s.2) p ∙ ap Err (sym is)

  at_token : (w : Token) (ts rest : Tokens) → wrong h.awaited w ≡ Err f → Passed (tokens t) ts h.awaited → ts ≡ next w rest → run begin (tokens t) ≡ Err f
  at_token w ts rest fails s is =
      s.3 ∙ run_fault (progress s.0 s.1 s.2) ts rest w f is (forget_fault (given (progress s.0 s.1 s.2) (step s.0 w)) f (sym (agree h.awaited s.0 s.1 s.2 w s.4) ∙ fails))

  fault_inside : run begin (tokens t) ≡ Err f
  fault_inside =
      ⊎_elim (λ b. at_byte b.0 b.1 b.2)
      (⊎_elim (λ b. let w = word_token t h.front b.0 b.1 in at_token (sort_word b.0 (length h.front)) (left_after h.front w.0) w.1 b.2 (passed w.0 w.2 (inl w.3)) w.4)
      (λ b. let w = line_token t h.front b.0 in at_token (line_end (length h.front)) (left_after h.front w.0) w.1 b.1 (passed w.0 w.2 (inr w.3)) w.4))
      h.fault

-- A text that ends too early is refused so.
module _ (t : List ℕ) (f : SheetFault) (allowed : All Allowed t) where
  abbrev raw_lines : List (List (List ℕ))
  raw_lines = map words_of (pieces 10 t)

  wholly_lined : LinedTo raw_lines (tokens t) stop
  wholly_lined = lined_to raw_lines (tokens t) (lined_text t allowed)

  ended_so : (s : Progress) → run begin (tokens t) ≡ run s stop → finished (length t) s.reader.section s.reader ≡ Err f → read_text t ≡ Err f
  unfolding read_through
  ended_so s ran e = ap (λ o. sheet_from (ending (length t) o)) (ran ∙ run_over s stop refl) ∙ ap (λ o. sheet_from (whole s o)) e

  no_header : All Comment (lines_of t) → f ≡ fault.Word (length t) → read_text t ≡ Err f
  no_header comments is = ended_so begin (comments_forth raw_lines (lines_of t) (tokens t) stop wholly_lined refl comments) (ap Err (sym is))

  unfinished : (h : Header) (qs : List Variable) (rs : List (List Signed)) → Begun (lines_of t) h qs rs → wrong_end h qs rs (length t) ≡ Err f → read_text t ≡ Err f
  unfinished h qs rs b e =
      let s = begun_forth (lines_of t) h qs rs raw_lines (tokens t) stop b wholly_lined refl in
      let m = s.0 in
      ended_so (progress m s.1 s.2) s.3 (forget_fault (finished (length t) m.section m) f (sym (end_wrong m h qs rs (length t) s.4.2 s.4.1) ∙ e))

fault_at_end : (t : List ℕ) (f : SheetFault) → FaultAtEnd t f → read_text t ≡ Err f
fault_at_end t f h = ⊎_elim (λ n. no_header t f h.0 n.0 n.1) (λ u. unfinished t f h.0 u.0 u.1 u.2 u.3 u.4) h.1

-- Both ways.
pub refused_exactly : (t : List ℕ) (f : SheetFault) → (read_text t ≡ Err f) ↔ HasFault t f
refused_exactly t f = (refused t f, ⊎_elim (λ h. faulty_words t f (fault_inside t f h)) (fault_at_end t f))

pub decided : (t : List ℕ) → Decided t
decided t = (read_text t, read_exactly t, refused_exactly t)
