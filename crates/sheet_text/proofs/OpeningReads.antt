-- How comments and the header are read, and how they leave the reader.
use Rattle.std.proofs.Common.{All, ◌≡◌, ℕ, ◌≤◌, ◌⊎◌, List, [], ◌∷◌, ◌++◌, replicate, None, Ok, codes, refl, ap, ◌∙◌, subst, inl, inr, arith}
use Rattle.std.proofs.lemmas.List.Elements.{All-head, All-tail}
use Rattle.sheet.specs.declared.form.Form.{Form}
use Rattle.sheet.specs.declared.literal.Literal.{Literal}
use Rattle.sheet_text.specs.Grammar.{non_empty, Comment, header_line}
use Rattle.sheet_text.specs.Keeping.{position_at}
use Rattle.sheet_text.specs.Machine.{start, in_mode, open_in, opened}
use Rattle.sheet_text.specs.FirstWords.{first_word}
use Rattle.sheet_text.specs.Reading.{Progress, begin, given, run}
use Rattle.sheet_text.specs.Words.{letters}
use Rattle.sheet_text.specs.Cuts.{Tokens, next}
use Rattle.faults.specs.declared.sheet.SheetFault.TheVariants as fault
use Rattle.sheet_text.specs.declared.state.Mode.TheVariants as mode
use Rattle.sheet_text.specs.declared.state.Section.TheVariants.{Opening}
use Rattle.sheet_text.specs.declared.first.First.{First}
use Rattle.sheet_text.specs.declared.first.First.TheVariants as first
use Rattle.sheet_text.proofs.HeaderReads.{comment_line, headed, header_forth}
use Rattle.sheet_text.proofs.Lining.{Line, LinedTo}
use Rattle.sheet_text.proofs.LineReads.{heads, tails, nil_cons, blank-line}
use Rattle.sheet_text.proofs.Naming.{knows_none}
use Rattle.sheet_text.proofs.Running.{progress}
use Rattle.sheet_text.proofs.SheetReads.{Quantifying}
use Rattle.sheet_text.proofs.Steps.{err_ok, filled_none, none_at}
use Rattle.sheet_text.proofs.Turning.{turn}
use Rattle.sheet_text.proofs.WordReads.{sort_c, sort_p, begins_with}

-- Comments and the header are read where the lines begin with them.
pub opening_forth : (end : Tokens) (raw comments : List (List (List ℕ))) (f : Form) (n r : ℕ) (tail : List (List (List ℕ))) (ts : Tokens) → LinedTo raw ts end → non_empty raw ≡ comments ++ header_line f n r ∷ tail
    → All Comment comments → 1 ≤ n → n ≤ 24 → r ≤ 256
    → (left : List (List (List ℕ))) × (rest : Tokens) × LinedTo left rest end × (non_empty left ≡ tail) × (run begin ts ≡ run (progress (headed f n r) [] []) rest)
opening_forth end [] [] f n r tail ts l e c low high few = absurd (nil_cons e)
opening_forth end [] (x ∷ comments) f n r tail ts l e c low high few = absurd (nil_cons e)
opening_forth end ([] ∷ raw) comments f n r tail ts l e c low high few =
    let go = opening_forth end raw comments f n r tail l.0 l.2 e c low high few in
    (go.0, go.1, go.2, go.3, blank-line start [] [] ts l.0 refl l.1 ∙ go.4)
opening_forth end ((w ∷ ws) ∷ raw) [] f n r tail ts l e c low high few =
    let line : Line (header_line f n r) ts l.0 = subst (λ (ws : List (List ℕ)). Line ws ts l.0) (heads e) l.1 in
    let m = in_mode mode.Form start in (
      raw,
      l.0,
      l.2,
      tails e,
      turn start [] [] ts line.1 (letters (codes "p") line.0) (Ok m) (line.2 ∙ ap (λ t. next t line.1) (sort_p line.0)) refl m refl
          ∙ header_forth f n r [] [] line.1 l.0 low high few line.3,
    )
opening_forth end ((w ∷ ws) ∷ raw) (x ∷ comments) f n r tail ts l e c low high few =
    let here : Comment x = All-head Comment x comments c in
    let line : Line (codes "c" ∷ here.0) ts l.0 = subst (λ (ws : List (List ℕ)). Line ws ts l.0) (heads e ∙ here.1) l.1 in
    let m = in_mode mode.Comment start in
    let go = opening_forth end raw comments f n r tail l.0 l.2 (tails e) (All-tail Comment x comments c) low high few in (
      go.0,
      go.1,
      go.2,
      go.3,
      turn start [] [] ts line.1 (letters (codes "c") line.0) (Ok m) (line.2 ∙ ap (λ t. next t line.1) (sort_c line.0)) refl m refl
          ∙ comment_line here.0 [] [] line.1 l.0 line.3 ∙ go.4,
    )

-- The first line that begins with letters is a comment or the header.
pub letters_open : (ls : List Literal) (done : List (List Literal)) (v : Progress) (w : List ℕ) (p : ℕ) → given (progress start ls done) (opened (open_in Opening start (first_word w) p) (letters w p)) ≡ Ok v
    → ((w ≡ codes "c") × (progress (in_mode mode.Comment start) ls done ≡ v)) ⊎ ((w ≡ codes "p") × (progress (in_mode mode.Form start) ls done ≡ v))
letters_open ls done v w p q = by (first_word w) refl q
  where
    by : (f : First) → first_word w ≡ f → given (progress start ls done) (opened (open_in Opening start f p) (letters w p)) ≡ Ok v → ((w ≡ codes "c") × (progress (in_mode mode.Comment start) ls done ≡ v)) ⊎ ((w ≡ codes "p") × (progress (in_mode mode.Form start) ls done ≡ v))
    by first.Comment is q = inl (begins_with w first.Comment is, (let same : progress (in_mode mode.Comment start) ls done ≡ v = cc q in same))
    by first.Header is q = inr (begins_with w first.Header is, (let same : progress (in_mode mode.Form start) ls done ≡ v = cc q in same))
    by (first.Quantifier k) is q = absurd (err_ok (fault.Word p) v q)
    by first.Number is q = absurd (begins_with w first.Number is)
    by first.Letters is q = absurd (err_ok (fault.Word p) v q)
    by first.Other is q = absurd (err_ok (fault.Word p) v q)

-- The reader after the header knows no variable.
headed_blank : (f : Form) (n r : ℕ) (i : ℕ) → position_at (headed f n r) i ≡ 0
headed_blank f n r i = filled_none (replicate 24 None) refl i

pub headed_ready : (f : Form) (n r : ℕ) → n ≤ 24 → r ≤ 256 → Quantifying (headed f n r) []
headed_ready f n r short few = record {
  mode = refl;
  section = refl;
  sound = record {
    short = short;
    few = few;
    all = refl;
    count = refl;
    bound = omega arith;
    placed = λ i. omega (arith, headed_blank f n r i);
    known = λ i _. none_at 24 i;
    read = omega arith;
    named = λ i _. headed_blank f n r i;
    mode = tt;
  };
  knows = knows_none (headed f n r) refl refl (headed_blank f n r);
}
