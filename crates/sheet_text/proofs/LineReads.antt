-- How the lines of a text are read, section by section.
use Rattle.std.proofs.Common.{All, ◌≡◌, ℕ, zero, suc, ◌+◌, ◌<◌, ◌≤◌, false, List, [], ◌∷◌, ◌++◌, map, length, Ok, sym, refl, ap, ◌∙◌, subst, arith}
use Rattle.std.proofs.lemmas.List.{append_assoc, append-nil}
use Rattle.std.proofs.lemmas.List.Elements.{All-head, All-tail}
use Rattle.prefix.specs.declared.kind.Kind.{Kind}
use Rattle.sheet.specs.Literals.{Distinct}
use Rattle.sheet.specs.declared.literal.Literal.{Literal}
use Rattle.sheet_text.specs.Grammar.{non_empty, Variable, kind_word, Signed, rule_line, placed}
use Rattle.sheet_text.specs.Keeping.{Sound, Named, BlankFrom}
use Rattle.sheet_text.specs.Machine.{in_mode, opened, open_in, ruled}
use Rattle.sheet_text.specs.FirstWords.{first_word}
use Rattle.sheet_text.specs.Reading.{Progress, given, run}
use Rattle.sheet_text.specs.Words.{letters, line_end}
use Rattle.sheet_text.specs.Cuts.{Tokens}
use Rattle.faults.specs.declared.sheet.SheetFault.TheVariants as fault
use Rattle.sheet_text.specs.declared.state.Mode.TheVariants as mode
use Rattle.sheet_text.specs.declared.state.State.{State}
use Rattle.sheet_text.specs.declared.state.Section.{Section}
use Rattle.sheet_text.specs.declared.state.Section.TheVariants.{Opening, Quantifiers, Rules}
use Rattle.sheet_text.specs.declared.first.First.{First}
use Rattle.sheet_text.specs.declared.first.First.TheVariants as first
use Rattle.sheet_text.specs.declared.word.Number.{Number}
use Rattle.sheet_text.proofs.Lining.{Line, LinedTo, line_split}
use Rattle.sheet_text.proofs.Naming.{Knows, knows_mode, knows_section, knows_ruled}
use Rattle.sheet_text.proofs.RuleReads.{Known, ruling, over_rule, rule_forth, open_forth, first_number}
use Rattle.sheet_text.proofs.Running.{progress}
use Rattle.sheet_text.proofs.Steps.{err_ok}
use Rattle.sheet_text.proofs.Turning.{step_in_lem, turn}
use Rattle.sheet_text.proofs.WordReads.{begins_with}

-- Two lists that are equal have equal parts.
pub heads : {A : Type 0} {x y : A} {xs ys : List A} → x ∷ xs ≡ y ∷ ys → x ≡ y
heads e = cc e

pub tails : {A : Type 0} {x y : A} {xs ys : List A} → x ∷ xs ≡ y ∷ ys → xs ≡ ys
tails e = cc e

pub nil_cons : {A : Type 0} {x : A} {xs : List A} → [] ≡ x ∷ xs → ⊥
nil_cons e = cc e

-- A line without words is passed over.
pub blank-line : (m : State) (ls : List Literal) (done : List (List Literal)) (ts rest : Tokens) → m.mode ≡ mode.LineStart → Line [] ts rest → run (progress m ls done) ts ≡ run (progress m ls done) rest
blank-line m ls done ts rest at l = turn m ls done ts rest (line_end l.0) (Ok m) l.1 (step_in_lem m mode.LineStart (line_end l.0) at) m refl

-- A reader in a rule, and after one, knows what it knew.
pub knows_rule : (m : State) (qs : List Variable) → Knows m qs → Knows (ruling m) qs
knows_rule m qs h = knows_section (in_mode mode.Literals m) Rules qs (knows_mode m mode.Literals qs h)

pub not_opening : {s : Section} → s ≡ Rules → s ≡ Opening → ⊥
not_opening e f = cc (e, f)

-- How rules leave the reader.
pub record RulesOver (m after : State) (count : ℕ) (qs : List Variable) : Type 0 where
  pub form : after.form ≡ m.form
  pub length : after.length ≡ m.length
  pub rules : after.rules ≡ m.rules
  pub read : after.read ≡ m.read + count
  pub late : after.section ≡ Opening → ⊥
  pub knows : Knows after qs

-- The section after some rules.
abbrev pub section_after : Section → ℕ → Section
section_after s zero = s
section_after s (suc n) = Rules

pub sound_rule : (m : State) (n : Number) (p : ℕ) → Sound m → m.mode ≡ mode.LineStart → (m.section ≡ Opening → ⊥) → m.named ≡ m.length → m.read < m.rules → Sound (ruling m)
sound_rule m n p s at late named more = record {
  short = s.short;
  few = s.few;
  all = s.all;
  count = s.count;
  bound = s.bound;
  placed = s.placed;
  known = s.known;
  read = s.read;
  named = late_named m.section late s.named;
  mode = (refl, named, more);
}
  where
    late_named : (x : Section) → (x ≡ Opening → ⊥) → Named x m.length m.variables m.named m.read → BlankFrom m.length m.variables
    late_named Opening ne b = absurd (ne refl)
    late_named Quantifiers ne b = b
    late_named Rules ne b = b

pub sound_over : (m : State) → Sound (ruling m) → Sound (over_rule (ruling m))
sound_over m s = record {
  short = s.short;
  few = s.few;
  all = s.all;
  count = s.count;
  bound = s.bound;
  placed = s.placed;
  known = s.known;
  read = omega (arith, s.mode.2);
  named = s.named;
  mode = tt;
}

-- How rules that are right leave the reader.
pub record RulesPassed (m after : State) (count : ℕ) (qs : List Variable) : Type 0 where
  pub over : RulesOver m after count qs
  pub sound : Sound after
  pub mode : after.mode ≡ mode.LineStart
  pub section : after.section ≡ section_after m.section count

module _ (qs : List Variable) (rest : Tokens) where
  pub rules_forth : (raw : List (List (List ℕ))) (rules : List (List Signed)) (m : State) (done : List (List Literal)) (ts : Tokens) → LinedTo raw ts rest → non_empty raw ≡ map rule_line rules
      → m.mode ≡ mode.LineStart → (m.section ≡ Opening → ⊥) → (1 ≤ length rules → m.named ≡ m.length) → Sound m → Knows m qs → m.read + length rules ≤ m.rules
      → All (All (Known m.length)) rules → All Distinct (map (map (placed qs)) rules)
      → (after : State) × (run (progress m [] done) ts ≡ run (progress after [] (done ++ map (map (placed qs)) rules)) rest) × RulesPassed m after (length rules) qs
  rules_forth [] [] m done ts l e at late named s h few known d = (
    m,
    (λ i. run (progress m [] (sym (append-nil done) i)) (l i)),
    record { over = record { form = refl; length = refl; rules = refl; read = omega arith; late = late; knows = h }; sound = s; mode = at; section = refl },
  )
  rules_forth [] (ss ∷ rules) m done ts l e at late named s h few known d = absurd (nil_cons e)
  rules_forth ([] ∷ raw) rules m done ts l e at late named s h few known d =
      let go = rules_forth raw rules m done l.0 l.2 e at late named s h few known d in
      (go.0, blank-line m [] done ts l.0 at l.1 ∙ go.1, go.2)
  rules_forth ((w ∷ ws) ∷ raw) [] m done ts l e at late named s h few known d = absurd (nil_cons (sym e))
  rules_forth ((w ∷ ws) ∷ raw) (ss ∷ rules) m done ts l e at late named s h few known d =
      let line : Line (rule_line ss) ts l.0 = subst (λ (ws : List (List ℕ)). Line ws ts l.0) (heads e) l.1 in
      let here = All-head (All (Known m.length)) ss rules known in
      let words = line_split (rule_line ss) [] ts l.0 (subst (λ (ws : List (List ℕ)). Line ws ts l.0) (sym (append-nil (rule_line ss))) line) in
      let n = first_number m.length ss ts words.0 here s.short words.1 in
      let x = map (placed qs) ss in
      let xs = map (map (placed qs)) rules in
      let all = named (omega arith) in
      let sr = sound_rule m n.0 n.1 s at late all (omega arith) in
      let go = rules_forth raw rules (over_rule (ruling m)) (done ++ x ∷ []) l.0 l.2 (tails e) refl (not_opening refl) (λ _. all) (sound_over m sr) (knows_mode (ruled (ruling m)) mode.LineStart qs (knows_ruled (ruling m) qs (knows_rule m qs h))) (omega arith) (All-tail (All (Known m.length)) ss rules known) (All-tail Distinct x xs d) in
      let over = go.2.over in (
        go.0,
        open_forth m n.0 n.1 at late [] done ts n.2 n.3 all (omega arith)
            ∙ rule_forth qs done l.0 ss (ruling m) [] ts line refl (knows_rule m qs h) s.short here (All-head Distinct x xs d)
            ∙ go.1 ∙ ap (λ (y : List (List Literal)). run (progress go.0 [] y) rest) (append_assoc done (x ∷ []) xs),
        record {
          over = record { form = over.form; length = over.length; rules = over.rules; read = omega (arith, over.read); late = over.late; knows = over.knows };
          sound = go.2.sound;
          mode = go.2.mode;
          section = go.2.section ∙ stays (length rules);
        },
      )
    where
      stays : (n : ℕ) → section_after Rules n ≡ Rules
      stays zero = refl
      stays (suc n) = refl

-- After the first rule no line begins with letters.
pub no_letters : (m : State) (ls : List Literal) (done : List (List Literal)) (v : Progress) (w : List ℕ) (p : ℕ) → given (progress m ls done) (opened (open_in Rules m (first_word w) p) (letters w p)) ≡ Ok v → ⊥
no_letters m ls done v w p q = by (first_word w) refl q
  where
    by : (f : First) → first_word w ≡ f → given (progress m ls done) (opened (open_in Rules m f p) (letters w p)) ≡ Ok v → ⊥
    by first.Comment is q = err_ok (fault.Word p) v q
    by first.Header is q = err_ok (fault.Word p) v q
    by (first.Quantifier k) is q = err_ok (fault.Word p) v q
    by first.Number is q = begins_with w first.Number is
    by first.Letters is q = err_ok (fault.Word p) v q
    by first.Other is q = err_ok (fault.NoNumber p) v q

-- Before it a line that begins with letters is a quantifier line.
pub letters_quantify : (m : State) (ls : List Literal) (done : List (List Literal)) (v : Progress) (w : List ℕ) (p : ℕ) → given (progress m ls done) (opened (open_in Quantifiers m (first_word w) p) (letters w p)) ≡ Ok v
    → (k : Kind) × (w ≡ kind_word k) × (progress (in_mode (mode.Variables k false) m) ls done ≡ v)
letters_quantify m ls done v w p q = by (first_word w) refl q
  where
    by : (f : First) → first_word w ≡ f → given (progress m ls done) (opened (open_in Quantifiers m f p) (letters w p)) ≡ Ok v → (k : Kind) × (w ≡ kind_word k) × (progress (in_mode (mode.Variables k false) m) ls done ≡ v)
    by first.Comment is q = absurd (err_ok (fault.Word p) v q)
    by first.Header is q = absurd (err_ok (fault.Word p) v q)
    by (first.Quantifier k) is q = (k, begins_with w (first.Quantifier k) is, (let same : progress (in_mode (mode.Variables k false) m) ls done ≡ v = cc q in same))
    by first.Number is q = absurd (begins_with w first.Number is)
    by first.Letters is q = absurd (err_ok (fault.Word p) v q)
    by first.Other is q = absurd (err_ok (fault.NoNumber p) v q)
