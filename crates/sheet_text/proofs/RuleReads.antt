-- How a rule is read.
use Rattle.std.proofs.Common.{All, ◌≡◌, ℕ, ◌<◌, ◌≤◌, true, false, cond, not, ◌⊎◌, List, [], ◌∷◌, ◌++◌, map, length, is_some, Some, None, Ok, Err, codes, decimal, Result, sym, refl, ap, ◌∙◌, subst, inl, inr, ⊎_elim, arith}
use Rattle.std.proofs.lemmas.List.{append_assoc, append-nil}
use Rattle.std.proofs.lemmas.Bool.Decides.{nat_tests}
use Rattle.std.proofs.lemmas.Bool.{cond-true, cond-false, cases_eq, eq-eqb, lt-ltb}
use Rattle.std.proofs.lemmas.List.Elements.{All-head, All-tail}
use Rattle.sheet.proofs.Collected.{distinct_at}
use Rattle.sheet.specs.Literals.{Distinct, lookup}
use Rattle.sheet.specs.declared.literal.Literal.{Literal}
use Rattle.sheet_text.specs.Grammar.{Variable, Signed, signed_word, rule_line, placed, Ranges}
use Rattle.sheet_text.specs.Machine.{in_mode, in_section, step, open_rule, opened, ruled, literal_of, literal_number, literal_word}
use Rattle.sheet_text.specs.Reading.{Progress, given, run}
use Rattle.sheet_text.specs.Words.{number, sort_word, numeral_of}
use Rattle.sheet_text.specs.Cuts.{Tokens, next}
use Rattle.faults.specs.declared.sheet.SheetFault.{SheetFault}
use Rattle.sheet_text.specs.declared.state.Mode.TheVariants as mode
use Rattle.sheet_text.specs.declared.state.State.{State}
use Rattle.sheet_text.specs.declared.state.Section.TheVariants.{Opening, Rules}
use Rattle.sheet_text.specs.declared.taken.Taken.TheVariants as taken
use Rattle.sheet_text.specs.declared.word.Number.{Number}
use Rattle.sheet_text.proofs.Lining.{Line, WordsTo, line_split, words_split}
use Rattle.sheet_text.proofs.Naming.{Knows}
use Rattle.sheet_text.proofs.Running.{progress, run_turn}
use Rattle.sheet_text.proofs.Spelled.{plain, numeral_back}
use Rattle.sheet_text.proofs.Turning.{step_in_lem}
use Rattle.sheet_text.proofs.VariableReads.{over_forth}
use Rattle.sheet_text.proofs.WordReads.{sort_zero, sort_decimal, sort_minus, zero_word}

-- The reader in a rule, and after one.
abbrev pub ruling : State → State
ruling m = in_section Rules (in_mode mode.Literals m)

abbrev pub over_rule : State → State
over_rule m = in_mode mode.LineStart (ruled m)

-- The literal's variable is from 1 to n.
abbrev pub Known : ℕ → Signed → Type 0
Known n l = Ranges n l.variable

-- The number that a signed variable is.
abbrev pub number_of : Signed → Number
number_of s = record { value = s.variable; negative = not s.wanted }

pub sort_signed : (s : Signed) (p : ℕ) → s.variable < 1000000 → (s.variable ≡ 0 → ⊥) → sort_word (signed_word s) p ≡ number (number_of s) p
sort_signed s p small some =
    elim s.wanted as (λ b. sort_word (cond b (decimal s.variable) (45 ∷ decimal s.variable)) p ≡ number (record { value = s.variable; negative = not b }) p)
    [ true ↦ sort_decimal s.variable p small | false ↦ sort_minus s.variable p small some ]

-- A literal stands at its variable's position.
pub literal_placed : (m : State) (qs : List Variable) (s : Signed) → Knows m qs → 1 ≤ s.variable → literal_of m (number_of s) ≡ placed qs s
literal_placed m qs s h some = grind (arith, nat_tests)

number_forth : (m : State) (n : Number) (p : ℕ) → Ranges m.length n.value → literal_number m n p ≡ Ok (m, Some (taken.Literal (literal_of m n) p))
number_forth m n p r = grind (arith, nat_tests)

-- The literals of a rule.
pub literals_on : (qs : List Variable) (done : List (List Literal)) (ss : List Signed) (m : State) (ls : List Literal) (ts rest : Tokens) → WordsTo (map signed_word ss) ts rest → m.mode ≡ mode.Literals
    → Knows m qs → m.length ≤ 24 → All (Known m.length) ss → Distinct (ls ++ map (placed qs) ss) → run (progress m ls done) ts ≡ run (progress m (ls ++ map (placed qs) ss) done) rest
literals_on qs done [] m ls ts rest l at h short range d = λ i. run (progress m (sym (append-nil ls) i) done) (l i)
literals_on qs done (s ∷ ss) m ls ts rest l at h short range d =
    let w = sort_word (signed_word s) l.0 in
    let p = progress m ls done in
    let x = placed qs s in
    let here : Ranges m.length s.variable = All-head (Known m.length) s ss range in
    let is = sort_signed s l.0 (omega (arith, here.1)) (λ z. omega (arith, here.0)) in
    let e : step m w ≡ Ok (m, Some (taken.Literal x l.0)) =
    step_in_lem m mode.Literals w at ∙ ap (literal_word m) is ∙ number_forth m (number_of s) l.0 here ∙ ap (λ (x : Literal). Ok (m, Some (taken.Literal x l.0))) (literal_placed m qs s h here.0) in
    let free : is_some (lookup ls x.position) ≡ false = ap is_some (distinct_at x ls (map (placed qs) ss) d).1 in
    let assoc = append_assoc ls (x ∷ []) (map (placed qs) ss) in
    run_turn p (progress m (ls ++ x ∷ []) done) ts l.1 w l.2 (ap (given p) e ∙ cond-false _ _ _ free)
    ∙ literals_on qs done ss m (ls ++ x ∷ []) l.1 rest l.3 at h short (All-tail (Known m.length) s ss range) (subst Distinct (sym assoc) d)
    ∙ ap (λ (x : List Literal). run (progress m x done) rest) assoc

module _ (qs : List Variable) (done : List (List Literal)) (rest : Tokens) where
  -- The 0 of a rule, and the end of its line.
  pub zero_word_forth : (m : State) (ls : List Literal) (ts after : Tokens) (p : ℕ) → ts ≡ next (sort_word (codes "0") p) after → m.mode ≡ mode.Literals → run (progress m ls done) ts ≡ run (progress (ruled m) [] (done ++ ls ∷ [])) after
  zero_word_forth m ls ts after p is at =
      let w = sort_word (codes "0") p in
      run_turn (progress m ls done) (progress (ruled m) [] (done ++ ls ∷ [])) ts after w is (ap (given (progress m ls done)) (step_in_lem m mode.Literals w at ∙ ap (literal_word m) (sort_zero p)))

  zero_forth : (m : State) (ls : List Literal) (ts : Tokens) → Line (codes "0" ∷ []) ts rest → m.mode ≡ mode.Literals → run (progress m ls done) ts ≡ run (progress (over_rule m) [] (done ++ ls ∷ [])) rest
  zero_forth m ls ts l at = zero_word_forth m ls ts l.1 l.0 l.2 at ∙ over_forth (ruled m) [] (done ++ ls ∷ []) rest refl l.1 l.3

  pub rule_forth : (ss : List Signed) (m : State) (ls : List Literal) (ts : Tokens) → Line (map signed_word ss ++ codes "0" ∷ []) ts rest → m.mode ≡ mode.Literals
      → Knows m qs → m.length ≤ 24 → All (Known m.length) ss → Distinct (ls ++ map (placed qs) ss)
      → run (progress m ls done) ts ≡ run (progress (over_rule m) [] (done ++ (ls ++ map (placed qs) ss) ∷ [])) rest
  rule_forth ss m ls ts l at h short range d =
      let split = line_split (map signed_word ss) (codes "0" ∷ []) ts rest l in
      literals_on qs done ss m ls ts split.0 split.1 at h short range d ∙ zero_forth m (ls ++ map (placed qs) ss) split.0 split.2 at

-- What a word does in a rule.
module _ (qs : List Variable) (done : List (List Literal)) where
  abbrev pub Did : State → List Literal → Number → Result Progress SheetFault → Type 0
  Did m ls n (Ok v) = ((n.value ≡ 0) × (progress (ruled m) [] (done ++ ls ∷ []) ≡ v))
      ⊎ (Ranges m.length n.value × (lookup ls (literal_of m n).position ≡ None) × (progress m (ls ++ literal_of m n ∷ []) done ≡ v))
  Did m ls n (Err f) = Unit {0}

  pub number_did : (m : State) (ls : List Literal) (n : Number) (p : ℕ) → Did m ls n (given (progress m ls done) (literal_number m n p))
  number_did m ls n p = grind (arith, nat_tests)

  signed_back : (w : List ℕ) (n : Number) → numeral_of w ≡ Some n → ((n.value ≡ 0) × (w ≡ codes "0")) ⊎ ((s : Signed) × (w ≡ signed_word s) × (n ≡ number_of s) × (n.value ≡ 0 → ⊥))
  signed_back w n e =
      ⊎_elim
      (λ b. ⊎_elim (λ (z : b.0 ≡ 0). inl (ap (λ (n : Number). n.value) b.2 ∙ z, b.1 ∙ ap decimal z ∙ zero_word))
      (λ (ne : b.0 ≡ 0 → ⊥). inr (record { variable = b.0; wanted = true }, b.1, b.2, (λ z. ne (sym (ap (λ (n : Number). n.value) b.2) ∙ z)))) (cases_eq b.0 0))
      (λ b. inr (record { variable = b.0; wanted = false }, b.1, b.3, (λ z. b.2 (sym (ap (λ (n : Number). n.value) b.3) ∙ z))))
      (numeral_back w n e)

  -- The word of a literal, which is no 0.
  pub signed-some : (w : List ℕ) (n : Number) → numeral_of w ≡ Some n → 1 ≤ n.value → (s : Signed) × (w ≡ signed_word s) × (n ≡ number_of s)
  signed-some w n e some = ⊎_elim (λ b. absurd (omega (arith, b.0))) (λ b. (b.0, b.1, b.2)) (signed_back w n e)

  pub zero_only : (w : List ℕ) (n : Number) → numeral_of w ≡ Some n → n.value ≡ 0 → w ≡ codes "0"
  zero_only w n e z = ⊎_elim (λ b. b.1) (λ b. absurd (b.3 z)) (signed_back w n e)

-- The first word of a rule, in two steps.
module _ (m : State) (n : Number) (p : ℕ) (line : m.mode ≡ mode.LineStart) (late : m.section ≡ Opening → ⊥) where
  pub first_step : step m (number n p) ≡ opened (open_rule m p) (number n p)
  first_step = grind (arith, nat_tests)

  -- Both readers do the same to the rest of the text.
  same_run : (ls : List Literal) (done : List (List Literal)) (rest : Tokens) → open_rule m p ≡ Ok (ruling m) → run (progress m ls done) (next (number n p) rest) ≡ run (progress (ruling m) ls done) (next (number n p) rest)
  unfolding run
  same_run ls done rest e = grind (arith, nat_tests)

  pub open_forth : (ls : List Literal) (done : List (List Literal)) (ts rest : Tokens) → ts ≡ next (number n p) rest → m.named ≡ m.length → m.read < m.rules → run (progress m ls done) ts ≡ run (progress (ruling m) ls done) ts
  open_forth ls done ts rest at named more =
      subst (λ (ts : Tokens). run (progress m ls done) ts ≡ run (progress (ruling m) ls done) ts) (sym at)
      (same_run ls done rest (cond-true _ _ _ (eq-eqb m.named m.length named) ∙ cond-true _ _ _ (lt-ltb m.read m.rules more)))

  abbrev pub Opens : Result State SheetFault → Type 0
  Opens (Ok u) = (m.named ≡ m.length) × (m.read < m.rules) × (ruling m ≡ u)
  Opens (Err f) = Unit {0}

  pub rule_opens : Opens (open_rule m p)
  rule_opens = grind (arith, nat_tests)

-- The first word of a rule is a number.
pub first_literal : (n : ℕ) (ss : List Signed) (ts rest : Tokens) → All (Known n) ss → n ≤ 24 → 1 ≤ length ss → WordsTo (map signed_word ss) ts rest → (x : Number) × (p : ℕ) × (after : Tokens) × (ts ≡ next (number x p) after)
first_literal n [] ts rest known short some l = absurd (omega arith)
first_literal n (s ∷ ss) ts rest known short some l =
    let here : Ranges n s.variable = All-head (Known n) s ss known in
    (number_of s, l.0, l.1, l.2 ∙ ap (λ w. next w l.1) (sort_signed s l.0 (omega (arith, here.1)) (λ z. omega (arith, here.0))))

pub first_number : (n : ℕ) (ss : List Signed) (ts rest : Tokens) → All (Known n) ss → n ≤ 24 → WordsTo (rule_line ss) ts rest → (x : Number) × (p : ℕ) × (after : Tokens) × (ts ≡ next (number x p) after)
first_number n [] ts rest known short l = (plain 0, l.0, l.1, l.2 ∙ ap (λ w. next w l.1) (sort_zero l.0))
first_number n (s ∷ ss) ts rest known short l =
    let split = words_split (map signed_word (s ∷ ss)) (codes "0" ∷ []) ts rest l in
    first_literal n (s ∷ ss) ts split.0 known short (omega arith) split.1
