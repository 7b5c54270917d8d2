-- How comments and the header line are read.
use Rattle.std.proofs.Common.{◌≡◌, ℕ, ◌≤◌, Bool, true, false, cond, eqb, ltb, List, [], ◌∷◌, replicate, Some, None, Ok, decimal, Option, Result, sym, refl, ap, ◌∙◌, subst, ⊎_elim, arith}
use Rattle.std.proofs.lemmas.List.{append-nil}
use Rattle.std.proofs.lemmas.Bool.Decides.{nat_tests}
use Rattle.std.proofs.lemmas.Bool.{cond-true, cond-false, cases_Bool, eqb-true, ltb-false}
use Rattle.sheet.specs.declared.form.Form.{Form}
use Rattle.sheet.specs.declared.form.Form.TheVariants.{Cnf, Dnf}
use Rattle.sheet.specs.declared.literal.Literal.{Literal}
use Rattle.sheet_text.specs.Grammar as grammar
use Rattle.sheet_text.specs.Machine.{start, in_mode, comment_word, form_word, with_form, length_word, with_length, rule_count_word, with_rules, header_end}
use Rattle.sheet_text.specs.Reading.{run}
use Rattle.sheet_text.specs.Wanted.{after, within, form_of, form_at}
use Rattle.sheet_text.specs.Words.{letters, number, line_end, sort_word, numeral_of}
use Rattle.sheet_text.specs.Cuts.{Tokens, next}
use Rattle.faults.specs.declared.sheet.SheetFault.{SheetFault}
use Rattle.faults.specs.declared.sheet.SheetFault.TheVariants as fault
use Rattle.sheet_text.specs.declared.state.Mode.TheVariants as mode
use Rattle.sheet_text.specs.declared.state.State.{State}
use Rattle.sheet_text.specs.declared.state.Section.TheVariants.{Opening, Quantifiers}
use Rattle.sheet_text.specs.declared.word.Number.{Number}
use Rattle.sheet_text.proofs.Lining.{Line, WordsTo, line_split}
use Rattle.sheet_text.proofs.Running.{progress}
use Rattle.sheet_text.proofs.Spelled.{none_some}
use Rattle.sheet_text.proofs.Steps.{err_ok}
use Rattle.sheet_text.proofs.Turning.{turn}
use Rattle.sheet_text.proofs.WordReads.{sort_cases, sort_decimal, sort_form, form_is}

-- A comment is passed over, whatever its words.
pub comment_word_lem : (m : State) (w : List ℕ) (p : ℕ) → comment_word m (sort_word w p) ≡ m
comment_word_lem m w p = grind (arith, nat_tests)

pub comment_words : (ws : List (List ℕ)) (ls : List Literal) (done : List (List Literal)) (ts rest : Tokens) → WordsTo ws ts rest → run (progress (in_mode mode.Comment start) ls done) ts ≡ run (progress (in_mode mode.Comment start) ls done) rest
comment_words [] ls done ts rest l = ap (run (progress (in_mode mode.Comment start) ls done)) l
comment_words (w ∷ ws) ls done ts rest l =
    let m = in_mode mode.Comment start in
    turn m ls done ts l.1 (sort_word w l.0) (Ok (comment_word m (sort_word w l.0))) l.2 refl m (ap Ok (comment_word_lem m w l.0)) ∙ comment_words ws ls done l.1 rest l.3

pub comment_line : (ws : List (List ℕ)) (ls : List Literal) (done : List (List Literal)) (ts rest : Tokens) → Line ws ts rest → run (progress (in_mode mode.Comment start) ls done) ts ≡ run (progress start ls done) rest
comment_line ws ls done ts rest l =
    let go = line_split ws [] ts rest (subst (λ (ws : List (List ℕ)). Line ws ts rest) (sym (append-nil ws)) l) in
    comment_words ws ls done ts go.0 go.1 ∙ turn (in_mode mode.Comment start) ls done go.0 rest (line_end go.2.0) (Ok start) go.2.1 refl start refl

-- The reader after the header.
abbrev pub headed : Form → ℕ → ℕ → State
headed f n r = record { section = Quantifiers; mode = mode.LineStart; form = f; length = n; rules = r; variables = replicate 24 None; named = 0; reports = 0; read = 0 }

-- Between the words of the header.
abbrev pub waiting : Form → State
waiting f = record { section = Opening; mode = mode.Length; form = f; length = 0; rules = 0; variables = replicate 24 None; named = 0; reports = 0; read = 0 }

length_word_lem : (m : State) (v p : ℕ) → 1 ≤ v → v ≤ 24 → length_word m (number (record { value = v; negative = false }) p) ≡ Ok (with_length m v)
length_word_lem m v p low high = grind (arith, nat_tests)

rules_word : (m : State) (v p : ℕ) → v ≤ 256 → rule_count_word m (number (record { value = v; negative = false }) p) ≡ Ok (with_rules m v)
rules_word m v p high = grind (arith, nat_tests)

-- The words after p are read where they are as they should be.
module _ (f : Form) (ls : List Literal) (done : List (List Literal)) (ts rest : Tokens) (p : ℕ) where
  pub form_forth : ts ≡ next (sort_word (grammar.form_word f) p) rest → run (progress (in_mode mode.Form start) ls done) ts ≡ run (progress (waiting f) ls done) rest
  form_forth is =
      turn (in_mode mode.Form start) ls done ts rest (letters (grammar.form_word f) p) (form_word (in_mode mode.Form start) (letters (grammar.form_word f) p)) (is ∙ ap (λ w. next w rest) (sort_form f p)) refl
      (waiting f) (ap (λ o. after (form_at p o) (λ f. Ok (with_form (in_mode mode.Form start) f))) (form_is f))

  pub positions_forth : (n : ℕ) → 1 ≤ n → n ≤ 24 → ts ≡ next (sort_word (decimal n) p) rest → run (progress (waiting f) ls done) ts ≡ run (progress (with_length (waiting f) n) ls done) rest
  positions_forth n low high is =
      turn (waiting f) ls done ts rest (sort_word (decimal n) p) (length_word (waiting f) (sort_word (decimal n) p)) is refl
      (with_length (waiting f) n) (ap (length_word (waiting f)) (sort_decimal n p (omega arith)) ∙ length_word_lem (waiting f) n p low high)

  pub count_forth : (n r : ℕ) → r ≤ 256 → ts ≡ next (sort_word (decimal r) p) rest → run (progress (with_length (waiting f) n) ls done) ts ≡ run (progress (with_rules (with_length (waiting f) n) r) ls done) rest
  count_forth n r few is =
      turn (with_length (waiting f) n) ls done ts rest (sort_word (decimal r) p) (rule_count_word (with_length (waiting f) n) (sort_word (decimal r) p)) is refl
      (with_rules (with_length (waiting f) n) r) (ap (rule_count_word (with_length (waiting f) n)) (sort_decimal r p (omega arith)) ∙ rules_word (with_length (waiting f) n) r p few)

pub header_forth : (f : Form) (n r : ℕ) (ls : List Literal) (done : List (List Literal)) (ts rest : Tokens) → 1 ≤ n → n ≤ 24 → r ≤ 256
    → Line (grammar.form_word f ∷ decimal n ∷ decimal r ∷ []) ts rest → run (progress (in_mode mode.Form start) ls done) ts ≡ run (progress (headed f n r) ls done) rest
header_forth f n r ls done ts rest low high few l =
    let l1 = l.3 in
    let l2 = l1.3 in
    let l3 = l2.3 in
    form_forth f ls done ts l.1 l.0 l.2 ∙ positions_forth f ls done l.1 l1.1 l1.0 n low high l1.2 ∙ count_forth f ls done l1.1 l2.1 l2.0 n r few l2.2
    ∙ turn (with_rules (with_length (waiting f) n) r) ls done l2.1 rest (line_end l3.0) (Ok (headed f n r)) l3.1 refl (headed f n r) refl

same_form : (f g : Form) → ◌≡◌ {A = Option Form} (Some f) (Some g) → f ≡ g
same_form f g e = cc e

form_back : (w : List ℕ) (f : Form) → form_of w ≡ Some f → w ≡ grammar.form_word f
form_back [] f e = absurd (none_some f e)
form_back (a ∷ []) f e = absurd (none_some f e)
form_back (a ∷ b ∷ []) f e = absurd (none_some f e)
form_back (a ∷ b ∷ c ∷ []) f e =
    let last : (x : Option Form) → cond (eqb b 110) (cond (eqb c 102) x None) None ≡ Some f → (b ≡ 110) × (c ≡ 102) × (x ≡ Some f) = λ x q. ends (eqb b 110) (eqb c 102) x q (eqb-true b 110) (eqb-true c 102) in
    let parts = last _ e in
    ⊎_elim
    (λ (t : eqb a 99 ≡ true). (λ i. eqb-true a 99 t i ∷ parts.0 i ∷ parts.1 i ∷ []) ∙ ap grammar.form_word (same_form Cnf f (sym (cond-true (eqb a 99) (Some Cnf) (cond (eqb a 100) (Some Dnf) None) t) ∙ parts.2)))
    (λ (n : eqb a 99 ≡ false). let rest = sym (cond-false (eqb a 99) (Some Cnf) (cond (eqb a 100) (Some Dnf) None) n) ∙ parts.2 in ⊎_elim
    (λ (t : eqb a 100 ≡ true). (λ i. eqb-true a 100 t i ∷ parts.0 i ∷ parts.1 i ∷ []) ∙ ap grammar.form_word (same_form Dnf f (sym (cond-true (eqb a 100) (Some Dnf) None t) ∙ rest)))
    (λ (m : eqb a 100 ≡ false). absurd (none_some f (sym (cond-false (eqb a 100) (Some Dnf) None m) ∙ rest)))
    (cases_Bool (eqb a 100)))
    (cases_Bool (eqb a 99))
  where
    ends : {B C : Type 0} (b c : Bool) (x : Option Form) → cond b (cond c x None) None ≡ Some f → (b ≡ true → B) → (c ≡ true → C) → B × C × (x ≡ Some f)
    ends true true x q y z = (y refl, z refl, q)
    ends true false x q y z = absurd (none_some f q)
    ends false c x q y z = absurd (none_some f q)
form_back (a ∷ b ∷ c ∷ d ∷ ds) f e = absurd (none_some f e)

-- A word that the form was read from.
pub form_word_back : (m u : State) (w : List ℕ) (p : ℕ) → form_word m (sort_word w p) ≡ Ok u → (f : Form) × (w ≡ grammar.form_word f) × (with_form m f ≡ u)
form_word_back m u w p e =
    ⊎_elim (λ (s : (n : Number) × (numeral_of w ≡ Some n) × (sort_word w p ≡ number n p)). absurd (err_ok (fault.Word p) u (sym (ap (form_word m) s.2) ∙ e)))
    (λ (s : (numeral_of w ≡ None) × (sort_word w p ≡ letters w p)). by (form_of w) refl (sym (ap (form_word m) s.1) ∙ e)) (sort_cases w p)
  where
    by : (o : Option Form) → form_of w ≡ o → after (form_at p (form_of w)) (λ f. Ok (with_form m f)) ≡ Ok u → (f : Form) × (w ≡ grammar.form_word f) × (with_form m f ≡ u)
    by (Some f) is q =
        let r : ◌≡◌ {A = Result State SheetFault} (Ok (with_form m f)) (Ok u) = sym (ap (λ o. after (form_at p o) (λ f. Ok (with_form m f))) is) ∙ q in
        (f, form_back w f is, (let same : with_form m f ≡ u = cc r in same))
    by None is q = absurd (err_ok (fault.Word p) u (sym (ap (λ o. after (form_at p o) (λ f. Ok (with_form m f))) is) ∙ q))

-- A number that was within limits, and what came of it.
within_back : (l h p v : ℕ) (go : ℕ → State) (u : State) → after (within l h p v) (λ v. Ok (go v)) ≡ Ok u → (l ≤ v) × (v ≤ h) × (go v ≡ u)
within_back l h p v go u e =
    ⊎_elim (λ (t : ltb v l ≡ true). absurd (err_ok (fault.Limit p) u (sym (ap next_is (cond-true _ _ _ t)) ∙ e)))
    (λ (n : ltb v l ≡ false). ⊎_elim
    (λ (t : ltb h v ≡ true). absurd (err_ok (fault.Limit p) u (sym (ap next_is (cond-false _ _ _ n ∙ cond-true _ _ _ t)) ∙ e)))
    (λ (k : ltb h v ≡ false).
    let q : ◌≡◌ {A = Result State SheetFault} (Ok (go v)) (Ok u) = sym (ap next_is (cond-false _ _ _ n ∙ cond-false _ _ _ k)) ∙ e in
    (ltb-false v l n, ltb-false h v k, (let same : go v ≡ u = cc q in same)))
    (cases_Bool (ltb h v)))
    (cases_Bool (ltb v l))
  where
    next_is : Result ℕ SheetFault → Result State SheetFault
    next_is o = after o (λ v. Ok (go v))

-- The words that a header's numbers were read from.
pub length_back : (m u : State) (v p : ℕ) → length_word m (number (record { value = v; negative = false }) p) ≡ Ok u → (1 ≤ v) × (v ≤ 24) × (with_length m v ≡ u)
length_back m u v p e = within_back 1 24 p v (with_length m) u e

pub rules_back : (m u : State) (v p : ℕ) → rule_count_word m (number (record { value = v; negative = false }) p) ≡ Ok u → (v ≤ 256) × (with_rules m v ≡ u)
rules_back m u v p e = grind (arith, nat_tests)

pub end_refuses : (m u : State) (w : List ℕ) (p : ℕ) → header_end m (sort_word w p) ≡ Ok u → ⊥
end_refuses m u w p e = grind (arith, nat_tests)
