-- What is wrong with a word is the fault that the reader finds there.
use Rattle.std.proofs.lemmas.Bool.Decides.{nat_tests}
use Rattle.std.proofs.Common.{◌≡◌, ℕ, zero, suc, ◌-◌, ◌<◌, ◌≤◌, true, false, eqb, leb, List, [], ◌∷◌, ◌++◌, map, length, get_or, is_some, None, Ok, Err, Result, sym, refl, ap, ◌∙◌, subst, ⊎_elim, arith}
use Rattle.std.specs.List.{list_any}
use Rattle.std.proofs.lemmas.Bool.{cond-true, cases_eq, cases_lt, eq-eqb, lt-ltb}
use Rattle.prefix.specs.declared.kind.Kind.{Kind}
use Rattle.prefix.specs.declared.kind.Kind.TheVariants.{Report, Reply}
use Rattle.sheet.specs.Literals.{lookup}
use Rattle.sheet.specs.declared.literal.Literal.{Literal}
use Rattle.sheet_text.specs.Grammar as grammar
use Rattle.sheet_text.specs.Grammar.{Variable, Signed, placed, position_in, one_more}
use Rattle.sheet_text.specs.Keeping.{Sound, Fits, position_at}
use Rattle.sheet_text.specs.Machine.{start, nothing, opened, open_in, open_rule, literal_of, literal_number, literal_word, variable_number, variable_word, report_too_many, step, start_word, in_mode, with_length, with_rules, with_form, form_word, length_word, rule_count_word, header_end, line_over}
use Rattle.sheet_text.specs.FirstWords.{first_word}
use Rattle.sheet_text.specs.Reading.{Progress, given}
use Rattle.sheet_text.specs.Grammar.{Header}
use Rattle.sheet_text.specs.Beginnings.{Awaited, opening, comment, form, variable_count, rule_count, line, variable, literal, over}
use Rattle.sheet_text.specs.Refusing.{reports_full, wrong_opening, wrong_variable, wrong_literal, wrong_rule, wrong_line, wrong}
use Rattle.sheet_text.specs.Wanted.{after, number_in, natural_in, natural_within, end_in, form_in}
use Rattle.sheet_text.specs.Words.{Token, letters, number, line_end, place_of}
use Rattle.faults.specs.declared.sheet.SheetFault.{SheetFault}
use Rattle.sheet_text.specs.declared.state.Mode.{Mode}
use Rattle.sheet_text.specs.declared.state.Mode.TheVariants as mode
use Rattle.sheet_text.specs.declared.state.State.{State}
use Rattle.sheet_text.specs.declared.state.Section.TheVariants.{Opening}
use Rattle.sheet_text.specs.declared.first.First.{First}
use Rattle.sheet_text.specs.declared.first.First.TheVariants as first
use Rattle.sheet_text.specs.declared.word.Number.{Number}
use Rattle.sheet_text.proofs.Awaiting.{section_of, not_opening_then, some_in, Late, Reflects}
use Rattle.sheet_text.proofs.Given.{in_range, some_place}
use Rattle.sheet_text.proofs.HeaderReads.{waiting, headed}
use Rattle.sheet_text.proofs.LineReads.{sound_rule, knows_rule}
use Rattle.sheet_text.proofs.Naming.{Knows, knows_reports, position_after}
use Rattle.sheet_text.proofs.RuleReads.{ruling}
use Rattle.sheet_text.proofs.Running.{progress}
use Rattle.sheet_text.proofs.Turning.{step_in_lem}

-- Whether there is a value or a fault, without the value.
abbrev pub forget : {A : Type 0} → Result A SheetFault → Result (Unit {0}) SheetFault
forget (Ok x) = Ok tt
forget (Err f) = Err f

-- What a word does that gives nothing besides.
quiet : (s : Progress) (o : Result State SheetFault) → forget o ≡ forget (given s (nothing o))
quiet s (Ok m) = refl
quiet s (Err f) = refl

-- What is wanted of a word decides what is wrong with it.
only_wanted : {A : Type 0} (o : Result A SheetFault) (go : A → State) → after o (λ _. Ok tt) ≡ forget (after o (λ x. Ok (go x)))
only_wanted (Ok x) go = refl
only_wanted (Err f) go = refl

end-wanted : (w : Token) (m : State) → end_in w ≡ forget (after (end_in w) (λ _. Ok m))
end-wanted (letters t p) m = refl
end-wanted (number n p) m = refl
end-wanted (line_end p) m = refl

forget_after : {A B : Type 0} (o : Result A SheetFault) (go : A → Result B SheetFault) (on : A → Result (Unit {0}) SheetFault) → ((x : A) → on x ≡ forget (go x)) → after o on ≡ forget (after o go)
forget_after (Ok x) go on h = h x
forget_after (Err f) go on h = refl

-- A line before the header.
opened_opening : (s : Progress) (f : First) (p : ℕ) (w : Token) → wrong_opening f p ≡ forget (given s (opened (open_in Opening start f p) w))
opened_opening s first.Comment p w = refl
opened_opening s first.Header p w = refl
opened_opening s (first.Quantifier k) p w = refl
opened_opening s first.Number p w = refl
opened_opening s first.Letters p w = refl
opened_opening s first.Other p w = refl

agree_opening : (s : Progress) (w : Token) → wrong opening w ≡ forget (given s (start_word start w))
agree_opening s (letters t p) = opened_opening s (first_word t) p (letters t p)
agree_opening s (number n p) = refl
agree_opening s (line_end p) = refl

-- Variables at one position are the same.
more_than_one : (k : ℕ) → one_more k ≡ 1 → ⊥
more_than_one zero e = omega arith
more_than_one (suc k) e = omega arith

same_one_more : (j k : ℕ) → (one_more j ≡ 0 → ⊥) → one_more j ≡ one_more k → (j ≡ 0 → ⊥) × (j ≡ k)
same_one_more zero k some e = absurd (some refl)
same_one_more (suc j) zero some e = absurd (omega arith)
same_one_more (suc j) (suc k) some e = ((λ z. omega arith), omega arith)

same_position : (qs : List Variable) (v u : ℕ) → (position_in qs v ≡ 0 → ⊥) → position_in qs v ≡ position_in qs u → v ≡ u
same_position [] v u some e = absurd (some refl)
same_position (q ∷ qs) v u some e =
    let first = position_first q qs in
    let later = position_after q qs in
    ⊎_elim
    (λ (t : v ≡ q.name). ⊎_elim (λ (y : u ≡ q.name). t ∙ sym y)
    (λ (n : u ≡ q.name → ⊥). absurd (more_than_one (position_in qs u) (sym (later u n) ∙ sym e ∙ first v t))) (cases_eq u q.name))
    (λ (n : v ≡ q.name → ⊥). ⊎_elim (λ (y : u ≡ q.name). absurd (more_than_one (position_in qs v) (sym (later v n) ∙ e ∙ first u y)))
    (λ (m : u ≡ q.name → ⊥).
    let same = same_one_more (position_in qs v) (position_in qs u) (λ z. some (later v n ∙ z)) (sym (later v n) ∙ e ∙ later u m) in
    same_position qs v u same.0 same.1) (cases_eq u q.name))
    (cases_eq v q.name)
  where
    position_first : (q : Variable) (qs : List Variable) (x : ℕ) → x ≡ q.name → position_in (q ∷ qs) x ≡ 1
    position_first q qs x e = cond-true (eqb x q.name) 1 (one_more (position_in qs x)) (eq-eqb x q.name e)

-- A rule names a variable where it has a literal at its position.
named_in_rule : (qs : List Variable) (v : ℕ) (ss : List Signed) → (position_in qs v ≡ 0 → ⊥) → list_any (λ l. eqb v l.variable) ss ≡ is_some (lookup (map (placed qs) ss) (position_in qs v))
named_in_rule qs v [] some = refl
named_in_rule qs v (s ∷ ss) some =
    ⊎_elim
    (λ (t : v ≡ s.variable). grind (arith, nat_tests))
    (λ (n : v ≡ s.variable → ⊥).
    let other : position_in qs v ≡ position_in qs s.variable → ⊥ = λ e. n (same_position qs v s.variable some e) in
    let more = named_in_rule qs v ss some in
    grind (arith, nat_tests))
    (cases_eq v s.variable)

-- A literal.
agree_literal : (m : State) (qs : List Variable) (ss : List Signed) (ls : List Literal) (done : List (List Literal)) (len p : ℕ) (n : Number) → Sound m → Fits mode.Literals m → Knows m qs → m.length ≡ len → ls ≡ map (placed qs) ss
    → wrong_literal len ss p n ≡ forget (given (progress m ls done) (literal_number m n p))
agree_literal m qs ss ls done len p n s f h long made =
    ⊎_elim (λ (z : n.value ≡ 0). grind (arith, nat_tests))
    (λ (some : n.value ≡ 0 → ⊥). ⊎_elim
    (λ (far : m.length < n.value). grind (arith, nat_tests))
    (λ (le : n.value ≤ m.length).
    let at : (literal_of m n).position ≡ position_in qs n.value = h.positions (n.value - 1) ∙ ap (position_in qs) (let e : suc (n.value - 1) ≡ n.value = omega arith in e) in
    let range = in_range m n s f some le in
    let named : list_any (λ l. eqb n.value l.variable) ss ≡ is_some (lookup ls (literal_of m n).position) =
    named_in_rule qs n.value ss (λ z. omega (arith, range.0)) ∙ (λ i. is_some (lookup (sym made i) (sym at i))) in
    grind (arith, nat_tests))
    (cases_lt m.length n.value))
    (cases_eq n.value 0)

-- A word of a rule.
agree_word : (m : State) (qs : List Variable) (ss : List Signed) (ls : List Literal) (done : List (List Literal)) (len : ℕ) (w : Token) → Sound m → Fits mode.Literals m → Knows m qs → m.length ≡ len → ls ≡ map (placed qs) ss
    → after (number_in w) (wrong_literal len ss (place_of w)) ≡ forget (given (progress m ls done) (literal_word m w))
agree_word m qs ss ls done len (letters t p) s f k e made = refl
agree_word m qs ss ls done len (number n p) s f k e made = agree_literal m qs ss ls done len p n s f k e made
agree_word m qs ss ls done len (line_end p) s f k e made = refl

-- A variable of a quantifier line.
agree_variable : (m : State) (qs : List Variable) (k : Kind) (vs : List ℕ) (len p v : ℕ) → Sound m → Knows m qs → m.length ≡ len
    → wrong_variable len qs k vs p v ≡ forget (variable_number m k (some_in vs) v p)
agree_variable m qs k [] len p zero s h long = refl
agree_variable m qs k (x ∷ vs) len p zero s h long = grind (arith, nat_tests)
agree_variable m qs k vs len p (suc i) s h long =
    let full : reports_full qs k ≡ report_too_many m.reports k = reports_agree k in
    let at : position_at m i ≡ position_in qs (suc i) = h.positions i in
    ⊎_elim
    (λ (z : position_in qs (suc i) ≡ 0).
    let free : is_some (get_or m.variables i None) ≡ false = s.known i (at ∙ z) in
    grind (arith, nat_tests))
    (λ (some : position_in qs (suc i) ≡ 0 → ⊥).
    let taken : is_some (get_or m.variables i None) ≡ true = some_place (get_or m.variables i None) (omega (arith, at)) in
    grind (arith, nat_tests))
    (cases_eq (position_in qs (suc i)) 0)
  where
    reports_agree : (k : Kind) → reports_full qs k ≡ report_too_many m.reports k
    reports_agree Report = ap (leb 12) (sym (knows_reports m qs h))
    reports_agree Reply = refl

-- The first word of a line after the header, where a rule's is right.
agree_first : (s : Progress) (m : State) (h : Header) (qs : List Variable) (count : ℕ) (f : First) (w : Token) → wrong_rule h qs count w ≡ forget (given s (opened (open_rule m (place_of w)) w))
    → wrong_line h qs count f w ≡ forget (given s (opened (open_in (section_of count) m f (place_of w)) w))
agree_first s m h qs zero first.Number w rule = rule
agree_first s m h qs (suc n) first.Number w rule = rule
agree_first s m h qs zero first.Comment w rule = refl
agree_first s m h qs zero first.Header w rule = refl
agree_first s m h qs zero (first.Quantifier k) w rule = refl
agree_first s m h qs zero first.Letters w rule = refl
agree_first s m h qs zero first.Other w rule = refl
agree_first s m h qs (suc n) first.Comment w rule = refl
agree_first s m h qs (suc n) first.Header w rule = refl
agree_first s m h qs (suc n) (first.Quantifier k) w rule = grind (arith, nat_tests)
agree_first s m h qs (suc n) first.Letters w rule = refl
agree_first s m h qs (suc n) first.Other w rule = refl

-- A reader before its first rule, or a further one.
module _ (m : State) (h : Header) (qs : List Variable) (rs : List (List Signed)) (l : Late m h qs (length rs)) (at : m.mode ≡ mode.LineStart) (late : m.section ≡ section_of (length rs)) where
  -- A rule's first word.
  agree_rule : (done : List (List Literal)) (w : Token) → wrong_rule h qs (length rs) w ≡ forget (given (progress m [] done) (opened (open_rule m (place_of w)) w))
  agree_rule done w =
      let s = progress m [] done in
      ⊎_elim
      (λ (n : m.named ≡ m.length). ⊎_elim
      (λ (more : m.read < m.rules).
      let opens : open_rule m (place_of w) ≡ Ok (ruling m) = cond-true _ _ _ (eq-eqb m.named m.length n) ∙ cond-true _ _ _ (lt-ltb m.read m.rules more) in
      let sound = sound_rule m (record { value = 0; negative = false }) 0 l.sound at (not_opening_then (length rs) late) n more in
      cond-true _ _ _ (eq-eqb (length qs) h.length (sym l.knows.count ∙ n ∙ l.length))
      ∙ cond-true _ _ _ (lt-ltb (length rs) h.rules (omega (arith, l.read, l.rules)))
      ∙ agree_word (ruling m) qs [] [] done h.length w sound (refl, n, more) (knows_rule m qs l.knows) l.length refl
      ∙ ap (λ o. forget (given s (opened o w))) (sym opens))
      (λ (none : m.rules ≤ m.read). grind (arith, nat_tests, l.read, l.rules, l.length, l.knows.count))
      (cases_lt m.read m.rules))
      (λ (n : m.named ≡ m.length → ⊥). grind (arith, nat_tests, l.read, l.rules, l.length, l.knows.count))
      (cases_eq m.named m.length)

  started : (done : List (List Literal)) (w : Token) → wrong (line h qs rs) w ≡ forget (given (progress m [] done) (start_word m w))
  started done (letters t p) =
      agree_first (progress m [] done) m h qs (length rs) (first_word t) (letters t p) (agree_rule done (letters t p))
      ∙ ap (λ x. forget (given (progress m [] done) (opened (open_in x m (first_word t) p) (letters t p)))) (sym late)
  started done (number n p) =
      agree_first (progress m [] done) m h qs (length rs) first.Number (number n p) (agree_rule done (number n p))
      ∙ ap (λ x. forget (given (progress m [] done) (opened (open_in x m first.Number p) (number n p)))) (sym late)
  started done (line_end p) = refl

  agree_line : (done : List (List Literal)) (w : Token) → wrong (line h qs rs) w ≡ forget (given (progress m [] done) (step m w))
  agree_line done w = started done w ∙ ap (λ o. forget (given (progress m [] done) o)) (sym (step_in_lem m mode.LineStart w at))

-- What is wrong with a word is the fault that it has for a reader that waits so.
pub agree : (a : Awaited) (m : State) (ls : List Literal) (done : List (List Literal)) (w : Token) → Reflects m ls done a → wrong a w ≡ forget (given (progress m ls done) (step m w))
agree opening m ls done w r = subst (λ (m : State). wrong opening w ≡ forget (given (progress m ls done) (step m w))) (sym r.0) (agree_opening (progress start ls done) w)
agree comment m ls done w r = subst (λ (m : State). wrong comment w ≡ forget (given (progress m ls done) (step m w))) (sym r.0) refl
agree form m ls done w r =
    subst (λ (m : State). wrong form w ≡ forget (given (progress m ls done) (step m w))) (sym r.0)
    (let m = in_mode mode.Form start in only_wanted (form_in w) (with_form m) ∙ quiet (progress m ls done) (form_word m w))
agree (variable_count f) m ls done w r =
    subst (λ (m : State). wrong (variable_count f) w ≡ forget (given (progress m ls done) (step m w))) (sym r.0)
    (only_wanted (natural_within 1 24 w) (with_length (waiting f)) ∙ quiet (progress (waiting f) ls done) (length_word (waiting f) w))
agree (rule_count f n) m ls done w r =
    subst (λ (m : State). wrong (rule_count f n) w ≡ forget (given (progress m ls done) (step m w))) (sym r.0)
    (let m = with_length (waiting f) n in only_wanted (natural_within 0 256 w) (with_rules m) ∙ quiet (progress m ls done) (rule_count_word m w))
agree (line h qs rs) m ls done w r = subst (λ (ls : List Literal). wrong (line h qs rs) w ≡ forget (given (progress m ls done) (step m w))) (sym r.3) (agree_line m h qs rs r.2 r.0 r.1 done w)
agree (variable h qs k vs) m ls done w r =
    let l = r.2 in
    forget_after (natural_in w) (λ v. variable_number m k (some_in vs) v (place_of w)) (wrong_variable h.length (qs ++ map (grammar.variable k) vs) k vs (place_of w))
    (λ v. agree_variable m (qs ++ map (grammar.variable k) vs) k vs h.length (place_of w) v l.sound l.knows l.length)
    ∙ quiet (progress m ls done) (variable_word m k (some_in vs) w) ∙ ap (λ o. forget (given (progress m ls done) o)) (sym (step_in_lem m (mode.Variables k (some_in vs)) w r.0))
agree (literal h qs rs ss) m ls done w r =
    let l = r.2 in
    agree_word m qs ss ls done h.length w l.sound (subst (λ (o : Mode). Fits o m) r.0 l.sound.mode) l.knows l.length r.3
    ∙ ap (λ o. forget (given (progress m ls done) o)) (sym (step_in_lem m mode.Literals w r.0))
agree (over h qs rs) m ls done w r =
    ⊎_elim
    (λ (o : (m.mode ≡ mode.LineEnd) × (m.section ≡ section_of (length rs)) × Late m h qs (length rs)).
    end-wanted w (in_mode mode.LineStart m) ∙ quiet (progress m ls done) (line_over m w) ∙ ap (λ o. forget (given (progress m ls done) o)) (sym (step_in_lem m mode.LineEnd w o.0)))
    (λ (o : (m ≡ with_rules (with_length (waiting h.form) h.length) h.rules) × (qs ≡ []) × (rs ≡ [])).
    subst (λ (m : State). end_in w ≡ forget (given (progress m ls done) (step m w))) (sym o.0)
    (let m = with_rules (with_length (waiting h.form) h.length) h.rules in end-wanted w (headed h.form h.length h.rules) ∙ quiet (progress m ls done) (header_end m w)))
    r.0
