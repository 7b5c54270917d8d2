-- What is wanted after a word that is right.
use Rattle.std.proofs.lemmas.Bool.Decides.{nat_tests}
use Rattle.std.proofs.Common.{All, ◌≡◌, ℕ, suc, ◌+◌, ◌-◌, ◌<◌, ◌≤◌, true, false, List, [], ◌∷◌, ◌++◌, map, length, Some, None, Ok, Err, codes, decimal, Option, Result, sym, refl, ap, ◌∙◌, subst, inl, inr, ⊎_elim, arith}
use Rattle.std.proofs.lemmas.Bool.{false≢true}
use Rattle.std.proofs.lemmas.List.{append_assoc, append-nil, map_push, length_push}
use Rattle.std.proofs.lemmas.List.Elements.{All-nil, All-push}
use Rattle.prefix.specs.Kinds.{report_count}
use Rattle.prefix.specs.declared.kind.Kind.{Kind}
use Rattle.sheet.proofs.Collected.{distinct_push}
use Rattle.sheet.specs.Literals.{InRange, Distinct, lookup}
use Rattle.sheet.specs.declared.form.Form.{Form}
use Rattle.sheet.specs.declared.literal.Literal.{Literal}
use Rattle.sheet_text.specs.Grammar as grammar
use Rattle.sheet_text.specs.Grammar.{Comment, non_empty, Variable, Signed, signed_word, placed, Ranges, kind_word}
use Rattle.sheet_text.specs.Keeping.{Sound, Fits, position_at}
use Rattle.sheet_text.specs.Machine.{start, nothing, opened, open_in, open_rule, literal_of, literal_number, literal_word, ruled, variable_word, report_too_many, naming, step, start_word, in_mode, with_length, with_rules, form_word, length_word, rule_count_word, header_end, line_over}
use Rattle.sheet_text.specs.FirstWords.{first_word}
use Rattle.sheet_text.specs.Reading.{Progress, given, collected}
use Rattle.sheet_text.specs.Grammar.{Header, Quantified, Ruled, Begun}
use Rattle.sheet_text.specs.Beginnings.{Awaited, opening, comment, form, variable_count, rule_count, line, variable, literal, over, Awaits}
use Rattle.sheet_text.specs.Words.{Token, letters, number, line_end, place_of, sort_word, numeral_of}
use Rattle.faults.specs.declared.sheet.SheetFault.{SheetFault}
use Rattle.faults.specs.declared.sheet.SheetFault.TheVariants as fault
use Rattle.sheet_text.specs.declared.state.Mode.{Mode}
use Rattle.sheet_text.specs.declared.state.Mode.TheVariants as mode
use Rattle.sheet_text.specs.declared.state.State.{State}
use Rattle.sheet_text.specs.declared.state.Section.{Section}
use Rattle.sheet_text.specs.declared.state.Section.TheVariants.{Opening, Quantifiers, Rules}
use Rattle.sheet_text.specs.declared.taken.Taken.{Taken}
use Rattle.sheet_text.specs.declared.taken.Taken.TheVariants as taken
use Rattle.sheet_text.specs.declared.word.Number.{Number}
use Rattle.sheet_text.proofs.Awaiting.{section_of, not_opening_then, some_in, Late, Over, placed_rules, Reflects}
use Rattle.sheet_text.proofs.Beginnings.{begun_header, begun_variables, begun_rule}
use Rattle.sheet_text.proofs.Given.{in_range}
use Rattle.sheet_text.proofs.HeaderReads.{waiting, headed, comment_word_lem, form_word_back, length_back, rules_back, end_refuses}
use Rattle.sheet_text.proofs.LineReads.{letters_quantify, no_letters, sound_rule, knows_rule}
use Rattle.sheet_text.proofs.Naming.{Knows, knows_mode, knows_ruled, knows_more}
use Rattle.sheet_text.proofs.RuleReads as rule
use Rattle.sheet_text.proofs.RuleReads.{ruling, number_did, signed-some, zero_only, first_step, rule_opens, Opens, literal_placed}
use Rattle.sheet_text.proofs.Running.{progress}
use Rattle.sheet_text.proofs.Steps.{err_ok, step_sound}
use Rattle.sheet_text.proofs.OpeningReads.{letters_open, headed_ready}
use Rattle.sheet_text.proofs.Turning.{step_in_lem}
use Rattle.sheet_text.proofs.VariableReads.{over_refuses, variable_back, kinds_in, room_report}
use Rattle.sheet_text.proofs.WordReads.{sort_cases, plain_word, zero_word, wanted_back, natural_back}

-- Something is wanted after these lines and words, and the reader waits for it.
abbrev pub Onward : List (List (List ℕ)) → List (List ℕ) → Progress → Type 0
Onward lines words u = (a : Awaited) × Awaits lines words a × Reflects u.reader u.literals u.rules a

-- What a word did that gives nothing besides.
nothing_back : (m : State) (ls : List Literal) (done : List (List Literal)) (x : Result State SheetFault) (u : Progress) → given (progress m ls done) (nothing x) ≡ Ok u → (n : State) × (x ≡ Ok n) × (progress n ls done ≡ u)
nothing_back m ls done (Ok n) u e = (n, refl, (let same : progress n ls done ≡ u = cc e in same))
nothing_back m ls done (Err f) u e = absurd (err_ok f u e)

-- What a word leaves is sound.
collected_reader : (s : Progress) (m : State) (x : Option Taken) (u : Progress) → collected s m x ≡ Ok u → m ≡ u.reader
collected_reader s m None u e = grind (arith, nat_tests)
collected_reader s m (Some x) u e = grind (arith, nat_tests)

sound_after : (m : State) (ls : List Literal) (done : List (List Literal)) (w : Token) (u : Progress) → Sound m → given (progress m ls done) (step m w) ≡ Ok u → Sound u.reader
sound_after m ls done w u s e = by (step m w) refl e
  where
    by : (o : Result (State × Option Taken) SheetFault) → step m w ≡ o → given (progress m ls done) o ≡ Ok u → Sound u.reader
    by (Ok p) is q = subst Sound (collected_reader (progress m ls done) p.0 p.1 u q) (step_sound m w p.0 p.1 s is)
    by (Err f) is q = absurd (err_ok f u q)

-- The words before the quantifier lines.
module _ (lines : List (List (List ℕ))) (ls : List Literal) (done : List (List Literal)) (w : List ℕ) (p : ℕ) (u : Progress) (comments : All Comment lines) (none : ls ≡ []) (no_rules : done ≡ []) where
  after_opening : given (progress start ls done) (step start (sort_word w p)) ≡ Ok u → Onward lines (w ∷ []) u
  after_opening e =
      ⊎_elim
      (λ (n : (n : Number) × (numeral_of w ≡ Some n) × (sort_word w p ≡ number n p)). absurd (err_ok (fault.Word p) u (sym (ap (λ t. given (progress start ls done) (step start t)) n.2) ∙ e)))
      (λ (n : (numeral_of w ≡ None) × (sort_word w p ≡ letters w p)).
      ⊎_elim
      (λ (c : (w ≡ codes "c") × (progress (in_mode mode.Comment start) ls done ≡ u)).
      (comment, (comments, ([], ap (λ (w : List ℕ). w ∷ []) c.0)), (sym (ap (λ (v : Progress). v.reader) c.1), sym (ap (λ (v : Progress). v.literals) c.1) ∙ none, sym (ap (λ (v : Progress). v.rules) c.1) ∙ no_rules)))
      (λ (c : (w ≡ codes "p") × (progress (in_mode mode.Form start) ls done ≡ u)).
      (form, (comments, ap (λ (w : List ℕ). w ∷ []) c.0), (sym (ap (λ (v : Progress). v.reader) c.1), sym (ap (λ (v : Progress). v.literals) c.1) ∙ none, sym (ap (λ (v : Progress). v.rules) c.1) ∙ no_rules)))
      (letters_open ls done u w p (sym (ap (λ t. given (progress start ls done) (step start t)) n.1) ∙ e)))
      (sort_cases w p)

  after_form : (words : List (List ℕ)) → words ≡ codes "p" ∷ [] → given (progress (in_mode mode.Form start) ls done) (step (in_mode mode.Form start) (sort_word w p)) ≡ Ok u → Onward lines (words ++ w ∷ []) u
  after_form words is e =
      let m = in_mode mode.Form start in
      let b = nothing_back m ls done (form_word m (sort_word w p)) u e in
      let f = form_word_back m b.0 w p b.1 in
      (variable_count f.0, (comments, (λ i. is i ++ f.1 i ∷ [])), (sym (f.2 ∙ ap (λ (v : Progress). v.reader) b.2), sym (ap (λ (v : Progress). v.literals) b.2) ∙ none, sym (ap (λ (v : Progress). v.rules) b.2) ∙ no_rules))

  after_positions : (words : List (List ℕ)) (f : Form) → words ≡ codes "p" ∷ grammar.form_word f ∷ [] → given (progress (waiting f) ls done) (step (waiting f) (sort_word w p)) ≡ Ok u → Onward lines (words ++ w ∷ []) u
  after_positions words f is e =
      let m = waiting f in
      let b = nothing_back m ls done (length_word m (sort_word w p)) u e in
      let came = wanted_back _ _ b.0 b.1 in
      let v = natural_back (sort_word w p) _ came.0 came.1 in
      let took = length_back m b.0 v.0 v.1 (sym (ap (length_word m) v.2) ∙ b.1) in
      (rule_count f v.0, (comments, (took.0, took.1), (λ i. is i ++ plain_word w p v.0 v.1 v.2 i ∷ [])), (sym (took.2 ∙ ap (λ (v : Progress). v.reader) b.2), sym (ap (λ (v : Progress). v.literals) b.2) ∙ none, sym (ap (λ (v : Progress). v.rules) b.2) ∙ no_rules))

  after_rules : (words : List (List ℕ)) (f : Form) (n : ℕ) → Ranges 24 n → words ≡ codes "p" ∷ grammar.form_word f ∷ decimal n ∷ [] → given (progress (with_length (waiting f) n) ls done) (step (with_length (waiting f) n) (sort_word w p)) ≡ Ok u
      → Onward lines (words ++ w ∷ []) u
  after_rules words f n range is e =
      let m = with_length (waiting f) n in
      let b = nothing_back m ls done (rule_count_word m (sort_word w p)) u e in
      let came = wanted_back _ _ b.0 b.1 in
      let v = natural_back (sort_word w p) _ came.0 came.1 in
      let took = rules_back m b.0 v.0 v.1 (sym (ap (rule_count_word m) v.2) ∙ b.1) in
      let h : Header = record { form = f; length = n; rules = v.0 } in
      let now : Over u.reader h [] [] = inr (sym (took.1 ∙ ap (λ (v : Progress). v.reader) b.2), refl, refl) in (
        over h [] [],
        (begun_header lines (words ++ w ∷ []) f n v.0 comments range took.0 (λ i. is i ++ plain_word w p v.0 v.1 v.2 i ∷ []), omega (arith, length_push words w)),
        (now, sym (ap (λ (v : Progress). v.literals) b.2) ∙ none, sym (ap (λ (v : Progress). v.rules) b.2) ∙ no_rules),
      )

-- Of what is read, only the rules and the literals say what a word gives.
given_same : (m n : State) (ls : List Literal) (done : List (List Literal)) (o : Result (State × Option Taken) SheetFault) → given (progress m ls done) o ≡ given (progress n ls done) o
given_same m n ls done (Ok p) = by p.1
  where
    by : (x : Option Taken) → collected (progress m ls done) p.0 x ≡ collected (progress n ls done) p.0 x
    by None = refl
    by (Some (taken.Literal l p)) = refl
    by (Some taken.Rule) = refl
given_same m n ls done (Err f) = refl

-- A number that begins a rule.
rule_started : (m : State) (done : List (List Literal)) (n : Number) (p : ℕ) (u : Progress) → m.mode ≡ mode.LineStart → (m.section ≡ Opening → ⊥) → given (progress m [] done) (step m (number n p)) ≡ Ok u
    → (m.named ≡ m.length) × (m.read < m.rules) × (given (progress (ruling m) [] done) (literal_number (ruling m) n p) ≡ Ok u)
rule_started m done n p u at late e = by (open_rule m p) (rule_opens m n p at late) (sym (ap (λ o. given (progress m [] done) o) (first_step m n p at late)) ∙ e)
  where
    by : (o : Result State SheetFault) → Opens m n p at late o → given (progress m [] done) (opened o (number n p)) ≡ Ok u
        → (m.named ≡ m.length) × (m.read < m.rules) × (given (progress (ruling m) [] done) (literal_number (ruling m) n p) ≡ Ok u)
    by (Ok x) did q = (did.0, did.1, given_same (ruling m) m [] done (literal_number (ruling m) n p) ∙ ap (λ (x : State). given (progress m [] done) (opened (Ok x) (number n p))) did.2 ∙ q)
    by (Err f) did q = absurd (err_ok f u q)

-- A reader after the header, by the one that it is equal to.
late_at : (h : Header) (qs : List Variable) (count : ℕ) (m u : State) → m ≡ u → Sound u → Knows m qs → m.form ≡ h.form → m.length ≡ h.length → m.rules ≡ h.rules → m.read ≡ count → Late u h qs count
late_at h qs count m u same sound knows form-is length-is rules-is read-is =
    subst (λ (m : State). Late m h qs count) same (record { sound = subst Sound (sym same) sound; knows = knows; form = form-is; length = length-is; rules = rules-is; read = read-is })

-- The words after the header.
module _ (lines : List (List (List ℕ))) (words : List (List ℕ)) (h : Header) (qs : List Variable) (w : List ℕ) (p : ℕ) (u : Progress) (sound : Sound u.reader) where
  -- A number in a rule.
  after_number : (m : State) (rs : List (List Signed)) (ss : List Signed) (ls : List Literal) (done : List (List Literal)) (n : Number) → Late m h qs (length rs) → m.mode ≡ mode.Literals → Begun lines h qs rs → Ruled h.length qs ss
      → words ≡ map signed_word ss → ls ≡ map (placed qs) ss → done ≡ placed_rules qs rs → numeral_of w ≡ Some n → given (progress m ls done) (literal_number m n p) ≡ Ok u → Onward lines (words ++ w ∷ []) u
  after_number m rs ss ls done n l at begun good is made before num e =
      let f = subst (λ (o : Mode). Fits o m) at l.sound.mode in
      let named : length qs ≡ h.length = sym l.knows.count ∙ f.1 ∙ l.length in
      let more : length rs < h.rules = omega (arith, f.2, l.read, l.rules) in
      ⊎_elim
      (λ (o : (n.value ≡ 0) × (progress (ruled m) [] (done ++ ls ∷ []) ≡ u)).
      let same : ruled m ≡ u.reader = ap (λ (v : Progress). v.reader) o.1 in
      let rs' = rs ++ ss ∷ [] in
      let many : length rs' ≡ suc (length rs) = omega (arith, length_push rs ss) in
      let late = late_at h qs (length rs') _ u.reader same sound (knows_ruled m qs l.knows) l.form l.length l.rules (let z : m.read + 1 ≡ length rs' = omega (arith, l.read, many) in z) in
      let now : Over u.reader h qs rs' = inl (ap (λ (m : State). m.mode) (sym same), ap (λ (m : State). m.section) (sym same) ∙ f.0 ∙ ap section_of (sym many), late) in
      let zero_is : w ≡ codes "0" = zero_only qs done w n num o.0 in (
        over h qs rs',
        (begun_rule lines (words ++ w ∷ []) h qs rs ss begun named more good (λ i. is i ++ zero_is i ∷ []), omega (arith, length_push words w)),
        (now, ap (λ (v : Progress). v.literals) (sym o.1), ap (λ (v : Progress). v.rules) (sym o.1) ∙ (λ i. before i ++ made i ∷ []) ∙ sym (map_push (map (placed qs)) rs ss)),
      ))
      (λ (o : Ranges m.length n.value × (lookup ls (literal_of m n).position ≡ None) × (progress m (ls ++ literal_of m n ∷ []) done ≡ u)).
      let sg = signed-some qs done w n num o.0.0 in
      let known : Ranges m.length sg.0.variable = subst (Ranges m.length) (ap (λ (n : Number). n.value) sg.2) o.0 in
      let lit : literal_of m n ≡ placed qs sg.0 = ap (literal_of m) sg.2 ∙ literal_placed m qs sg.0 l.knows known.0 in
      let range : InRange (placed qs sg.0) = subst InRange lit (in_range m n l.sound f (λ z. omega (arith, o.0.0)) o.0.1) in
      let free : lookup (map (placed qs) ss) (placed qs sg.0).position ≡ None = (λ i. lookup (sym made i) (sym lit i).position) ∙ o.1 in
      let same : m ≡ u.reader = ap (λ (v : Progress). v.reader) o.2 in
      let all = sym (map_push (placed qs) ss sg.0) in
      let ruled_too : Ruled h.length qs (ss ++ sg.0 ∷ []) = record {
        known = All-push (λ (l : Signed). Ranges h.length l.variable) ss sg.0 good.known (subst (λ (n : ℕ). Ranges n sg.0.variable) l.length known);
        distinct = subst Distinct all (distinct_push (placed qs sg.0) (map (placed qs) ss) good.distinct range free);
      } in (
        literal h qs rs (ss ++ sg.0 ∷ []),
        (begun, named, more, ruled_too, omega (arith, length_push ss sg.0), (λ i. is i ++ sg.1 i ∷ []) ∙ sym (map_push signed_word ss sg.0)),
        (ap (λ (m : State). m.mode) (sym same) ∙ at, ap (λ (m : State). m.section) (sym same) ∙ f.0, subst (λ (m : State). Late m h qs (length rs)) same l, ap (λ (v : Progress). v.literals) (sym o.2) ∙ (λ i. made i ++ lit i ∷ []) ∙ all, ap (λ (v : Progress). v.rules) (sym o.2) ∙ before),
      ))
      (subst (rule.Did qs done m ls n) e (number_did qs done m ls n p))

  -- A variable of a quantifier line, or its 0.
  after_variable : (m : State) (k : Kind) (vs : List ℕ) (ls : List Literal) (done : List (List Literal)) → Late m h (qs ++ map (grammar.variable k) vs) 0 → m.section ≡ Quantifiers → ls ≡ [] → done ≡ [] → Begun lines h qs []
      → Quantified h.length (qs ++ map (grammar.variable k) vs) → words ≡ kind_word k ∷ map decimal vs → given (progress m ls done) (nothing (variable_word m k (some_in vs) (sort_word w p))) ≡ Ok u → Onward lines (words ++ w ∷ []) u
  after_variable m k vs ls done l section none before begun good is e =
      let t = sort_word w p in
      let named = qs ++ map (grammar.variable k) vs in
      let b = nothing_back m ls done (variable_word m k (some_in vs) t) u e in
      let v = natural_back t _ b.0 b.1 in
      let word : w ≡ decimal v.0 = plain_word w p v.0 v.1 v.2 in
      let reader = ap (λ (v : Progress). v.reader) b.2 in
      let no_literals = ap (λ (v : Progress). v.literals) (sym b.2) ∙ none in
      let no_rules = ap (λ (v : Progress). v.rules) (sym b.2) ∙ before in
      ⊎_elim
      (λ (d : (v.0 ≡ 0) × (some_in vs ≡ true) × (in_mode mode.LineEnd m ≡ b.0)).
      let same : in_mode mode.LineEnd m ≡ u.reader = d.2 ∙ reader in
      let late = late_at h named 0 _ u.reader same sound (knows_mode m mode.LineEnd named l.knows) l.form l.length l.rules l.read in
      let now : Over u.reader h named [] = inl (ap (λ (m : State). m.mode) (sym same), ap (λ (m : State). m.section) (sym same) ∙ section, late) in
      let zero_is : w ≡ codes "0" = word ∙ ap decimal d.0 ∙ zero_word in (
        over h named [],
        (begun_variables lines (words ++ w ∷ []) h qs k vs begun (some_long vs d.1) good (λ i. is i ++ zero_is i ∷ []), omega (arith, length_push words w)),
        (now, no_literals, no_rules),
      ))
      (λ (d : Ranges m.length v.0 × (report_too_many m.reports k ≡ false) × (position_at m (v.0 - 1) ≡ 0) × (naming m k v.0 ≡ b.0)).
      let same : naming m k v.0 ≡ u.reader = d.3 ∙ reader in
      let all : named ++ grammar.variable k v.0 ∷ [] ≡ qs ++ map (grammar.variable k) (vs ++ v.0 ∷ []) = append_assoc qs (map (grammar.variable k) vs) (grammar.variable k v.0 ∷ []) ∙ ap (λ xs. qs ++ xs) (sym (map_push (grammar.variable k) vs v.0)) in
      let knows : Knows (naming m k v.0) (qs ++ map (grammar.variable k) (vs ++ v.0 ∷ [])) = subst (λ (qs : List Variable). Knows (naming m k v.0) qs) all (knows_more m named k v.0 l.knows l.sound.all l.sound.short d.0 d.2) in
      let few = subst (λ (qs : List Variable). report_count (kinds_in qs) ≤ 12) all (room_report m named k v.0 l.knows d.1 good.reports) in
      let late = late_at h (qs ++ map (grammar.variable k) (vs ++ v.0 ∷ [])) 0 _ u.reader same sound knows l.form l.length l.rules l.read in (
        variable h qs k (vs ++ v.0 ∷ []),
        (begun, record { range = subst (λ (n : ℕ). All (λ (q : Variable). Ranges n q.name) (qs ++ map (grammar.variable k) (vs ++ v.0 ∷ []))) l.length knows.range; once = knows.once; reports = few }, (λ i. is i ++ word i ∷ []) ∙ ap (λ ws. kind_word k ∷ ws) (sym (map_push decimal vs v.0))),
        (ap (λ (m : State). m.mode) (sym same) ∙ ap (mode.Variables k) (sym (some_push vs v.0)), ap (λ (m : State). m.section) (sym same) ∙ section, late, no_literals, no_rules),
      ))
      (variable_back m b.0 k (some_in vs) v.0 (place_of t) v.3)
    where
      some_long : (vs : List ℕ) → some_in vs ≡ true → 1 ≤ length vs
      some_long [] e = absurd (false≢true e)
      some_long (v ∷ vs) e = omega arith

      some_push : (vs : List ℕ) (v : ℕ) → some_in (vs ++ v ∷ []) ≡ true
      some_push [] v = refl
      some_push (x ∷ vs) v = refl

  -- The first word of a line after the header.
  after_first : (m : State) (rs : List (List Signed)) (done : List (List Literal)) → Late m h qs (length rs) → m.mode ≡ mode.LineStart → m.section ≡ section_of (length rs) → done ≡ placed_rules qs rs → Begun lines h qs rs → words ≡ [] → given (progress m [] done) (step m (sort_word w p)) ≡ Ok u → Onward lines (words ++ w ∷ []) u
  after_first m rs done l at section before begun is e =
      ⊎_elim
      (λ (n : (n : Number) × (numeral_of w ≡ Some n) × (sort_word w p ≡ number n p)).
      let late = not_opening_then (length rs) section in
      let o = rule_started m done n.0 p u at late (sym (ap (λ t. given (progress m [] done) (step m t)) n.2) ∙ e) in
      let rule : Late (ruling m) h qs (length rs) = record { sound = sound_rule m n.0 p l.sound at late o.0 o.1; knows = knows_rule m qs l.knows; form = l.form; length = l.length; rules = l.rules; read = l.read } in
      after_number (ruling m) rs [] [] done n.0 rule refl begun (record { known = All-nil (λ (l : Signed). Ranges h.length l.variable); distinct = tt }) is refl before n.1 o.2)
      (λ (n : (numeral_of w ≡ None) × (sort_word w p ≡ letters w p)).
      after_letters rs section before begun l (sym (ap (λ t. given (progress m [] done) (step m t)) n.1 ∙ ap (λ o. given (progress m [] done) o) (step_in_lem m mode.LineStart (letters w p) at)) ∙ e))
      (sort_cases w p)
    where
      in_section_of : (s : Section) → m.section ≡ s → given (progress m [] done) (start_word m (letters w p)) ≡ Ok u → given (progress m [] done) (opened (open_in s m (first_word w) p) (letters w p)) ≡ Ok u
      in_section_of s is q = sym (ap (λ (s : Section). given (progress m [] done) (opened (open_in s m (first_word w) p) (letters w p))) is) ∙ q

      after_letters : (rs : List (List Signed)) → m.section ≡ section_of (length rs) → done ≡ placed_rules qs rs → Begun lines h qs rs → Late m h qs (length rs) → given (progress m [] done) (start_word m (letters w p)) ≡ Ok u → Onward lines (words ++ w ∷ []) u
      after_letters [] s before b l q =
          let k = letters_quantify m [] done u w p (in_section_of Quantifiers s q) in
          let same : in_mode (mode.Variables k.0 false) m ≡ u.reader = ap (λ (v : Progress). v.reader) k.2 in
          let nil = sym (append-nil qs) in
          let late = late_at h (qs ++ []) 0 _ u.reader same sound (subst (λ (qs : List Variable). Knows (in_mode (mode.Variables k.0 false) m) qs) nil (knows_mode m (mode.Variables k.0 false) qs l.knows)) l.form l.length l.rules l.read in (
            variable h qs k.0 [],
            (b, subst (Quantified h.length) nil b.quantified, (λ i. is i ++ k.1 i ∷ [])),
            (ap (λ (m : State). m.mode) (sym same), ap (λ (m : State). m.section) (sym same) ∙ s, late, ap (λ (v : Progress). v.literals) (sym k.2), ap (λ (v : Progress). v.rules) (sym k.2) ∙ before),
          )
      after_letters (r ∷ rs) s before b l q = absurd (no_letters m [] done u w p (in_section_of Rules s q))

-- What is wanted after a word that has no fault.
pub after_word : (a : Awaited) (lines : List (List (List ℕ))) (words : List (List ℕ)) (m : State) (ls : List Literal) (done : List (List Literal)) (w : List ℕ) (p : ℕ) (u : Progress)
    → Awaits lines words a → Reflects m ls done a → given (progress m ls done) (step m (sort_word w p)) ≡ Ok u → Onward lines (words ++ w ∷ []) u
after_word opening lines words m ls done w p u a r e =
    subst (λ (ws : List (List ℕ)). Onward lines (ws ++ w ∷ []) u) (sym a.1)
    (after_opening lines ls done w p u a.0 r.1 r.2 (subst (λ (m : State). given (progress m ls done) (step m (sort_word w p)) ≡ Ok u) r.0 e))
after_word comment lines words m ls done w p u a r e =
    let s = in_mode mode.Comment start in
    let q = subst (λ (m : State). given (progress m ls done) (step m (sort_word w p)) ≡ Ok u) r.0 e in
    let same : progress s ls done ≡ u = let z : ◌≡◌ {A = Result Progress SheetFault} (Ok (progress s ls done)) (Ok u) = ap (λ (m : State). Ok (progress m ls done)) (sym (comment_word_lem s w p)) ∙ q in cc z in (
      comment,
      (a.0, (a.1.0 ++ w ∷ [], ap (λ (ws : List (List ℕ)). ws ++ w ∷ []) a.1.1)),
      (ap (λ (v : Progress). v.reader) (sym same), ap (λ (v : Progress). v.literals) (sym same) ∙ r.1, ap (λ (v : Progress). v.rules) (sym same) ∙ r.2),
    )
after_word form lines words m ls done w p u a r e = after_form lines ls done w p u a.0 r.1 r.2 words a.1 (subst (λ (m : State). given (progress m ls done) (step m (sort_word w p)) ≡ Ok u) r.0 e)
after_word (variable_count f) lines words m ls done w p u a r e = after_positions lines ls done w p u a.0 r.1 r.2 words f a.1 (subst (λ (m : State). given (progress m ls done) (step m (sort_word w p)) ≡ Ok u) r.0 e)
after_word (rule_count f n) lines words m ls done w p u a r e = after_rules lines ls done w p u a.0 r.1 r.2 words f n a.1 a.2 (subst (λ (m : State). given (progress m ls done) (step m (sort_word w p)) ≡ Ok u) r.0 e)
after_word (line h qs rs) lines words m ls done w p u a r e =
    let q = subst (λ (ls : List Literal). given (progress m ls done) (step m (sort_word w p)) ≡ Ok u) r.3 e in
    after_first lines words h qs w p u (sound_after m ls done (sort_word w p) u r.2.sound e) m rs done r.2 r.0 r.1 r.4 a.0 a.1 q
after_word (variable h qs k vs) lines words m ls done w p u a r e =
    after_variable lines words h qs w p u (sound_after m ls done (sort_word w p) u r.2.sound e) m k vs ls done r.2 r.1 r.3 r.4 a.0 a.1 a.2
    (sym (ap (λ o. given (progress m ls done) o) (step_in_lem m (mode.Variables k (some_in vs)) (sort_word w p) r.0)) ∙ e)
after_word (literal h qs rs ss) lines words m ls done w p u a r e =
    let s = progress m ls done in
    let sound = sound_after m ls done (sort_word w p) u r.2.sound e in
    let at = step_in_lem m mode.Literals (sort_word w p) r.0 in
    ⊎_elim
    (λ (n : (n : Number) × (numeral_of w ≡ Some n) × (sort_word w p ≡ number n p)).
    after_number lines words h qs w p u sound m rs ss ls done n.0 r.2 r.0 a.0 a.3 a.5 r.3 r.4 n.1 (sym (ap (λ o. given s o) (at ∙ ap (literal_word m) n.2)) ∙ e))
    (λ (n : (numeral_of w ≡ None) × (sort_word w p ≡ letters w p)). absurd (err_ok (fault.NoNumber p) u (sym (ap (λ o. given s o) (at ∙ ap (literal_word m) n.1)) ∙ e)))
    (sort_cases w p)
after_word (over h qs rs) lines words m ls done w p u a r e =
    let s = progress m ls done in
    ⊎_elim
    (λ (o : (m.mode ≡ mode.LineEnd) × (m.section ≡ section_of (length rs)) × Late m h qs (length rs)).
    let b = nothing_back m ls done (line_over m (sort_word w p)) u (sym (ap (λ o. given s o) (step_in_lem m mode.LineEnd (sort_word w p) o.0)) ∙ e) in
    absurd (over_refuses m b.0 w p b.1))
    (λ (o : (m ≡ with_rules (with_length (waiting h.form) h.length) h.rules) × (qs ≡ []) × (rs ≡ [])).
    let n = with_rules (with_length (waiting h.form) h.length) h.rules in
    let b = nothing_back n ls done (header_end n (sort_word w p)) u (subst (λ (m : State). given (progress m ls done) (step m (sort_word w p)) ≡ Ok u) o.0 e) in
    absurd (end_refuses n b.0 w p b.1))
    r.0

-- The line that is over is among the lines, where it has a word.
closed_line : (lines : List (List (List ℕ))) (words : List (List ℕ)) → 1 ≤ length words → lines ++ words ∷ [] ≡ lines ++ non_empty (words ∷ [])
closed_line lines [] some = absurd (omega arith)
closed_line lines (w ∷ words) some = refl

-- A line without words leaves all as it was.
after_blank : (lines : List (List (List ℕ))) (words : List (List ℕ)) (u : Progress) → words ≡ [] → Onward lines [] u → Onward (lines ++ non_empty (words ∷ [])) [] u
after_blank lines words u none on = subst (λ (ls : List (List (List ℕ))). Onward ls [] u) (sym (ap (λ (ws : List (List ℕ)). lines ++ non_empty (ws ∷ [])) none ∙ append-nil lines)) on

-- A reader that a line end has left.
after_over : (lines : List (List (List ℕ))) (words : List (List ℕ)) (m : State) (h : Header) (qs : List Variable) (rs : List (List Signed)) (done : List (List Literal)) (p : ℕ) (u : Progress)
    → Begun (lines ++ words ∷ []) h qs rs → 1 ≤ length words → Over m h qs rs → done ≡ placed_rules qs rs → given (progress m [] done) (step m (line_end p)) ≡ Ok u → Onward (lines ++ non_empty (words ∷ [])) [] u
after_over lines words m h qs rs done p u begun some o before e =
    let closed = subst (λ (ls : List (List (List ℕ))). Begun ls h qs rs) (closed_line lines words some) begun in
    ⊎_elim
    (λ (o : (m.mode ≡ mode.LineEnd) × (m.section ≡ section_of (length rs)) × Late m h qs (length rs)).
    let l = o.2 in
    let b : progress (in_mode mode.LineStart m) [] done ≡ u = let z : ◌≡◌ {A = Result Progress SheetFault} (Ok (progress (in_mode mode.LineStart m) [] done)) (Ok u) = sym (ap (λ o. given (progress m [] done) o) (step_in_lem m mode.LineEnd (line_end p) o.0)) ∙ e in cc z in
    let same : in_mode mode.LineStart m ≡ u.reader = ap (λ (v : Progress). v.reader) b in
    let late = late_at h qs (length rs) _ u.reader same (sound_after m [] done (line_end p) u l.sound e) (knows_mode m mode.LineStart qs l.knows) l.form l.length l.rules l.read in
    (line h qs rs, (closed, refl), (ap (λ (m : State). m.mode) (sym same), ap (λ (m : State). m.section) (sym same) ∙ o.1, late, ap (λ (v : Progress). v.literals) (sym b), ap (λ (v : Progress). v.rules) (sym b) ∙ before)))
    (λ (o : (m ≡ with_rules (with_length (waiting h.form) h.length) h.rules) × (qs ≡ []) × (rs ≡ [])).
    let n = with_rules (with_length (waiting h.form) h.length) h.rules in
    let q = subst (λ (m : State). given (progress m [] done) (step m (line_end p)) ≡ Ok u) o.0 e in
    let b : progress (headed h.form h.length h.rules) [] done ≡ u = let z : ◌≡◌ {A = Result Progress SheetFault} (Ok (progress (headed h.form h.length h.rules) [] done)) (Ok u) = q in cc z in
    let ready = headed_ready h.form h.length h.rules closed.positions.1 closed.few in
    let late : Late (headed h.form h.length h.rules) h [] 0 = record { sound = ready.sound; knows = ready.knows; form = refl; length = refl; rules = refl; read = refl } in
    let now : Onward (lines ++ non_empty (words ∷ [])) [] (progress (headed h.form h.length h.rules) [] done) =
    (line h [] [], (subst (λ (qs : List Variable). Begun (lines ++ non_empty (words ∷ [])) h qs []) o.1 (subst (λ (rs : List (List Signed)). Begun (lines ++ non_empty (words ∷ [])) h qs rs) o.2 closed), refl), (refl, refl, late, refl, before ∙ (λ i. placed_rules (o.1 i) (o.2 i)))) in
    subst (λ (v : Progress). Onward (lines ++ non_empty (words ∷ [])) [] v) b now)
    o

-- What is wanted after the end of a line that has no fault.
pub after_line_end : (a : Awaited) (lines : List (List (List ℕ))) (words : List (List ℕ)) (m : State) (ls : List Literal) (done : List (List Literal)) (p : ℕ) (u : Progress)
    → Awaits lines words a → Reflects m ls done a → given (progress m ls done) (step m (line_end p)) ≡ Ok u → Onward (lines ++ non_empty (words ∷ [])) [] u
after_line_end opening lines words m ls done p u a r e =
    let same : progress start ls done ≡ u = let z = subst (λ (m : State). given (progress m ls done) (step m (line_end p)) ≡ Ok u) r.0 e in cc z in
    after_blank lines words u a.1 (opening, (a.0, refl), (ap (λ (v : Progress). v.reader) (sym same), ap (λ (v : Progress). v.literals) (sym same) ∙ r.1, ap (λ (v : Progress). v.rules) (sym same) ∙ r.2))
after_line_end comment lines words m ls done p u a r e =
    let same : progress start ls done ≡ u = let z = subst (λ (m : State). given (progress m ls done) (step m (line_end p)) ≡ Ok u) r.0 e in cc z in
    let closed : lines ++ words ∷ [] ≡ lines ++ non_empty (words ∷ []) = closed_line lines words (subst (λ (ws : List (List ℕ)). 1 ≤ length ws) (sym a.1.1) (omega arith)) in (
      opening,
      (subst (All Comment) closed (All-push Comment lines words a.0 a.1), refl),
      (ap (λ (v : Progress). v.reader) (sym same), ap (λ (v : Progress). v.literals) (sym same) ∙ r.1, ap (λ (v : Progress). v.rules) (sym same) ∙ r.2),
    )
after_line_end form lines words m ls done p u a r e = absurd (err_ok (fault.Word p) u (subst (λ (m : State). given (progress m ls done) (step m (line_end p)) ≡ Ok u) r.0 e))
after_line_end (variable_count f) lines words m ls done p u a r e = absurd (err_ok (fault.NoNumber p) u (subst (λ (m : State). given (progress m ls done) (step m (line_end p)) ≡ Ok u) r.0 e))
after_line_end (rule_count f n) lines words m ls done p u a r e = absurd (err_ok (fault.NoNumber p) u (subst (λ (m : State). given (progress m ls done) (step m (line_end p)) ≡ Ok u) r.0 e))
after_line_end (line h qs rs) lines words m ls done p u a r e =
    let same : progress m ls done ≡ u = let z : ◌≡◌ {A = Result Progress SheetFault} (Ok (progress m ls done)) (Ok u) = sym (ap (λ o. given (progress m ls done) o) (step_in_lem m mode.LineStart (line_end p) r.0)) ∙ e in cc z in
    after_blank lines words u a.1 (subst (λ (v : Progress). Onward lines [] v) same (line h qs rs, (a.0, refl), r))
after_line_end (variable h qs k vs) lines words m ls done p u a r e =
    absurd (err_ok (fault.NoNumber p) u (sym (ap (λ o. given (progress m ls done) o) (step_in_lem m (mode.Variables k (some_in vs)) (line_end p) r.0)) ∙ e))
after_line_end (literal h qs rs ss) lines words m ls done p u a r e =
    absurd (err_ok (fault.NoNumber p) u (sym (ap (λ o. given (progress m ls done) o) (step_in_lem m mode.Literals (line_end p) r.0)) ∙ e))
after_line_end (over h qs rs) lines words m ls done p u a r e =
    after_over lines words m h qs rs done p u a.0 a.1 r.0 r.2 (subst (λ (ls : List Literal). given (progress m ls done) (step m (line_end p)) ≡ Ok u) r.1 e)
