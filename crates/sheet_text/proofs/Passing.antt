-- A reader passes what is as it should be, and then waits for what is wanted.
use Rattle.std.proofs.Common.{All, ◌≡◌, ℕ, zero, suc, ◌<◌, ◌≤◌, true, false, List, [], ◌∷◌, ◌++◌, map, length, Some, Ok, codes, decimal, sym, refl, ap, ◌∙◌, subst, inl, inr, ⊎_elim, arith}
use Rattle.std.proofs.lemmas.List.{append-nil, map_push, length_push}
use Rattle.std.proofs.lemmas.List.Elements.{All-head, All-tail}
use Rattle.prefix.specs.declared.kind.Kind.{Kind}
use Rattle.sheet.specs.declared.form.Form.{Form}
use Rattle.sheet.specs.declared.literal.Literal.{Literal}
use Rattle.sheet_text.specs.Grammar as grammar
use Rattle.sheet_text.specs.Grammar.{non_empty, Comment, header_line, quantifier_line, Signed, signed_word, rule_line, Variable, order, placed, Ranges, kind_word, form_word}
use Rattle.sheet_text.specs.Keeping.{Sound}
use Rattle.sheet_text.specs.Machine.{start, in_mode, ruled, with_length, with_rules}
use Rattle.sheet_text.specs.Reading.{begin, run}
use Rattle.sheet_text.specs.Grammar.{Header, Quantified, Ruled, Begun}
use Rattle.sheet_text.specs.Beginnings.{Awaited, opening, comment, form, variable_count, rule_count, line, variable, literal, over, Awaits}
use Rattle.sheet_text.specs.Words.{letters, number, sort_word}
use Rattle.sheet_text.specs.Cuts.{Tokens, next}
use Rattle.sheet_text.specs.declared.state.Mode.TheVariants as mode
use Rattle.sheet_text.specs.declared.state.State.{State}
use Rattle.sheet_text.specs.declared.state.Section.TheVariants.{Quantifiers}
use Rattle.sheet_text.specs.declared.taken.Taken.TheVariants as taken
use Rattle.sheet_text.specs.declared.word.Number.{Number}
use Rattle.sheet_text.proofs.Awaiting.{section_of, not_opening_then, some_in, Late, Over, placed_rules, Reflects}
use Rattle.sheet_text.proofs.Beginnings.{all_front, all_known, all_distinct, HeaderLast, VariablesLast, RuleLast, last_line}
use Rattle.sheet_text.proofs.HeaderReads.{waiting, headed, comment_words, comment_line, form_forth, positions_forth, count_forth}
use Rattle.sheet_text.proofs.Lining.{Line, LinedTo, WordsTo, words_split}
use Rattle.sheet_text.proofs.LineReads.{heads, tails, nil_cons, blank-line, section_after, sound_rule, knows_rule}
use Rattle.sheet_text.proofs.Naming.{Knows, knows_mode, knows_ruled}
use Rattle.sheet_text.proofs.RuleReads.{Known, ruling, literals_on, zero_word_forth, open_forth, first_literal, first_number}
use Rattle.sheet_text.proofs.Running.{progress}
use Rattle.sheet_text.proofs.SheetReads.{sheet_forth, kind-step, range_front}
use Rattle.sheet_text.proofs.Spelled.{plain}
use Rattle.sheet_text.proofs.Steps.{step_sound}
use Rattle.sheet_text.proofs.OpeningReads.{opening_forth, headed_ready}
use Rattle.sheet_text.proofs.Turning.{turn}
use Rattle.sheet_text.proofs.VariableReads.{quiet_sound, some_after, variables_on, zero_passed}
use Rattle.sheet_text.proofs.WordReads.{sort_c, sort_p, sort_kind}

-- Comments are passed over.
pub comments_forth : (raw comments : List (List (List ℕ))) (ts rest : Tokens) → LinedTo raw ts rest → non_empty raw ≡ comments → All Comment comments → run begin ts ≡ run begin rest
comments_forth [] [] ts rest l e c = ap (run begin) l
comments_forth [] (x ∷ comments) ts rest l e c = absurd (nil_cons e)
comments_forth ([] ∷ raw) comments ts rest l e c = blank-line start [] [] ts l.0 refl l.1 ∙ comments_forth raw comments l.0 rest l.2 e c
comments_forth ((w ∷ ws) ∷ raw) [] ts rest l e c = absurd (nil_cons (sym e))
comments_forth ((w ∷ ws) ∷ raw) (x ∷ comments) ts rest l e c =
    let here : Comment x = All-head Comment x comments c in
    let line : Line (codes "c" ∷ here.0) ts l.0 = subst (λ (ws : List (List ℕ)). Line ws ts l.0) (heads e ∙ here.1) l.1 in
    let m = in_mode mode.Comment start in
    turn start [] [] ts line.1 (letters (codes "c") line.0) (Ok m) (line.2 ∙ ap (λ t. next t line.1) (sort_c line.0)) refl m refl
    ∙ comment_line here.0 [] [] line.1 l.0 line.3 ∙ comments_forth raw comments l.0 rest l.2 (tails e) (All-tail Comment x comments c)

-- The header, quantifier lines and rules are passed, and another line is wanted.
abbrev pub Passed : Tokens → Tokens → Awaited → Type 0
Passed ts rest a = (m : State) × (ls : List Literal) × (done : List (List Literal)) × (run begin ts ≡ run (progress m ls done) rest) × Reflects m ls done a

pub begun_forth : (lines : List (List (List ℕ))) (h : Header) (qs : List Variable) (rs : List (List Signed)) (raw : List (List (List ℕ))) (ts rest : Tokens) → Begun lines h qs rs → LinedTo raw ts rest → non_empty raw ≡ lines → Passed ts rest (line h qs rs)
begun_forth lines h qs rs raw ts rest b l e =
    let n = h.length in
    let o = opening_forth rest raw b.comments h.form n h.rules (map quantifier_line b.quantifiers ++ map rule_line rs) ts l (e ∙ b.spelled) b.commented b.positions.0 b.positions.1 b.few in
    let ordered : qs ≡ order b.quantifiers = b.ordered in
    let good = subst (Quantified n) ordered b.quantified in
    let ruled = subst (λ (qs : List Variable). All (Ruled n qs) rs) ordered b.ruled in
    let go = sheet_forth o.0 b.quantifiers rs (headed h.form n h.rules) [] o.1 rest o.2 o.3 (headed_ready h.form n h.rules b.positions.1 b.few)
    (record {
      some = b.some;
      range = good.range;
      once = good.once;
      reports = good.reports;
      count = λ some. ap length (sym ordered) ∙ b.named some;
      few = omega (arith, b.most);
      known = all_known n (order b.quantifiers) rs ruled;
      distinct = all_distinct n (order b.quantifiers) rs ruled;
    }) in
    let over = go.2.over in
    let late : Late go.0 h qs (length rs) = record {
      sound = go.2.sound;
      knows = subst (λ (qs : List Variable). Knows go.0 qs) (sym ordered) over.knows;
      form = over.form;
      length = over.length;
      rules = over.rules;
      read = omega (arith, over.read);
    } in
    let section : go.0.section ≡ section_of (length rs) = go.2.section ∙ same_section (length rs) in
    (go.0, [], placed_rules (order b.quantifiers) rs, o.4 ∙ go.1, (go.2.mode, section, late, refl, ap (λ (qs : List Variable). placed_rules qs rs) (sym ordered)))
  where
    same_section : (n : ℕ) → section_after Quantifiers n ≡ section_of n
    same_section zero = refl
    same_section (suc n) = refl

-- The words of the open line, of which one after another is passed.
module _ (ts mid rest : Tokens) where
  -- Comments and the words of the header.
  module _ (before : run begin ts ≡ run begin mid) where
    opening_words : WordsTo [] mid rest → Passed ts rest opening
    opening_words l = (start, [], [], before ∙ ap (run begin) l, (refl, refl, refl))

    comment_passed : (ws : List (List ℕ)) → WordsTo (codes "c" ∷ ws) mid rest → Passed ts rest comment
    comment_passed ws l =
        let m = in_mode mode.Comment start in
        (m, [], [], before ∙ turn start [] [] mid l.1 (letters (codes "c") l.0) (Ok m) (l.2 ∙ ap (λ t. next t l.1) (sort_c l.0)) refl m refl ∙ comment_words ws [] [] l.1 rest l.3, (refl, refl, refl))

    -- After p.
    header_opened : (p : ℕ) (after : Tokens) → mid ≡ next (sort_word (codes "p") p) after → run begin ts ≡ run (progress (in_mode mode.Form start) [] []) after
    header_opened p after is =
        let m = in_mode mode.Form start in
        before ∙ turn start [] [] mid after (letters (codes "p") p) (Ok m) (is ∙ ap (λ t. next t after) (sort_p p)) refl m refl

    form_passed : WordsTo (codes "p" ∷ []) mid rest → Passed ts rest form
    form_passed l = let m = in_mode mode.Form start in (m, [], [], header_opened l.0 l.1 l.2 ∙ ap (run (progress m [] [])) l.3, (refl, refl, refl))

    positions_passed : (f : Form) → WordsTo (codes "p" ∷ form_word f ∷ []) mid rest → Passed ts rest (variable_count f)
    positions_passed f l =
        let l1 = l.3 in
        (waiting f, [], [], header_opened l.0 l.1 l.2 ∙ form_forth f [] [] l.1 l1.1 l1.0 l1.2 ∙ ap (run (progress (waiting f) [] [])) l1.3, (refl, refl, refl))

    rules_passed : (f : Form) (n : ℕ) → Ranges 24 n → WordsTo (codes "p" ∷ form_word f ∷ decimal n ∷ []) mid rest → Passed ts rest (rule_count f n)
    rules_passed f n range l =
        let l1 = l.3 in
        let l2 = l1.3 in
        let m = with_length (waiting f) n in
        (m, [], [], header_opened l.0 l.1 l.2 ∙ form_forth f [] [] l.1 l1.1 l1.0 l1.2 ∙ positions_forth f [] [] l1.1 l2.1 l2.0 n range.0 range.1 l2.2 ∙ ap (run (progress m [] [])) l2.3, (refl, refl, refl))

    header_passed : (h : Header) → Ranges 24 h.length → h.rules ≤ 256 → WordsTo (header_line h.form h.length h.rules) mid rest → Passed ts rest (over h [] [])
    header_passed h range few l =
        let l1 = l.3 in
        let l2 = l1.3 in
        let l3 = l2.3 in
        let m = with_rules (with_length (waiting h.form) h.length) h.rules in
        let now : Over m h [] [] = inr (refl, refl, refl) in (
          m,
          [],
          [],
          header_opened l.0 l.1 l.2 ∙ form_forth h.form [] [] l.1 l1.1 l1.0 l1.2 ∙ positions_forth h.form [] [] l1.1 l2.1 l2.0 h.length range.0 range.1 l2.2
              ∙ count_forth h.form [] [] l2.1 l3.1 l3.0 h.length h.rules few l3.2 ∙ ap (run (progress m [] [])) l3.3,
          (now, refl, refl),
        )

  -- Words after the header.
  module _ (h : Header) (qs : List Variable) (rs : List (List Signed)) (m : State) (done : List (List Literal)) (before : run begin ts ≡ run (progress m [] done) mid) (at : m.mode ≡ mode.LineStart) (section : m.section ≡ section_of (length rs)) (l : Late m h qs (length rs)) (is_done : done ≡ placed_rules qs rs) where
    -- A quantifier line up to a variable.
    module _ (k : Kind) (vs : List ℕ) (none : m.section ≡ Quantifiers) (good : Quantified h.length (qs ++ map (grammar.variable k) vs)) where
      named : (after : Tokens) → WordsTo (kind_word k ∷ map decimal vs) mid after
          → (u : State) × (run begin ts ≡ run (progress u [] done) after) × (u.mode ≡ mode.Variables k (some_in vs)) × (u.section ≡ Quantifiers) × Late u h (qs ++ map (grammar.variable k) vs) (length rs)
      named after w =
          let m1 = in_mode (mode.Variables k false) m in
          let does = kind-step m k w.0 at none in
          let sound = quiet_sound m m1 (letters (kind_word k) w.0) (Ok m1) l.sound does refl in
          let all = (all_front (λ (q : Variable). Ranges h.length q.name) qs (map (grammar.variable k) vs) good.range).1 in
          let range = (range_front h.length k vs [] (subst (All (λ (q : Variable). Ranges h.length q.name)) (sym (append-nil (map (grammar.variable k) vs))) all)).0 in
          let on = variables_on k [] done vs m1 false qs w.1 after w.3 refl sound (knows_mode m (mode.Variables k false) qs l.knows) (subst (λ (n : ℕ). All (Ranges n) vs) (sym l.length) range) good.once good.reports in
          let o = on.2 in (
            on.0,
            before ∙ turn m [] done mid w.1 (letters (kind_word k) w.0) (Ok m1) (w.2 ∙ ap (λ t. next t w.1) (sort_kind k w.0)) does m1 refl ∙ on.1,
            o.mode ∙ ap (mode.Variables k) (same_some vs),
            o.section ∙ none,
            record { sound = o.sound; knows = o.knows; form = o.form ∙ l.form; length = o.length ∙ l.length; rules = o.rules ∙ l.rules; read = o.read ∙ l.read },
          )
        where
          same_some : (vs : List ℕ) → some_after false vs ≡ some_in vs
          same_some [] = refl
          same_some (v ∷ vs) = refl

    variables_passed : (k : Kind) (vs : List ℕ) → rs ≡ [] → Quantified h.length (qs ++ map (grammar.variable k) vs) → WordsTo (kind_word k ∷ map decimal vs) mid rest → Passed ts rest (variable h qs k vs)
    variables_passed k vs none good w =
        let u = named k vs (section ∙ ap (λ (rs : List (List Signed)). section_of (length rs)) none) good rest w in
        (u.0, [], done, u.1, (u.2, u.3, subst (λ (rs : List (List Signed)). Late u.0 h (qs ++ map (grammar.variable k) vs) (length rs)) none u.4, refl, is_done ∙ ap (placed_rules qs) none))

    quantifier_passed : (k : Kind) (vs : List ℕ) → rs ≡ [] → 1 ≤ length vs → Quantified h.length (qs ++ map (grammar.variable k) vs) → WordsTo (quantifier_line (record { kind = k; variables = vs })) mid rest → Passed ts rest (over h (qs ++ map (grammar.variable k) vs) [])
    quantifier_passed k vs none some good w =
        let qs' = qs ++ map (grammar.variable k) vs in
        let split = words_split (kind_word k ∷ map decimal vs) (codes "0" ∷ []) mid rest w in
        let u = named k vs (section ∙ ap (λ (rs : List (List Signed)). section_of (length rs)) none) good split.0 split.1 in
        let end = split.2 in
        let zero = zero_passed k [] done rest u.0 split.0 end.1 end.0 end.2 (u.2 ∙ ap (mode.Variables k) (yes vs some)) u.4.sound in
        let v = in_mode mode.LineEnd u.0 in
        let late : Late v h qs' 0 = record { sound = zero.1; knows = knows_mode u.0 mode.LineEnd qs' u.4.knows; form = u.4.form; length = u.4.length; rules = u.4.rules; read = u.4.read ∙ ap length none } in
        let now : Over v h qs' [] = inl (refl, u.3, late) in
        (v, [], done, u.1 ∙ zero.0 ∙ ap (run (progress v [] done)) end.3, (now, refl, is_done ∙ ap (placed_rules qs) none))
      where
        yes : (vs : List ℕ) → 1 ≤ length vs → some_in vs ≡ true
        yes [] some = absurd (omega arith)
        yes (v ∷ vs) some = refl

    -- A rule up to a literal.
    module _ (ss : List Signed) (all : length qs ≡ h.length) (more : length rs < h.rules) (good : Ruled h.length qs ss) where
      known_all : m.named ≡ m.length
      known_all = l.knows.count ∙ all ∙ sym l.length

      room : m.read < m.rules
      room = omega (arith, l.read, l.rules)

      sound_ruling : Sound (ruling m)
      sound_ruling = sound_rule m (plain 0) 0 l.sound at (not_opening_then (length rs) section) known_all room

      opened_rule : (n : Number) (p : ℕ) (after : Tokens) → mid ≡ next (number n p) after → run begin ts ≡ run (progress (ruling m) [] done) mid
      opened_rule n p after is = before ∙ open_forth m n p at (not_opening_then (length rs) section) [] done mid after is known_all room

      literals_from : (after : Tokens) → WordsTo (map signed_word ss) mid after → run (progress (ruling m) [] done) mid ≡ run (progress (ruling m) (map (placed qs) ss) done) after
      literals_from after w = literals_on qs done ss (ruling m) [] mid after w refl (knows_rule m qs l.knows) l.sound.short (subst (λ (n : ℕ). All (Known n) ss) (sym l.length) good.known) good.distinct

      short : h.length ≤ 24
      short = omega (arith, l.length, l.sound.short)

      literals_passed : 1 ≤ length ss → WordsTo (map signed_word ss) mid rest → Passed ts rest (literal h qs rs ss)
      literals_passed some w =
          let n = first_literal h.length ss mid rest good.known short some w in
          let late : Late (ruling m) h qs (length rs) = record { sound = sound_ruling; knows = knows_rule m qs l.knows; form = l.form; length = l.length; rules = l.rules; read = l.read } in
          (ruling m, map (placed qs) ss, done, opened_rule n.0 n.1 n.2 n.3 ∙ literals_from rest w, (refl, refl, late, refl, is_done))

      rule_passed : WordsTo (rule_line ss) mid rest → Passed ts rest (over h qs (rs ++ ss ∷ []))
      rule_passed w =
          let split = words_split (map signed_word ss) (codes "0" ∷ []) mid rest w in
          let end = split.2 in
          let n = first_number h.length ss mid rest good.known short w in
          let lits = map (placed qs) ss in
          let zero = zero_word_forth qs done rest (ruling m) lits split.0 end.1 end.0 end.2 refl in
          let v = ruled (ruling m) in
          let sound : Sound v = step_sound (ruling m) (number (plain 0) 0) v (Some taken.Rule) sound_ruling refl in
          let many : length (rs ++ ss ∷ []) ≡ suc (length rs) = omega (arith, length_push rs ss) in
          let late : Late v h qs (length (rs ++ ss ∷ [])) = record { sound = sound; knows = knows_ruled (ruling m) qs (knows_rule m qs l.knows); form = l.form; length = l.length; rules = l.rules; read = omega (arith, l.read, many) } in
          let now : Over v h qs (rs ++ ss ∷ []) = inl (refl, ap section_of (sym many), late) in
          (v, [], done ++ lits ∷ [], opened_rule n.0 n.1 n.2 n.3 ∙ literals_from split.0 split.1 ∙ zero ∙ ap (run (progress v [] (done ++ lits ∷ []))) end.3, (now, refl, (λ i. is_done i ++ lits ∷ []) ∙ sym (map_push (map (placed qs)) rs ss)))

-- What is as it should be is passed, and what is wanted after it is waited for.
pub awaited_forth : (a : Awaited) (lines : List (List (List ℕ))) (words : List (List ℕ)) (raw : List (List (List ℕ))) (ts mid rest : Tokens) → Awaits lines words a → LinedTo raw ts mid → non_empty raw ≡ lines → WordsTo words mid rest → Passed ts rest a
awaited_forth opening lines words raw ts mid rest a l e w = opening_words ts mid rest (comments_forth raw lines ts mid l e a.0) (subst (λ (ws : List (List ℕ)). WordsTo ws mid rest) a.1 w)
awaited_forth comment lines words raw ts mid rest a l e w = comment_passed ts mid rest (comments_forth raw lines ts mid l e a.0) a.1.0 (subst (λ (ws : List (List ℕ)). WordsTo ws mid rest) a.1.1 w)
awaited_forth form lines words raw ts mid rest a l e w = form_passed ts mid rest (comments_forth raw lines ts mid l e a.0) (subst (λ (ws : List (List ℕ)). WordsTo ws mid rest) a.1 w)
awaited_forth (variable_count f) lines words raw ts mid rest a l e w = positions_passed ts mid rest (comments_forth raw lines ts mid l e a.0) f (subst (λ (ws : List (List ℕ)). WordsTo ws mid rest) a.1 w)
awaited_forth (rule_count f n) lines words raw ts mid rest a l e w = rules_passed ts mid rest (comments_forth raw lines ts mid l e a.0) f n a.1 (subst (λ (ws : List (List ℕ)). WordsTo ws mid rest) a.2 w)
awaited_forth (line h qs rs) lines words raw ts mid rest a l e w =
    subst (λ (t : Tokens). Passed ts t (line h qs rs)) (subst (λ (ws : List (List ℕ)). WordsTo ws mid rest) a.1 w) (begun_forth lines h qs rs raw ts mid a.0 l e)
awaited_forth (variable h qs k vs) lines words raw ts mid rest a l e w =
    let b = begun_forth lines h qs [] raw ts mid a.0 l e in
    let r = b.4 in
    variables_passed ts mid rest h qs [] b.0 b.2 (b.3 ∙ ap (λ (ls : List Literal). run (progress b.0 ls b.2) mid) r.3) r.0 r.1 r.2 r.4 k vs refl a.1 (subst (λ (ws : List (List ℕ)). WordsTo ws mid rest) a.2 w)
awaited_forth (literal h qs rs ss) lines words raw ts mid rest a l e w =
    let b = begun_forth lines h qs rs raw ts mid a.0 l e in
    let r = b.4 in
    literals_passed ts mid rest h qs rs b.0 b.2 (b.3 ∙ ap (λ (ls : List Literal). run (progress b.0 ls b.2) mid) r.3) r.0 r.1 r.2 r.4 ss a.1 a.2 a.3 a.4 (subst (λ (ws : List (List ℕ)). WordsTo ws mid rest) a.5 w)
awaited_forth (over h qs rs) lines words raw ts mid rest a l e w =
    ⊎_elim header_over (⊎_elim variables_over rule_over) (last_line lines words h qs rs a.0)
  where
    header_over : HeaderLast lines words h qs rs → Passed ts rest (over h qs rs)
    header_over b =
        subst (λ (qs : List Variable). Passed ts rest (over h qs rs)) (sym b.none) (subst (λ (rs : List (List Signed)). Passed ts rest (over h [] rs)) (sym b.no_rules)
        (header_passed ts mid rest (comments_forth raw lines ts mid l e b.comments) h b.positions b.few (subst (λ (ws : List (List ℕ)). WordsTo ws mid rest) b.is w)))

    variables_over : VariablesLast lines words h qs rs → Passed ts rest (over h qs rs)
    variables_over v =
        let b = begun_forth lines h v.earlier [] raw ts mid v.before l e in
        let r = b.4 in
        subst (λ (qs : List Variable). Passed ts rest (over h qs rs)) (sym v.named) (subst (λ (rs : List (List Signed)). Passed ts rest (over h (v.earlier ++ map (grammar.variable v.kind) v.variables) rs)) (sym v.no_rules)
        (quantifier_passed ts mid rest h v.earlier [] b.0 b.2 (b.3 ∙ ap (λ (ls : List Literal). run (progress b.0 ls b.2) mid) r.3) r.0 r.1 r.2 r.4 v.kind v.variables refl v.some (subst (Quantified h.length) v.named v.quantified)
        (subst (λ (ws : List (List ℕ)). WordsTo ws mid rest) v.is w)))

    rule_over : RuleLast lines words h qs rs → Passed ts rest (over h qs rs)
    rule_over v =
        let b = begun_forth lines h qs v.earlier raw ts mid v.before l e in
        let r = b.4 in
        subst (λ (rs : List (List Signed)). Passed ts rest (over h qs rs)) (sym v.rules)
        (rule_passed ts mid rest h qs v.earlier b.0 b.2 (b.3 ∙ ap (λ (ls : List Literal). run (progress b.0 ls b.2) mid) r.3) r.0 r.1 r.2 r.4 v.literals v.named v.more v.ruled (subst (λ (ws : List (List ℕ)). WordsTo ws mid rest) v.is w))
