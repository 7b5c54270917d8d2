-- How the quantifier lines of a text are read, with the rules after them.
use Rattle.std.proofs.lemmas.Bool.Decides.{nat_tests}
use Rattle.std.proofs.Common.{All, ◌≡◌, ℕ, ◌+◌, ◌≤◌, false, List, [], ◌∷◌, ◌++◌, map, length, Ok, sym, refl, ap, ◌∙◌, subst, arith}
use Rattle.std.proofs.lemmas.List.{append_assoc, append-nil}
use Rattle.std.proofs.lemmas.List.Elements.{All-nil, All-cons, All-head, All-tail}
use Rattle.prefix.specs.Kinds.{report_count}
use Rattle.prefix.specs.declared.kind.Kind.{Kind}
use Rattle.sheet.specs.Literals.{Distinct}
use Rattle.sheet_text.specs.Grammar.{non_empty, Variable, variable, Quantifier, kind_word, quantifier_line, Signed, rule_line, order, Once, placed, Ranges}
use Rattle.sheet_text.specs.Keeping.{Sound}
use Rattle.sheet_text.specs.Machine.{in_mode, nothing, step}
use Rattle.sheet_text.specs.Reading.{run}
use Rattle.sheet_text.specs.Words.{letters}
use Rattle.sheet_text.specs.Cuts.{Tokens, next}
use Rattle.sheet_text.specs.declared.state.Mode.TheVariants as mode
use Rattle.sheet_text.specs.declared.state.State.{State}
use Rattle.sheet_text.specs.declared.state.Section.{Section}
use Rattle.sheet_text.specs.declared.state.Section.TheVariants.{Opening, Quantifiers}
use Rattle.sheet_text.proofs.Lining.{Line, LinedTo}
use Rattle.sheet_text.proofs.LineReads.{heads, tails, nil_cons, blank-line, RulesPassed, rules_forth, section_after}
use Rattle.sheet_text.proofs.Naming.{Ranged, Knows, knows_mode, once_front}
use Rattle.sheet_text.proofs.RuleReads.{Known}
use Rattle.sheet_text.proofs.Running.{progress}
use Rattle.sheet_text.proofs.Turning.{turn}
use Rattle.sheet_text.proofs.VariableReads.{kinds_in, count-kinds, LineRead, quiet_sound, variables_forth}
use Rattle.sheet_text.proofs.WordReads.{sort_kind}

not_opening_too : {s : Section} → s ≡ Quantifiers → s ≡ Opening → ⊥
not_opening_too e f = cc (e, f)

-- The first word of a quantifier line opens it.
pub kind-step : (m : State) (k : Kind) (p : ℕ) → m.mode ≡ mode.LineStart → m.section ≡ Quantifiers → step m (letters (kind_word k) p) ≡ nothing (Ok (in_mode (mode.Variables k false) m))
kind-step m k p at section = grind (arith, nat_tests)

-- The variables of a line before those of later lines.
order-more : (qs : List Variable) (q : Quantifier) (quants : List Quantifier) → (qs ++ map (variable q.kind) q.variables) ++ order quants ≡ qs ++ order (q ∷ quants)
order-more qs q quants = append_assoc qs (map (variable q.kind) q.variables) (order quants)

-- Facts on an order, of its front.
pub range_front : (n : ℕ) (k : Kind) (vs : List ℕ) (ys : List Variable) → All (Ranged n) (map (variable k) vs ++ ys) → All (Ranges n) vs × All (Ranged n) ys
range_front n k [] ys r = (All-nil (Ranges n), r)
range_front n k (v ∷ vs) ys r =
    let later = map (variable k) vs ++ ys in
    let go = range_front n k vs ys (All-tail (Ranged n) (variable k v) later r) in
    (All-cons (Ranges n) v vs (All-head (Ranged n) (variable k v) later r) go.0, go.1)

-- A line has a variable.
abbrev pub SomeVariable : Quantifier → Type 0
SomeVariable q = 1 ≤ length q.variables

-- What is wanted of lines that are still to come.
pub record Fit (m : State) (qs : List Variable) (quants : List Quantifier) (rules : List (List Signed)) : Type 0 where
  pub some : All SomeVariable quants
  pub range : All (Ranged m.length) (order quants)
  pub once : Once (qs ++ order quants)
  pub reports : report_count (kinds_in (qs ++ order quants)) ≤ 12
  pub count : 1 ≤ length rules → length (qs ++ order quants) ≡ m.length
  pub few : m.read + length rules ≤ m.rules
  pub known : All (All (Known m.length)) rules
  pub distinct : All Distinct (map (map (placed (qs ++ order quants))) rules)

-- A reader that has read the header and lines of this kind.
pub record Quantifying (m : State) (qs : List Variable) : Type 0 where
  pub mode : m.mode ≡ mode.LineStart
  pub section : m.section ≡ Quantifiers
  pub sound : Sound m
  pub knows : Knows m qs

fit_next : (m after : State) (qs : List Variable) (q : Quantifier) (quants : List Quantifier) (rules : List (List Signed)) → Fit m qs (q ∷ quants) rules → LineRead m after mode.LineStart (qs ++ map (variable q.kind) q.variables)
    → Fit after (qs ++ map (variable q.kind) q.variables) quants rules
fit_next m after qs q quants rules f l =
    let to = sym (order-more qs q quants) in
    record {
      some = All-tail SomeVariable q quants f.some;
      range = subst (λ (n : ℕ). All (Ranged n) (order quants)) (sym l.length) (range_front m.length q.kind q.variables (order quants) f.range).1;
      once = subst Once to f.once;
      reports = subst (λ (qs : List Variable). report_count (kinds_in qs) ≤ 12) to f.reports;
      count = λ some. ap length (order-more qs q quants) ∙ f.count some ∙ sym l.length;
      few = omega (arith, f.few, l.read, l.rules);
      known = subst (λ (n : ℕ). All (All (Known n)) rules) (sym l.length) f.known;
      distinct = subst (λ (qs : List Variable). All Distinct (map (map (placed qs)) rules)) to f.distinct;
    }

-- The front of an order has no more reports than the whole.
pub front_reports : (xs ys : List Variable) → report_count (kinds_in (xs ++ ys)) ≤ 12 → report_count (kinds_in xs) ≤ 12
front_reports xs ys h = omega (arith, count-kinds xs ys)

pub sheet_forth : (raw : List (List (List ℕ))) (quants : List Quantifier) (rules : List (List Signed)) (m : State) (qs : List Variable) (ts rest : Tokens) → LinedTo raw ts rest
    → non_empty raw ≡ map quantifier_line quants ++ map rule_line rules → Quantifying m qs → Fit m qs quants rules
    → (after : State) × (run (progress m [] []) ts ≡ run (progress after [] (map (map (placed (qs ++ order quants))) rules)) rest) × RulesPassed m after (length rules) (qs ++ order quants)
sheet_forth raw [] rules m qs ts rest l e h f =
    let nil : qs ++ [] ≡ qs = append-nil qs in
    let named : 1 ≤ length rules → m.named ≡ m.length = λ some. h.knows.count ∙ sym (ap length nil) ∙ f.count some in
    let go = rules_forth qs rest raw rules m [] ts l e h.mode (not_opening_too h.section) named h.sound h.knows f.few f.known (subst (λ (qs : List Variable). All Distinct (map (map (placed qs)) rules)) nil f.distinct) in
    (go.0, go.1 ∙ ap (λ (qs : List Variable). run (progress go.0 [] (map (map (placed qs)) rules)) rest) (sym nil), subst (λ (qs : List Variable). RulesPassed m go.0 (length rules) qs) (sym nil) go.2)
sheet_forth [] (q ∷ quants) rules m qs ts rest l e h f = absurd (nil_cons e)
sheet_forth ([] ∷ raw) (q ∷ quants) rules m qs ts rest l e h f =
    let go = sheet_forth raw (q ∷ quants) rules m qs l.0 rest l.2 e h f in
    (go.0, blank-line m [] [] ts l.0 h.mode l.1 ∙ go.1, go.2)
sheet_forth ((w ∷ ws) ∷ raw) (q ∷ quants) rules m qs ts rest l e h f =
    let k = q.kind in
    let line : Line (quantifier_line q) ts l.0 = subst (λ (ws : List (List ℕ)). Line ws ts l.0) (heads e) l.1 in
    let m1 = in_mode (mode.Variables k false) m in
    let does = kind-step m k line.0 h.mode h.section in
    let is : ts ≡ next (letters (kind_word k) line.0) line.1 = line.2 ∙ ap (λ t. next t line.1) (sort_kind k line.0) in
    let to = sym (order-more qs q quants) in
    let go1 = variables_forth k [] [] l.0 q.variables m1 false qs line.1 line.3 refl (quiet_sound m m1 (letters (kind_word k) line.0) (Ok m1) h.sound does refl) (knows_mode m (mode.Variables k false) qs h.knows) (λ _. All-head SomeVariable q quants f.some)
    (range_front m.length k q.variables (order quants) f.range).0 (once_front (qs ++ map (variable k) q.variables) (order quants) (subst Once to f.once))
    (front_reports (qs ++ map (variable k) q.variables) (order quants) (subst (λ (qs : List Variable). report_count (kinds_in qs) ≤ 12) to f.reports)) in
    let read = go1.2 in
    let left : LineRead m go1.0 mode.LineStart (qs ++ map (variable k) q.variables) = record { form = read.form; length = read.length; rules = read.rules; read = read.read; section = read.section; mode = read.mode; sound = read.sound; knows = read.knows } in
    let go = sheet_forth raw quants rules go1.0 (qs ++ map (variable k) q.variables) l.0 rest l.2 (tails e) (record { mode = read.mode; section = read.section ∙ h.section; sound = read.sound; knows = read.knows }) (fit_next m go1.0 qs q quants rules f left) in
    let over = go.2.over in (
      go.0,
      turn m [] [] ts line.1 (letters (kind_word k) line.0) (Ok m1) is does m1 refl ∙ go1.1 ∙ go.1 ∙ ap (λ (qs : List Variable). run (progress go.0 [] (map (map (placed qs)) rules)) rest) (order-more qs q quants),
      record {
        over = record {
          form = over.form ∙ read.form;
          length = over.length ∙ read.length;
          rules = over.rules ∙ read.rules;
          read = omega (arith, over.read, read.read);
          late = over.late;
          knows = subst (λ (qs : List Variable). Knows go.0 qs) (order-more qs q quants) over.knows;
        };
        sound = go.2.sound;
        mode = go.2.mode;
        section = go.2.section ∙ ap (λ (s : Section). section_after s (length rules)) read.section;
      },
    )
