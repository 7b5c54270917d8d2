-- How a quantifier line is read.
use Rattle.std.proofs.Common.{All, ◌≡◌, ℕ, suc, ◌+◌, ◌-◌, ◌<◌, ◌≤◌, Bool, true, false, ◌⊎◌, List, [], ◌∷◌, ◌++◌, map, length, get_or, is_some, None, Ok, Err, codes, decimal, Result, sym, refl, ap, ◌∙◌, subst, arith}
use lib.Count.{ones}
use Rattle.std.proofs.lemmas.List.{append_assoc, append-nil, map-append}
use Rattle.std.proofs.lemmas.Bool.Decides.{nat_tests}
use Rattle.std.proofs.lemmas.Bool.{leb-false, lt-leb}
use Rattle.std.proofs.lemmas.List.Elements.{All-head, All-tail}
use Rattle.prefix.specs.Kinds.{report_count}
use Rattle.prefix.specs.declared.kind.Kind.{Kind}
use Rattle.prefix.specs.declared.kind.Kind.TheVariants.{Report, Reply}
use Rattle.sheet.specs.declared.literal.Literal.{Literal}
use Rattle.sheet_text.specs.Grammar.{Variable, variable, position_in, Once, Ranges}
use Rattle.sheet_text.specs.Keeping.{Sound, position_at}
use Rattle.sheet_text.specs.Machine.{in_mode, nothing, step, report_too_many, naming, variable_number, variable_word, line_over}
use Rattle.sheet_text.specs.Reading.{run}
use Rattle.sheet_text.specs.Words.{Token, line_end, sort_word}
use Rattle.sheet_text.specs.Cuts.{Tokens, next}
use Rattle.faults.specs.declared.sheet.SheetFault.{SheetFault}
use Rattle.sheet_text.specs.declared.state.Mode.{Mode}
use Rattle.sheet_text.specs.declared.state.Mode.TheVariants as mode
use Rattle.sheet_text.specs.declared.state.State.{State}
use Rattle.sheet_text.proofs.Lining.{Line, WordsTo, line_split}
use Rattle.sheet_text.proofs.Naming.{Knows, knows_mode, knows_more, knows_reports, once_later}
use Rattle.sheet_text.proofs.Running.{progress}
use Rattle.sheet_text.proofs.Steps.{step_sound}
use Rattle.sheet_text.proofs.Turning.{step_in_lem, turn}
use Rattle.sheet_text.proofs.WordReads.{sort_zero, sort_decimal}

-- After the 0 of a line: it ends there.
pub over_refuses : (m u : State) (w : List ℕ) (p : ℕ) → line_over m (sort_word w p) ≡ Ok u → ⊥
over_refuses m u w p e = grind (arith, nat_tests)

module _ (m : State) (ls : List Literal) (done : List (List Literal)) (rest : Tokens) (at : m.mode ≡ mode.LineEnd) where
  pub over_forth : (ts : Tokens) → Line [] ts rest → run (progress m ls done) ts ≡ run (progress (in_mode mode.LineStart m) ls done) rest
  over_forth ts l = turn m ls done ts rest (line_end l.0) (Ok (in_mode mode.LineStart m)) l.1 (step_in_lem m mode.LineEnd (line_end l.0) at) (in_mode mode.LineStart m) refl

-- What a number does in a quantifier line.
abbrev pub Did : State → Kind → Bool → ℕ → Result State SheetFault → Type 0
Did m k some v (Ok u) = ((v ≡ 0) × (some ≡ true) × (in_mode mode.LineEnd m ≡ u)) ⊎ (Ranges m.length v × (report_too_many m.reports k ≡ false) × (position_at m (v - 1) ≡ 0) × (naming m k v ≡ u))
Did m k some v (Err f) = Unit {0}

pub variable_back : (m u : State) (k : Kind) (some : Bool) (v p : ℕ) → variable_number m k some v p ≡ Ok u → Did m k some v (Ok u)
variable_back m u k some v p e = grind (arith, nat_tests)

variable_forth : (m : State) (k : Kind) (some : Bool) (v p : ℕ) → Ranges m.length v → report_too_many m.reports k ≡ false → is_some (get_or m.variables (v - 1) None) ≡ false → variable_number m k some v p ≡ Ok (naming m k v)
variable_forth m k some v p r few free = grind (arith, nat_tests)

-- Reports among the kinds of variables.
abbrev pub kinds_in : List Variable → List Kind
kinds_in qs = map (λ q. q.kind) qs

count-append : (xs ys : List Kind) → report_count (xs ++ ys) ≡ report_count xs + report_count ys
count-append [] ys = omega arith
count-append (Report ∷ xs) ys = omega (arith, count-append xs ys)
count-append (Reply ∷ xs) ys = count-append xs ys

pub count-kinds : (xs ys : List Variable) → report_count (kinds_in (xs ++ ys)) ≡ report_count (kinds_in xs) + report_count (kinds_in ys)
count-kinds xs ys = ap report_count (map-append (λ q. q.kind) xs ys) ∙ count-append (kinds_in xs) (kinds_in ys)

-- Where the reports stay within twelve there is room for the next, and the other way round.
report_room : (m : State) (qs : List Variable) (k : Kind) (v : ℕ) (rest : List Variable) → Knows m qs → report_count (kinds_in (qs ++ variable k v ∷ rest)) ≤ 12 → report_too_many m.reports k ≡ false
report_room m qs Report v rest h few = lt-leb 12 (ones m.reports) (omega (arith, knows_reports m qs h, count-kinds qs (variable Report v ∷ rest)))
report_room m qs Reply v rest h few = refl

pub room_report : (m : State) (qs : List Variable) (k : Kind) (v : ℕ) → Knows m qs → report_too_many m.reports k ≡ false → report_count (kinds_in qs) ≤ 12 → report_count (kinds_in (qs ++ variable k v ∷ [])) ≤ 12
room_report m qs Report v h room few = omega (arith, leb-false 12 (ones m.reports) room, knows_reports m qs h, count-kinds qs (variable Report v ∷ []))
room_report m qs Reply v h room few = omega (arith, count-kinds qs (variable Reply v ∷ []))

-- How variables leave the reader: as it was, but for them and for what it waits for.
pub record LineRead (m after : State) (o : Mode) (qs : List Variable) : Type 0 where
  pub form : after.form ≡ m.form
  pub length : after.length ≡ m.length
  pub rules : after.rules ≡ m.rules
  pub read : after.read ≡ m.read
  pub section : after.section ≡ m.section
  pub mode : after.mode ≡ o
  pub sound : Sound after
  pub knows : Knows after qs

-- A step that gives nothing leaves a sound reader.
pub quiet_sound : (m u : State) (w : Token) (x : Result State SheetFault) → Sound m → step m w ≡ nothing x → x ≡ Ok u → Sound u
quiet_sound m u w x h does e = step_sound m w u None h (does ∙ ap nothing e)

pub over_sound : (m : State) → Sound m → m.mode ≡ mode.LineEnd → Sound (in_mode mode.LineStart m)
over_sound m h at = grind (arith, nat_tests)

-- Whether a line has a variable, once some more are named.
abbrev pub some_after : Bool → List ℕ → Bool
some_after some [] = some
some_after some (v ∷ vs) = true

pub variables_on : (k : Kind) (ls : List Literal) (done : List (List Literal)) (vs : List ℕ) (m : State) (some : Bool) (qs : List Variable) (ts rest : Tokens) → WordsTo (map decimal vs) ts rest
    → m.mode ≡ mode.Variables k some → Sound m → Knows m qs → All (Ranges m.length) vs → Once (qs ++ map (variable k) vs) → report_count (kinds_in (qs ++ map (variable k) vs)) ≤ 12
    → (after : State) × (run (progress m ls done) ts ≡ run (progress after ls done) rest) × LineRead m after (mode.Variables k (some_after some vs)) (qs ++ map (variable k) vs)
variables_on k ls done [] m some qs ts rest l at s h range once few = (
  m,
  ap (run (progress m ls done)) l,
  record { form = refl; length = refl; rules = refl; read = refl; section = refl; mode = at; sound = s; knows = subst (λ (qs : List Variable). Knows m qs) (sym (append-nil qs)) h },
)
variables_on k ls done (v ∷ vs) m some qs ts rest l at s h range once few =
    let w = sort_word (decimal v) l.0 in
    let here : Ranges m.length v = All-head (Ranges m.length) v vs range in
    let small : v < 1000000 = omega (arith, here.1, s.short) in
    let free : position_at m (v - 1) ≡ 0 = h.positions (v - 1) ∙ ap (position_in qs) (let z : suc (v - 1) ≡ v = omega (arith, here.0) in z) ∙ once_later qs v k (map (variable k) vs) once in
    let does = step_in_lem m (mode.Variables k some) w at in
    let e : variable_word m k some w ≡ Ok (naming m k v) = ap (variable_word m k some) (sort_decimal v l.0 small) ∙ variable_forth m k some v l.0 here (report_room m qs k v (map (variable k) vs) h few) (s.known (v - 1) free) in
    let assoc : (qs ++ variable k v ∷ []) ++ map (variable k) vs ≡ qs ++ variable k v ∷ map (variable k) vs = append_assoc qs (variable k v ∷ []) (map (variable k) vs) in
    let go = variables_on k ls done vs (naming m k v) true (qs ++ variable k v ∷ []) l.1 rest l.3 refl (quiet_sound m (naming m k v) w _ s does e) (knows_more m qs k v h s.all s.short here free)
    (All-tail (Ranges m.length) v vs range) (subst Once (sym assoc) once) (subst (λ (qs : List Variable). report_count (kinds_in qs) ≤ 12) (sym assoc) few) in
    let o = go.2 in (
      go.0,
      turn m ls done ts l.1 w (variable_word m k some w) l.2 does (naming m k v) e ∙ go.1,
      record { form = o.form; length = o.length; rules = o.rules; read = o.read; section = o.section; mode = o.mode ∙ ap (mode.Variables k) (stays vs); sound = o.sound; knows = subst (λ (qs : List Variable). Knows go.0 qs) assoc o.knows },
    )
  where
    stays : (vs : List ℕ) → some_after true vs ≡ true
    stays [] = refl
    stays (v ∷ vs) = refl

module _ (k : Kind) (ls : List Literal) (done : List (List Literal)) (rest : Tokens) where
  -- The 0 of a line that has named a variable, and the end of the line.
  pub zero_passed : (m : State) (ts after : Tokens) (p : ℕ) → ts ≡ next (sort_word (codes "0") p) after → m.mode ≡ mode.Variables k true → Sound m
      → (run (progress m ls done) ts ≡ run (progress (in_mode mode.LineEnd m) ls done) after) × Sound (in_mode mode.LineEnd m)
  zero_passed m ts after p is at s =
      let w = sort_word (codes "0") p in
      let does = step_in_lem m (mode.Variables k true) w at in
      let e : variable_word m k true w ≡ Ok (in_mode mode.LineEnd m) = ap (variable_word m k true) (sort_zero p) in
      (turn m ls done ts after w (variable_word m k true w) is does (in_mode mode.LineEnd m) e, quiet_sound m (in_mode mode.LineEnd m) w _ s does e)

  zero_forth : (m : State) (qs : List Variable) (ts : Tokens) → Line (codes "0" ∷ []) ts rest → m.mode ≡ mode.Variables k true → Sound m → Knows m qs
      → (after : State) × (run (progress m ls done) ts ≡ run (progress after ls done) rest) × LineRead m after mode.LineStart qs
  zero_forth m qs ts l at s h =
      let zero = zero_passed m ts l.1 l.0 l.2 at s in
      let over = in_mode mode.LineEnd m in (
        in_mode mode.LineStart over,
        zero.0 ∙ over_forth over ls done rest refl l.1 l.3,
        record { form = refl; length = refl; rules = refl; read = refl; section = refl; mode = refl; sound = over_sound over zero.1 refl; knows = knows_mode over mode.LineStart qs (knows_mode m mode.LineEnd qs h) },
      )

  pub variables_forth : (vs : List ℕ) (m : State) (some : Bool) (qs : List Variable) (ts : Tokens) → Line (map decimal vs ++ codes "0" ∷ []) ts rest
      → m.mode ≡ mode.Variables k some → Sound m → Knows m qs → (some ≡ false → 1 ≤ length vs) → All (Ranges m.length) vs → Once (qs ++ map (variable k) vs)
      → report_count (kinds_in (qs ++ map (variable k) vs)) ≤ 12
      → (after : State) × (run (progress m ls done) ts ≡ run (progress after ls done) rest) × LineRead m after mode.LineStart (qs ++ map (variable k) vs)
  variables_forth vs m some qs ts l at s h one range once few =
      let split = line_split (map decimal vs) (codes "0" ∷ []) ts rest l in
      let on = variables_on k ls done vs m some qs ts split.0 split.1 at s h range once few in
      let u = on.0 in
      let o = on.2 in
      let yes : some_after some vs ≡ true = some_yes some vs one in
      let over = zero_forth u (qs ++ map (variable k) vs) split.0 split.2 (o.mode ∙ ap (mode.Variables k) yes) o.sound o.knows in
      let left = over.2 in
      (over.0, on.1 ∙ over.1, record { form = left.form ∙ o.form; length = left.length ∙ o.length; rules = left.rules ∙ o.rules; read = left.read ∙ o.read; section = left.section ∙ o.section; mode = left.mode; sound = left.sound; knows = left.knows })
    where
      some_yes : (some : Bool) (vs : List ℕ) → (some ≡ false → 1 ≤ length vs) → some_after some vs ≡ true
      some_yes true [] one = refl
      some_yes false [] one = absurd (omega (arith, one refl))
      some_yes some (v ∷ vs) one = refl
