-- What each word leaves is a sound reader.
use Rattle.std.proofs.Common.{◌≡◌, ℕ, zero, suc, ◌+◌, ◌-◌, ◌<◌, ◌≤◌, Bool, false, eqb, ltb, List, [], ◌∷◌, length, get_or, set, replicate, is_some, Some, None, Ok, Err, Option, Result, sym, refl, ap, ◌∙◌, subst, ⊎_elim, arith}
use Rattle.std.proofs.lemmas.Bool.Decides.{nat_tests}
use Rattle.std.proofs.lemmas.Bool.{cases_eq, ltb-false, eqb-false, cond_both, true≢false}
use Rattle.std.proofs.lemmas.List.{get_or-set_same, get_or-set_other, length-set}
use Rattle.prefix.specs.declared.kind.Kind.{Kind}
use Rattle.sheet.specs.declared.form.Form.{Form}
use Rattle.sheet_text.specs.Words.{Token, letters, number, line_end, place_of}
use Rattle.sheet_text.specs.Keeping.{Sound, Fits, Named, BlankFrom, position_at, counts, filled}
use Rattle.sheet_text.specs.Machine.{position_of, in_mode, in_section, nothing, open_rule, open_in, open_line, with_form, form_word, with_length, length_word, with_rules, rule_count_word, header_end, line_over, naming, report_too_many, variable_number, variable_word, literal_number, literal_word, start_word, comment_word, step_in, step}
use Rattle.sheet_text.specs.Wanted.{after, natural_in, within, natural_within, end_in, form_in}
use Rattle.faults.specs.declared.sheet.SheetFault.{SheetFault}
use Rattle.sheet_text.specs.declared.state.Mode.{Mode}
use Rattle.sheet_text.specs.declared.state.Mode.TheVariants as mode
use Rattle.sheet_text.specs.declared.state.State.{State}
use Rattle.sheet_text.specs.declared.state.Section.{Section}
use Rattle.sheet_text.specs.declared.state.Section.TheVariants.{Opening, Quantifiers, Rules}
use Rattle.sheet_text.specs.declared.taken.Taken.{Taken}
use Rattle.sheet_text.specs.declared.first.First.{First}
use Rattle.sheet_text.specs.declared.first.First.TheVariants as first
use Rattle.sheet_text.specs.declared.variable.Variable.{Variable}
use Rattle.sheet_text.specs.declared.word.Number.{Number}

pub err_ok : {X : Type 0} (f : SheetFault) (x : X) → ◌≡◌ {A = Result X SheetFault} (Err f) (Ok x) → ⊥
err_ok f x e = cc e

-- What is not there has no position.
pub free_place : (o : Option Variable) → is_some o ≡ false → position_of o ≡ 0
free_place None e = refl
free_place (Some v) e = absurd (true≢false e)

-- Counting the variables that have their position.
counts-blank : (v : Option Variable) → position_of v ≡ 0 → counts v ≡ 0
counts-blank v e = grind (arith, nat_tests)

counts_one : (v : Option Variable) → counts v ≤ 1
counts_one v = grind (arith, nat_tests)

pub filled_le : (vs : List (Option Variable)) → filled vs ≤ length vs
filled_le [] = omega arith
filled_le (v ∷ vs) = omega (arith, filled_le vs, counts_one v)

pub filled_set : (vs : List (Option Variable)) (i : ℕ) (x : Option Variable) → i < length vs → position_of (get_or vs i None) ≡ 0 → (position_of x ≡ 0 → ⊥) → filled (set vs i x) ≡ filled vs + 1
filled_set [] i x h e ne = absurd (omega arith)
filled_set (v ∷ vs) zero x h e ne = grind (arith, nat_tests)
filled_set (v ∷ vs) (suc i) x h e ne = omega (arith, filled_set vs i x (omega arith) e ne)

-- Where none is filled, each is blank.
pub filled_none : (vs : List (Option Variable)) → filled vs ≡ 0 → (i : ℕ) → position_of (get_or vs i None) ≡ 0
filled_none [] e i = refl
filled_none (v ∷ vs) e zero = grind (arith, nat_tests)
filled_none (v ∷ vs) e (suc i) = filled_none vs (omega arith) i

-- Where none past the n-th is filled, at most n are.
filled-few : (vs : List (Option Variable)) (n : ℕ) → BlankFrom n vs → filled vs ≤ n
filled-few [] n rest = omega arith
filled-few (v ∷ vs) zero rest = omega (arith, counts-blank v (rest 0 (omega arith)), filled-few vs 0 (λ i _. rest (suc i) (omega arith)))
filled-few (v ∷ vs) (suc n) rest = omega (arith, counts_one v, filled-few vs n (λ i h. rest (suc i) (omega arith)))

-- Where as many are filled as there may be, each of those is.
pub filled-all : (vs : List (Option Variable)) (n : ℕ) → n ≤ filled vs → BlankFrom n vs → (i : ℕ) → i < n → 1 ≤ position_of (get_or vs i None)
filled-all [] n e rest i h = absurd (omega arith)
filled-all (v ∷ vs) zero e rest i h = absurd (omega arith)
filled-all (v ∷ vs) (suc n) e rest zero h =
    ⊎_elim (λ (z : position_of v ≡ 0). absurd (omega (arith, counts-blank v z, filled-few vs n (λ i k. rest (suc i) (omega arith)))))
    (λ (ne : position_of v ≡ 0 → ⊥). omega arith) (cases_eq (position_of v) 0)
filled-all (v ∷ vs) (suc n) e rest (suc i) h = filled-all vs n (omega (arith, counts_one v)) (λ i k. rest (suc i) (omega arith)) i (omega arith)

pub none_at : (n i : ℕ) → is_some (get_or {A = Option Variable} (replicate n None) i None) ≡ false
none_at zero i = refl
none_at (suc n) zero = refl
none_at (suc n) (suc i) = none_at n i

-- What a step leaves is sound.
abbrev pub KeepsR : Result State SheetFault → Type 0
KeepsR (Ok m) = Sound m
KeepsR (Err f) = Unit {0}

abbrev pub Keeps : Result (State × Option Taken) SheetFault → Type 0
Keeps (Ok p) = Sound p.0
Keeps (Err f) = Unit {0}

nothing_keeps : (o : Result State SheetFault) → KeepsR o → Keeps (nothing o)
nothing_keeps (Ok m) h = h
nothing_keeps (Err f) h = tt

after_keeps : {A : Type 0} (o : Result A SheetFault) (go : A → Result State SheetFault) → ((x : A) → o ≡ Ok x → KeepsR (go x)) → KeepsR (after o go)
after_keeps (Ok x) go h = h x refl
after_keeps (Err f) go h = tt

-- A number that was wanted within limits is within them.
within_limits : (l h p v x : ℕ) → within l h p v ≡ Ok x → x ≤ h
within_limits l h p v x e = grind (arith, nat_tests)

natural_limits : (l h : ℕ) (s : Token) (x : ℕ) → natural_within l h s ≡ Ok x → x ≤ h
natural_limits l h s x e = by (natural_in s) e
  where
    by : (o : Result ℕ SheetFault) → after o (within l h (place_of s)) ≡ Ok x → x ≤ h
    by (Ok v) e = within_limits l h (place_of s) v x e
    by (Err f) e = absurd (err_ok f x e)

module _ (m : State) (h : Sound m) where
  abbrev NamedAs : Section → Type 0
  NamedAs s = Named s m.length m.variables m.named m.read

  in_mode_lem : (o : Mode) → Fits o (in_mode o m) → Sound (in_mode o m)
  in_mode_lem o f = grind (arith, nat_tests)

  rule_keeps : (p : ℕ) → BlankFrom m.length m.variables → KeepsR (open_rule m p)
  rule_keeps p rest = grind (arith, nat_tests)

  in_keeps : (s : Section) (f : First) (p : ℕ) → m.section ≡ s → NamedAs s → KeepsR (open_in s m f p)
  in_keeps Opening first.Comment p e n = in_mode_lem mode.Comment e
  in_keeps Opening first.Header p e n = in_mode_lem mode.Form e
  in_keeps Opening (first.Quantifier k) p e n = tt
  in_keeps Opening first.Number p e n = tt
  in_keeps Opening first.Letters p e n = tt
  in_keeps Opening first.Other p e n = tt
  in_keeps Quantifiers first.Comment p e n = tt
  in_keeps Quantifiers first.Header p e n = tt
  in_keeps Quantifiers (first.Quantifier k) p e n = in_mode_lem (mode.Variables k false) e
  in_keeps Quantifiers first.Number p e n = rule_keeps p n
  in_keeps Quantifiers first.Letters p e n = tt
  in_keeps Quantifiers first.Other p e n = tt
  in_keeps Rules first.Comment p e n = tt
  in_keeps Rules first.Header p e n = tt
  in_keeps Rules (first.Quantifier k) p e n = tt
  in_keeps Rules first.Number p e n = rule_keeps p n
  in_keeps Rules first.Letters p e n = tt
  in_keeps Rules first.Other p e n = tt

  pub line_keeps : (f : First) (p : ℕ) → KeepsR (open_line m f p)
  line_keeps f p = in_keeps m.section f p refl h.named

  named_by : (s : Section) → m.section ≡ s → NamedAs s
  named_by s e = subst NamedAs e h.named

  form_keeps : (f : Form) → m.section ≡ Opening → Sound (with_form m f)
  form_keeps f e = grind (arith, nat_tests)

  length_keeps : (v : ℕ) → v ≤ 24 → m.section ≡ Opening → Sound (with_length m v)
  length_keeps v l e = grind (arith, nat_tests)

  rules_keep : (v : ℕ) → v ≤ 256 → m.section ≡ Opening → Sound (with_rules m v)
  rules_keep v l e = grind (arith, nat_tests)

  header_keeps : m.section ≡ Opening → Sound (in_section Quantifiers (in_mode mode.LineStart m))
  header_keeps e = grind (arith, nat_tests)

  pub naming_keeps : (k : Kind) (v : ℕ) → m.section ≡ Quantifiers → (v ≡ 0 → ⊥) → v ≤ m.length → position_at m (v - 1) ≡ 0 → Sound (naming m k v)
  naming_keeps k v e some le free =
      let i = v - 1 in
      let x : Option Variable = Some (record { kind = k; position = m.named + 1 }) in
      let inside : i < length m.variables = omega (arith, h.short, h.all) in
      let count : filled (set m.variables i x) ≡ m.named + 1 = filled_set m.variables i x inside free (λ z. omega arith) ∙ ap (λ (c : ℕ). c + 1) h.count in
      let all : length (set m.variables i x) ≡ 24 = length-set m.variables i x ∙ h.all in
      record {
        short = h.short;
        few = h.few;
        all = all;
        count = count;
        bound = omega (arith, filled_le (set m.variables i x));
        placed = λ j. ⊎_elim (λ (same : j ≡ i). subst (λ (j : ℕ). position_of (get_or (set m.variables i x) j None) ≤ m.named + 1) (sym same) (let at = ap position_of (get_or-set_same m.variables i x None inside) in omega arith))
            (λ (ne : j ≡ i → ⊥). let at = ap position_of (get_or-set_other m.variables i j x None ne) in omega (arith, h.placed j)) (cases_eq j i);
        known = λ j e. ⊎_elim (λ (same : j ≡ i). let at = ap position_of (ap (λ (j : ℕ). get_or (set m.variables i x) j None) same ∙ get_or-set_same m.variables i x None inside) in absurd (omega arith))
            (λ (ne : j ≡ i → ⊥). let at = get_or-set_other m.variables i j x None ne in ap is_some at ∙ h.known j (ap position_of (sym at) ∙ e)) (cases_eq j i);
        read = h.read;
        named = subst (λ (s : Section). Named s m.length (set m.variables i x) (m.named + 1) m.read) (sym e)
            (λ j l. ap position_of (get_or-set_other m.variables i j x None (λ z. omega arith)) ∙ named_by Quantifiers e j l);
        mode = e;
      }

  variable_keeps : (k : Kind) (some : Bool) (v p : ℕ) → m.section ≡ Quantifiers → KeepsR (variable_number m k some v p)
  variable_keeps k some v p e =
      cond_both (eqb v 0) _ _ KeepsR
      (λ _. cond_both some _ _ KeepsR (λ _. in_mode_lem mode.LineEnd tt) (λ _. tt))
      (λ z. cond_both (ltb m.length v) _ _ KeepsR (λ _. tt)
      (λ l. cond_both (report_too_many m.reports k) _ _ KeepsR (λ _. tt)
      (λ _. cond_both (is_some (get_or m.variables (v - 1) None)) _ _ KeepsR (λ _. tt)
      (λ free. naming_keeps k v e (eqb-false v 0 z) (ltb-false m.length v l) (free_place (get_or m.variables (v - 1) None) free)))))

  literal_keeps : (n : Number) (p : ℕ) → Fits mode.Literals m → Keeps (literal_number m n p)
  literal_keeps n p f = grind (arith, nat_tests)

  word_keeps : (s : Token) → Fits mode.Literals m → Keeps (literal_word m s)
  word_keeps (letters t p) f = tt
  word_keeps (number n p) f = literal_keeps n p f
  word_keeps (line_end p) f = tt

start_keeps : (m : State) (s : Token) → Sound m → Keeps (start_word m s)
start_keeps m (line_end p) h = h
start_keeps m (letters t p) h = grind (arith, nat_tests)
start_keeps m (number n p) h = grind (arith, nat_tests)

comment_keeps : (m : State) (s : Token) → Sound m → Sound (comment_word m s)
comment_keeps m (line_end p) h = in_mode_lem m h mode.LineStart tt
comment_keeps m (letters t p) h = h
comment_keeps m (number n p) h = h

pub step_keeps : (m : State) (o : Mode) (s : Token) → Sound m → Fits o m → Keeps (step_in m o s)
step_keeps m mode.LineStart s h f = start_keeps m s h
step_keeps m mode.Comment s h f = comment_keeps m s h
step_keeps m mode.Form s h f = nothing_keeps (form_word m s) (after_keeps (form_in s) _ (λ x _. form_keeps m h x f))
step_keeps m mode.Length s h f = nothing_keeps (length_word m s) (after_keeps (natural_within 1 24 s) _ (λ v e. length_keeps m h v (natural_limits 1 24 s v e) f))
step_keeps m mode.RuleCount s h f = nothing_keeps (rule_count_word m s) (after_keeps (natural_within 0 256 s) _ (λ v e. rules_keep m h v (natural_limits 0 256 s v e) f))
step_keeps m mode.HeaderEnd s h f = nothing_keeps (header_end m s) (after_keeps (end_in s) _ (λ _ _. header_keeps m h f))
step_keeps m (mode.Variables k some) s h f = nothing_keeps (variable_word m k some s) (after_keeps (natural_in s) _ (λ v _. variable_keeps m h k some v (place_of s) f))
step_keeps m mode.Literals s h f = word_keeps m h s f
step_keeps m mode.LineEnd s h f = nothing_keeps (line_over m s) (after_keeps (end_in s) _ (λ _ _. in_mode_lem m h mode.LineStart tt))

pub step_sound : (m : State) (s : Token) (n : State) (x : Option Taken) → Sound m → step m s ≡ Ok (n, x) → Sound n
step_sound m s n x h e = subst Keeps e (step_keeps m m.mode s h h.mode)
