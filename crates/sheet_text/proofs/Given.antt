-- What a word gives: where its literal stands, and when a rule is over.
use Rattle.std.proofs.lemmas.Bool.Decides.{nat_tests}
use Rattle.std.specs.Prelude.{IsSome}
use Rattle.std.proofs.Common.{◌≡◌, ℕ, ◌+◌, ◌-◌, ◌≤◌, eqb, ltb, Some, None, Ok, Err, Option, Result, refl, subst, arith}
use Rattle.std.proofs.lemmas.Bool.{ltb-false, eqb-false, cond_both}
use Rattle.sheet.specs.Literals.{InRange}
use Rattle.sheet_text.specs.Words.{Token, letters, number, line_end}
use Rattle.sheet_text.specs.Keeping.{Sound, Fits, Named}
use Rattle.sheet_text.specs.Machine.{position_of, open_rule, open_in, literal_of, literal_number, literal_word, begun, opened, start_word, comment_word, step_in, step}
use Rattle.sheet_text.specs.FirstWords.{first_word}
use Rattle.faults.specs.declared.sheet.SheetFault.{SheetFault}
use Rattle.sheet_text.specs.declared.state.Mode.{Mode}
use Rattle.sheet_text.specs.declared.state.Mode.TheVariants as mode
use Rattle.sheet_text.specs.declared.state.State.{State}
use Rattle.sheet_text.specs.declared.state.Section.{Section}
use Rattle.sheet_text.specs.declared.taken.Taken.{Taken}
use Rattle.sheet_text.specs.declared.taken.Taken.TheVariants as taken
use Rattle.sheet_text.specs.declared.first.First.{First}
use Rattle.sheet_text.specs.declared.first.First.TheVariants as first
use Rattle.sheet_text.specs.declared.variable.Variable.{Variable}
use Rattle.sheet_text.specs.declared.word.Number.{Number}
use Rattle.sheet_text.proofs.Steps.{filled-all, KeepsR, line_keeps}

-- A literal stands at a position from 1 to 24, and a rule more is read where one is over.
abbrev pub After : ℕ → ℕ → Option Taken → Type 0
After before now None = now ≡ before
After before now (Some (taken.Literal l p)) = (now ≡ before) × InRange l
After before now (Some taken.Rule) = now ≡ before + 1

abbrev Counts : ℕ → Result State SheetFault → Type 0
Counts d (Ok m) = m.read ≡ d
Counts d (Err f) = Unit {0}

abbrev Gives : ℕ → Result (State × Option Taken) SheetFault → Type 0
Gives d (Ok p) = After d p.0.read p.1
Gives d (Err f) = Unit {0}

rule_counts : (m : State) (p : ℕ) → Counts m.read (open_rule m p)
rule_counts m p = grind (arith, nat_tests)

in_counts : (m : State) (s : Section) (f : First) (p : ℕ) → Counts m.read (open_in s m f p)
in_counts m s f p = grind (arith, nat_tests)

-- What has a position is there.
pub some_place : (o : Option Variable) → 1 ≤ position_of o → IsSome o
some_place None h = absurd (omega arith)
some_place (Some v) h = refl

-- In a rule every variable up to n has its position.
pub in_range : (m : State) (n : Number) → Sound m → Fits mode.Literals m → (n.value ≡ 0 → ⊥) → n.value ≤ m.length → InRange (literal_of m n)
in_range m n h f some le =
    let blank-from = subst (λ (s : Section). Named s m.length m.variables m.named m.read) f.0 h.named in
    (filled-all m.variables m.length (omega (arith, h.count, f.1)) blank-from (n.value - 1) (omega arith), omega (arith, h.placed (n.value - 1), h.bound))

number_gives : (m : State) (n : Number) (p : ℕ) → Sound m → Fits mode.Literals m → Gives m.read (literal_number m n p)
number_gives m n p h f =
    let G = Gives m.read in
    cond_both (eqb n.value 0) _ _ G (λ _. refl)
    (λ z. cond_both (ltb m.length n.value) _ _ G (λ _. tt) (λ l. (refl, in_range m n h f (eqb-false n.value 0 z) (ltb-false m.length n.value l))))

literal_gives : (m : State) (s : Token) → Sound m → Fits mode.Literals m → Gives m.read (literal_word m s)
literal_gives m (letters t p) h f = tt
literal_gives m (number n p) h f = number_gives m n p h f
literal_gives m (line_end p) h f = tt

begun_gives : (m : State) (o : Mode) (s : Token) → Sound m → Fits o m → Gives m.read (begun m o s)
begun_gives m mode.Literals s h f = literal_gives m s h f
begun_gives m mode.LineStart s h f = refl
begun_gives m mode.Comment s h f = refl
begun_gives m mode.Form s h f = refl
begun_gives m mode.Length s h f = refl
begun_gives m mode.RuleCount s h f = refl
begun_gives m mode.HeaderEnd s h f = refl
begun_gives m (mode.Variables k some) s h f = refl
begun_gives m mode.LineEnd s h f = refl

opened_gives : (d : ℕ) (o : Result State SheetFault) (s : Token) → KeepsR o → Counts d o → Gives d (opened o s)
opened_gives d (Ok m) s h e = subst (λ (d : ℕ). Gives d (begun m m.mode s)) e (begun_gives m m.mode s h h.mode)
opened_gives d (Err f) s h e = tt

start_gives : (m : State) (s : Token) → Sound m → Gives m.read (start_word m s)
start_gives m (line_end p) h = refl
start_gives m (letters t p) h = opened_gives m.read _ _ (line_keeps m h (first_word t) p) (in_counts m m.section (first_word t) p)
start_gives m (number n p) h = opened_gives m.read _ _ (line_keeps m h first.Number p) (in_counts m m.section first.Number p)

comment_counts : (m : State) (s : Token) → (comment_word m s).read ≡ m.read
comment_counts m (line_end p) = refl
comment_counts m (letters t p) = refl
comment_counts m (number n p) = refl

step_given : (m : State) (o : Mode) (s : Token) → Sound m → Fits o m → Gives m.read (step_in m o s)
step_given m mode.LineStart s h f = start_gives m s h
step_given m mode.Comment s h f = comment_counts m s
step_given m mode.Form s h f = grind (arith, nat_tests)
step_given m mode.Length s h f = grind (arith, nat_tests)
step_given m mode.RuleCount s h f = grind (arith, nat_tests)
step_given m mode.HeaderEnd s h f = grind (arith, nat_tests)
step_given m (mode.Variables k some) s h f = grind (arith, nat_tests)
step_given m mode.Literals s h f = literal_gives m s h f
step_given m mode.LineEnd s h f = grind (arith, nat_tests)

pub step_after : (m : State) (s : Token) (n : State) (x : Option Taken) → Sound m → step m s ≡ Ok (n, x) → After m.read n.read x
step_after m s n x h e = subst (Gives m.read) e (step_given m m.mode s h h.mode)
