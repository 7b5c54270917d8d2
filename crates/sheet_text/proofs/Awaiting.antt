-- How a reader stands for what is wanted next.
use Rattle.std.proofs.Common.{◌≡◌, ℕ, zero, suc, ◌⊎◌, Bool, false, true, List, [], ◌∷◌, ◌++◌, map, length}
use Rattle.sheet.specs.declared.literal.Literal.{Literal}
use Rattle.sheet_text.specs.Grammar as grammar
use Rattle.sheet_text.specs.Grammar.{Variable, Signed, placed}
use Rattle.sheet_text.specs.Keeping.{Sound}
use Rattle.sheet_text.specs.Machine.{start, in_mode, with_length, with_rules}
use Rattle.sheet_text.specs.Grammar.{Header}
use Rattle.sheet_text.specs.Beginnings.{Awaited, opening, comment, form, variable_count, rule_count, line, variable, literal, over}
use Rattle.sheet_text.specs.declared.state.Mode.TheVariants as mode
use Rattle.sheet_text.specs.declared.state.State.{State}
use Rattle.sheet_text.specs.declared.state.Section.{Section}
use Rattle.sheet_text.specs.declared.state.Section.TheVariants.{Opening, Quantifiers, Rules}
use Rattle.sheet_text.proofs.HeaderReads.{waiting}
use Rattle.sheet_text.proofs.Naming.{Knows}

-- The section after the header, by how many rules there are.
abbrev pub section_of : ℕ → Section
section_of zero = Quantifiers
section_of (suc n) = Rules

pub not_opening_then : {s : Section} → (n : ℕ) → s ≡ section_of n → s ≡ Opening → ⊥
not_opening_then zero is e = cc (is, e)
not_opening_then (suc n) is e = cc (is, e)

-- Whether a line has named a variable.
abbrev pub some_in : List ℕ → Bool
some_in [] = false
some_in (v ∷ vs) = true

-- A reader after the header.
pub record Late (m : State) (h : Header) (qs : List Variable) (count : ℕ) : Type 0 where
  pub sound : Sound m
  pub knows : Knows m qs
  pub form : m.form ≡ h.form
  pub length : m.length ≡ h.length
  pub rules : m.rules ≡ h.rules
  pub read : m.read ≡ count

-- A reader whose line is over but for its end: another line's, or the header's.
abbrev pub Over : State → Header → List Variable → List (List Signed) → Type 0
Over m h qs rs = ((m.mode ≡ mode.LineEnd) × (m.section ≡ section_of (length rs)) × Late m h qs (length rs)) ⊎ ((m ≡ with_rules (with_length (waiting h.form) h.length) h.rules) × (qs ≡ []) × (rs ≡ []))

-- The literals of rules, at their positions.
abbrev pub placed_rules : List Variable → List (List Signed) → List (List Literal)
placed_rules qs rs = map (map (placed qs)) rs

-- The reader, with the literals of the rule that it is in and the rules that are over, waits for what is wanted.
abbrev pub Reflects : State → List Literal → List (List Literal) → Awaited → Type 0
Reflects m ls done opening = (m ≡ start) × (ls ≡ []) × (done ≡ [])
Reflects m ls done comment = (m ≡ in_mode mode.Comment start) × (ls ≡ []) × (done ≡ [])
Reflects m ls done form = (m ≡ in_mode mode.Form start) × (ls ≡ []) × (done ≡ [])
Reflects m ls done (variable_count f) = (m ≡ waiting f) × (ls ≡ []) × (done ≡ [])
Reflects m ls done (rule_count f n) = (m ≡ with_length (waiting f) n) × (ls ≡ []) × (done ≡ [])
Reflects m ls done (line h qs rs) = (m.mode ≡ mode.LineStart) × (m.section ≡ section_of (length rs)) × Late m h qs (length rs) × (ls ≡ []) × (done ≡ placed_rules qs rs)
Reflects m ls done (variable h qs k vs) = (m.mode ≡ mode.Variables k (some_in vs)) × (m.section ≡ Quantifiers) × Late m h (qs ++ map (grammar.variable k) vs) 0 × (ls ≡ []) × (done ≡ [])
Reflects m ls done (literal h qs rs ss) = (m.mode ≡ mode.Literals) × (m.section ≡ Rules) × Late m h qs (length rs) × (ls ≡ map (placed qs) ss) × (done ≡ placed_rules qs rs)
Reflects m ls done (over h qs rs) = Over m h qs rs × (ls ≡ []) × (done ≡ placed_rules qs rs)
