-- What rules mean: literals that hold or fail, clauses, terms.
use Rattle.std.specs.Prelude.{ℕ, zero, suc, Bool, false, cond, not, ◌&&◌, List, [], ◌∷◌, length, Some, None, Option, nat_le, slice_index_or}
use Rattle.std.specs.Bool.{beq}
use Rattle.std.specs.List.{list_any, list_all}
use Rattle.prefix.specs.Bits.{bit}
use Rattle.sheet.specs.declared.form.Form.{Form}
use Rattle.sheet.specs.declared.form.Form.TheVariants.{Cnf, Dnf}
use Rattle.sheet.specs.declared.literal.Literal.{Literal}
use Rattle.sheet.specs.declared.rule.Rule.{Rule}

-- The value that a rule wants at a position, if it names it.
abbrev pub wanted_at : Rule → ℕ → Option Bool
wanted_at r zero = None
wanted_at r (suc i) = cond (bit r.named i) (Some (bit r.wanted i)) None

-- The literal of a rule at position i + 1, where it names that.
abbrev pub literal_at : Rule → ℕ → Literal
literal_at r i = record { position = suc i; wanted = bit r.wanted i }

-- The literals of a rule at the positions 1 to n; one past n counts as absent.
abbrev pub literals : Rule → ℕ → List Literal
literals r zero = []
literals r (suc i) = cond (bit r.named i) (literal_at r i ∷ literals r i) (literals r i)

-- The value of a part line at a position; off where it has none.
abbrev pub value_at : List Bool → ℕ → Bool
value_at u zero = false
value_at u (suc i) = slice_index_or u i false

-- A literal holds, or fails, at the values of the first positions: its position is among them, and has the wanted value, or not.
abbrev pub holds : List Bool → Literal → Bool
holds u l = nat_le l.position (length u) && beq (value_at u l.position) l.wanted

abbrev pub fails : List Bool → Literal → Bool
fails u l = nat_le l.position (length u) && not (beq (value_at u l.position) l.wanted)

-- Clauses over n positions: a line is kept when each rule has a literal that holds,
-- and a part line breaks them when all literals of some rule fail.
abbrev pub clauses_kept : ℕ → List Rule → List Bool → Bool
clauses_kept n rules v = list_all (λ r. list_any (holds v) (literals r n)) rules

abbrev pub clauses_broken : ℕ → List Rule → List Bool → Bool
clauses_broken n rules u = list_any (λ r. list_all (fails u) (literals r n)) rules

-- Terms over n positions: a line is kept when all literals of some rule hold,
-- and a part line breaks them when each rule has a literal that fails.
abbrev pub terms_kept : ℕ → List Rule → List Bool → Bool
terms_kept n rules v = list_any (λ r. list_all (holds v) (literals r n)) rules

abbrev pub terms_broken : ℕ → List Rule → List Bool → Bool
terms_broken n rules u = list_all (λ r. list_any (fails u) (literals r n)) rules

-- The lines that the rules of a sheet keep, by its form.
abbrev pub rules_kept : Form → ℕ → List Rule → List Bool → Bool
rules_kept Cnf = clauses_kept
rules_kept Dnf = terms_kept
