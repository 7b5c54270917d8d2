-- Rules put together from literals.
use Rattle.std.specs.Prelude.{◌≡◌, ℕ, ◌≤◌, Bool, false, cond, List, [], ◌∷◌, Some, None, Option, ◌==◌, ◌≢◌}
use Rattle.prefix.specs.Bits.{mask_value}
use Rattle.sheet.specs.Rules.{wanted_at}
use Rattle.sheet.specs.declared.literal.Literal.{Literal}
use Rattle.sheet.specs.declared.rule.Rule.{Rule}

-- The literal stands at a position that a prefix can have.
abbrev pub InRange : Literal → Type 0
InRange l = (1 ≤ l.position) × (l.position ≤ 24)

-- A rule takes a literal at a position that it does not name yet.
abbrev pub Nameable : Rule → Literal → Type 0
Nameable r l = InRange l × (wanted_at r l.position ≡ None)

-- A rule keeps no value where it names no position, so that its literals fix both of its masks.
abbrev pub Tidy : Rule → Type 0
Tidy r = (k : ℕ) → wanted_at r k ≡ None → mask_value r.wanted k ≡ false

-- The rule r' is r with the literal l.
pub record Joined (r : Rule) (l : Literal) (r' : Rule) : Type 0 where
  pub nameable : Nameable r l
  pub here : wanted_at r' l.position ≡ Some l.wanted
  pub elsewhere : (k : ℕ) → (k ≢ l.position) → wanted_at r' k ≡ wanted_at r k
  pub tidy : Tidy r → Tidy r'

-- The value that a list of literals wants at a position.
abbrev pub lookup : List Literal → ℕ → Option Bool
lookup [] k = None
lookup (l ∷ ls) k = cond (k == l.position) (Some l.wanted) (lookup ls k)

-- The literals stand at positions 1 to 24, no two at one.
abbrev pub Distinct : List Literal → Type 0
Distinct [] = Unit {0}
Distinct (l ∷ ls) = InRange l × (lookup ls l.position ≡ None) × Distinct ls

-- The rule r has the literals ls, which are distinct, and nothing else.
pub record Made (ls : List Literal) (r : Rule) : Type 0 where
  pub distinct : Distinct ls
  pub wanted : (k : ℕ) → wanted_at r k ≡ lookup ls k
  pub tidy : Tidy r
