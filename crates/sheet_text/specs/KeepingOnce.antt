-- That what a reader keeps to holds in one way at most, as a ghost field has to.
use Rattle.std.specs.Prelude.{◌≡◌, ℕ, zero, suc, List, Option}
use mathlib.Core.Path.{refl, sym, ap, ◌∙◌}
use mathlib.Core.HLevel.{collapsible→set}
use native.Mathlib.Nat.{ℕ_set}
use denote.Struct.Props as logic
use Rattle.sheet_text.specs.Keeping.{Fits, Named}
use Rattle.sheet_text.specs.declared.state.Mode.{Mode}
use Rattle.sheet_text.specs.declared.state.Mode.TheVariants as mode
use Rattle.sheet_text.specs.declared.state.State.{State}
use Rattle.sheet_text.specs.declared.state.Section.{Section}
use Rattle.sheet_text.specs.declared.state.Section.TheVariants.{Opening, Quantifiers, Rules}
use Rattle.sheet_text.specs.declared.variable.Variable.{Variable}

-- Sections as numbers, which tell them apart.
abbrev rank : Section → ℕ
rank Opening = 0
rank Quantifiers = 1
rank Rules = 2

abbrev ranked : ℕ → Section
ranked zero = Opening
ranked (suc zero) = Quantifiers
ranked (suc (suc n)) = Rules

ranked_rank : (s : Section) → ranked (rank s) ≡ s
ranked_rank Opening = refl
ranked_rank Quantifiers = refl
ranked_rank Rules = refl

Section-set : IsSet Section
Section-set = collapsible→set (λ x y p. sym (ranked_rank x) ∙ ap ranked (ap rank p) ∙ ranked_rank y)
    (λ x y p q. ap (λ z. sym (ranked_rank x) ∙ ap ranked z ∙ ranked_rank y) (ℕ_set (rank x) (rank y) (ap rank p) (ap rank q)))

pub Fits-prop : (o : Mode) (m : State) → IsProp (Fits o m)
Fits-prop mode.LineStart m = Prim.hlevel logic.props
Fits-prop mode.Comment m = Prim.hlevel (logic.props, Section-set)
Fits-prop mode.Form m = Prim.hlevel (logic.props, Section-set)
Fits-prop mode.Length m = Prim.hlevel (logic.props, Section-set)
Fits-prop mode.RuleCount m = Prim.hlevel (logic.props, Section-set)
Fits-prop mode.HeaderEnd m = Prim.hlevel (logic.props, Section-set)
Fits-prop (mode.Variables k some) m = Prim.hlevel (logic.props, Section-set)
Fits-prop mode.Literals m = Prim.hlevel (logic.props, Section-set)
Fits-prop mode.LineEnd m = Prim.hlevel logic.props

pub Named-prop : (s : Section) (n : ℕ) (vs : List (Option Variable)) (named read : ℕ) → IsProp (Named s n vs named read)
Named-prop Opening n vs named read = Prim.hlevel logic.props
Named-prop Quantifiers n vs named read = Prim.hlevel logic.props
Named-prop Rules n vs named read = Prim.hlevel logic.props

pub ruleset sound_props = (Fits-prop, Named-prop, logic.props)
