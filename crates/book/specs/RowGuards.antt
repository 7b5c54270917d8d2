-- The guards that rows mean, as values. That these come to the same as WellMade, Agrees and SomeRow is promised by
-- `is_well_made`, `agrees`, `on` and `off`.
use Rattle.std.specs.Prelude.{ℕ, ◌-◌, ◌%◌, ◌^◌, Bool, true, not, ◌&&◌, ◌||◌, List, [], ◌∷◌, ◌==◌, bit_and}
use Rattle.std.specs.Bool.{beq}
use Rattle.std.specs.List.{list_any}
use Rattle.prefix.specs.Kinds.{is_reply}
use Rattle.prefix.specs.Lines.{setting_before}
use Rattle.prefix.specs.Prefixes.{kinds}
use Rattle.prefix.specs.declared.prefix.Prefix.{Prefix}
use Rattle.book.specs.Guards.{Guards, same_side}
use Rattle.book.specs.declared.row.Row.{Row}

-- Each value that is on in the mask a is on in the mask b.
abbrev pub within : ℕ → ℕ → Bool
within a b = bit_and a b == a

abbrev pub well_made : Prefix → Row → Bool
well_made p r = is_reply (kinds p) r.position && within r.looked_at (p.reports % 2 ^ (r.position - 1)) && within r.wanted_on r.looked_at

-- Of some reports in order: whether each is looked at, the value wanted there, its value. Those looked at have the values wanted.
abbrev pub as_wanted : List Bool → List Bool → List Bool → Bool
as_wanted [] ws v = true
as_wanted (l ∷ ls) [] v = true
as_wanted (l ∷ ls) (w ∷ ws) [] = true
as_wanted (l ∷ ls) (w ∷ ws) (x ∷ v) = (not l || beq x w) && as_wanted ls ws v

-- Whether the row agrees with a setting before its position.
abbrev pub row_agrees : Prefix → Row → List Bool → Bool
row_agrees p r v = well_made p r && as_wanted (setting_before p r.position r.looked_at) (setting_before p r.position r.wanted_on) v

-- The guards that rows mean: some row of the side and of the reply's position agrees with the setting.
abbrev pub row_guards : Prefix → List Row → Guards
row_guards p rows side k v = list_any (λ (r : Row). (r.position == k) && same_side r.side side && row_agrees p r v) rows
