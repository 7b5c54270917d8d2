-- Part lines of a prefix, and settings before a position, as masks give them.
use Rattle.std.specs.Prelude.{◌≡◌, ℕ, ◌-◌, ◌<◌, min, Bool, true, List, drop}
use Rattle.prefix.specs.Bits.{bits, mask_value}
use Rattle.prefix.specs.Kinds.{is_report, report_values}
use Rattle.prefix.specs.Prefixes.{kinds}
use Rattle.prefix.specs.Settings.{number}
use Rattle.prefix.specs.declared.kind.Kind.{Kind}
use Rattle.prefix.specs.declared.part_line.PartLine.{PartLine}
use Rattle.prefix.specs.declared.prefix.Prefix.{Prefix}

-- The values of a part line, of which there are n at most.
abbrev pub values_within : ℕ → PartLine → List Bool
values_within n u = bits (min u.length n) u.line.mask

-- Its values on a prefix; a length above the prefix's is read as that.
abbrev pub part_line : Prefix → PartLine → List Bool
part_line p u = values_within p.length u

-- The kinds still to come after d positions.
abbrev pub kinds_after : Prefix → ℕ → List Kind
kinds_after p d = drop d (kinds p)

-- The setting before position k that a mask gives: the values of the reports before k, in order.
abbrev pub setting_before : Prefix → ℕ → ℕ → List Bool
setting_before p k m = report_values (kinds p) (bits (k - 1) m)

-- The mask m gives the reports before position k the setting of number s, and is off everywhere else.
pub record SettingMask (p : Prefix) (k s m : ℕ) : Type 0 where
  pub setting : number (setting_before p k m) ≡ s
  pub alone : (j : ℕ) → mask_value m j ≡ true → (is_report (kinds p) j ≡ true) × (j < k)
