-- The line of a setting with the replies of a policy so far, as inner calls state it.
use Rattle.std.specs.Prelude.{◌≡◌, ℕ, ◌-◌, true, take}
use Rattle.prefix.specs.Bits.{bits, mask_value}
use Rattle.prefix.specs.Kinds.{is_report}
use Rattle.prefix.specs.Lines.{setting_before}
use Rattle.prefix.specs.Policies.{Policy, line}
use Rattle.prefix.specs.Prefixes.{kinds}
use Rattle.prefix.specs.declared.prefix.Prefix.{Prefix}

-- The mask m has the reports of the mask of a setting, and before position j the replies of the policy p.
pub record LineTo (q : Prefix) (p : Policy) (setting j m : ℕ) : Type 0 where
  pub reports : (i : ℕ) → is_report (kinds q) i ≡ true → mask_value m i ≡ mask_value setting i
  pub replies : bits (j - 1) m ≡ line (take (j - 1) (kinds q)) p (setting_before q j m)
