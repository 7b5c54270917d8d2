-- The sheet that a text says, as a prefix and rules.
use Rattle.std.specs.Prelude.{◌≡◌, ℕ, Bool, List}
use Rattle.prefix.specs.Prefixes.{kinds}
use Rattle.prefix.specs.declared.prefix.Prefix.{Prefix}
use Rattle.sheet.specs.Rules.{rules_kept}
use Rattle.sheet.specs.declared.rule.Rule.{Rule}
use Rattle.sheet_text.specs.Grammar.{Says}
use Rattle.sheet_text.specs.Sheets.{Sheet}
use Rattle.sheet_text.specs.Tables.{MadeOf}

-- The text says a sheet, with its kinds as a prefix and its rules as rules; and of the lines that it keeps and the prefix a
-- claim holds.
pub record OnSheet (t : List ℕ) (Claim : (List Bool → Bool) → Prefix → Type 0) : Type 0 where
  pub sheet : Sheet
  pub prefix : Prefix
  pub rules : List Rule
  pub says : Says t sheet
  pub kinds : kinds prefix ≡ sheet.kinds
  pub made : MadeOf sheet.rules rules
  pub holds : Claim (rules_kept sheet.form prefix.length rules) prefix
