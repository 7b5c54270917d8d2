-- Worked examples on the sheet that reading a text gives.
use Rattle.std.proofs.Common.{◌≡◌, ℕ, Bool, List, [], map, Ok, refl}
use Rattle.prefix.specs.Policies.{Winnable}
use Rattle.prefix.specs.Prefixes.{kinds}
use Rattle.prefix.specs.declared.prefix.Prefix.{Prefix}
use Rattle.sheet.specs.Rules.{rules_kept}
use Rattle.sheet_text.specs.Reading.{read_text}
use Rattle.sheet_text.specs.Sheets.{Sheet}
use Rattle.worth.specs.Counts.{count}
use Rattle.worth.specs.Worth.{worth_of}
use Rattle.book.specs.RowGuards.{row_guards}
use Rattle.book.specs.declared.row.Row.{Row}
use Rattle.book_file.specs.Files.{Says}
use Rattle.play.specs.Checking.{Judged}
use Rattle.play.specs.SearchFaults.{refusal}
use Rattle.play.specs.declared.search_fault.SearchFault.{SearchFault}
use Rattle.play.specs.declared.search_fault.SearchFault.TheVariants.{NoPolicy}
use Rattle.play.specs.declared.verdict.Verdict.{Verdict}
use Rattle.jobs.specs.Choices.{SearchedChoices}
use Rattle.jobs.specs.WritingBooks as writing
use Rattle.jobs.specs.declared.choice.Choice.{Choice}
use Rattle.examples.specs.Examples.{CountOf, SettlementOf, RefusalOf, VerdictOf}
use Rattle.examples.proofs.Rules.{rule_of}
use Rattle.examples.proofs.Sheets.{on_sheet}

-- The text t is read as the sheet s, whose prefix is p.
module _ (t : List ℕ) (s : Sheet) (p : Prefix) (read : read_text t ≡ Ok s) (same : kinds p ≡ s.kinds) where
  abbrev kept : List Bool → Bool
  kept = rules_kept s.form p.length (map rule_of s.rules)

  pub counted : (n : ℕ) → (worth_of count kept p).value ≡ n → CountOf t n
  counted n e = on_sheet t s p (λ kept q. (worth_of count kept q).value ≡ n) read same e

  pub settled : (n : ℕ) (cs : List Choice) → (worth_of count kept p).value ≡ n → SearchedChoices kept (kinds p) cs → SettlementOf t n cs
  settled n cs e h = on_sheet t s p (λ kept q. ((worth_of count kept q).value ≡ n) × SearchedChoices kept (kinds q) cs) read same (e, h)

  pub none_found : (Winnable kept (kinds p) [] → ⊥) → RefusalOf t 16
  none_found none = on_sheet t s p (λ kept q. (f : SearchFault) × writing.NoneFound kept q f × (refusal f ≡ 16)) read same (NoPolicy, (refl, none), refl)

  pub judged : (file : List ℕ) (v : Verdict) (rows : List Row) → Says file p rows → Judged kept (row_guards p rows) (kinds p) v → VerdictOf t file v
  judged file v rows says h = on_sheet t s p (λ kept q. (rows : List Row) × Says file q rows × Judged kept (row_guards q rows) (kinds q) v) read same (rows, says, h)
