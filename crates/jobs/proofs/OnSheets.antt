-- What is read of a text into a table that is long enough, and a fault that goes into a job's.
use Rattle.std.proofs.Common.{◌≡◌, ℕ, Bool, List, length, take, Ok, Err, Result, sym, ap, ◌∙◌, subst, ⊎_elim, arith}
use Rattle.std.proofs.lemmas.List.{take_all, length-take}
use Rattle.std.proofs.lemmas.Bool.{false≢true}
use Rattle.std.specs.Result.{IsErr, IsErrAnd}
use Rattle.prefix.specs.declared.prefix.Prefix.{Prefix}
use Rattle.sheet.specs.Rules.{rules_kept}
use Rattle.sheet.specs.declared.rule.Rule.{Rule}
use Rattle.sheet_text.specs.Refusing.{HasFault}
use Rattle.sheet_text.specs.Tables.{Meant}
use Rattle.faults.specs.declared.sheet.SheetFault.{SheetFault}
use Rattle.sheet_text.specs.declared.reading.Reading.{Reading}
use Rattle.jobs.specs.OnSheet.{OnSheet}
use Rattle.jobs.specs.declared.fault.JobFault.{JobFault}

-- A fault is the text's own, where the table has a place for each rule that there may be.
pub own_fault : (t : List ℕ) (f : SheetFault) (before after : List Rule) → Meant t (Err f) before after → length before ≡ 256 → HasFault t f
own_fault t f before after h all = ⊎_elim (λ own. own) (λ short. let says = short.1.1 in absurd (omega (arith, short.1.2, says.lines.few))) h.1

-- What holds of the sheet that is read holds of that which the text says.
pub on_sheet : (t : List ℕ) (reading : Reading) (before after : List Rule) (Claim : (List Bool → Bool) → Prefix → Type 0) → Meant t (Ok reading) before after
    → Claim (rules_kept reading.form reading.prefix.length (take 256 (take reading.rules after))) reading.prefix → OnSheet t Claim
on_sheet t reading before after Claim h e =
    let s = h.0 in
    let holds = h.2 in
    let front : take 256 (take reading.rules after) ≡ take (length s.rules) after =
    take_all 256 (take reading.rules after) (simp length-take (omega (arith, h.1.lines.few, holds.count)))
    ∙ ap (λ (n : ℕ). take n after) holds.count in
    record {
      sheet = s;
      prefix = reading.prefix;
      rules = take (length s.rules) after;
      says = h.1;
      kinds = holds.kinds;
      made = holds.rules;
      holds = coe 0 1 (i. Claim (rules_kept (holds.form i) reading.prefix.length (front i)) reading.prefix) e;
    }

-- A job that fails with a fault fails with that one.
pub fault_kept : {A : Type 0} (Claim : Result A JobFault → Type 0) (j : JobFault) (r : Result A JobFault) → IsErr r → IsErrAnd r (λ i. i ≡ j) → Claim (Err j) → Claim r
fault_kept Claim j (Ok a) e is h = absurd (false≢true e)
fault_kept Claim j (Err i) e is h = subst (λ k. Claim (Err k)) (sym is) h
