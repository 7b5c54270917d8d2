-- One word of a run, where the word gives nothing to a rule.
use Rattle.std.proofs.Common.{◌≡◌, List, Ok, Result, ap, ◌∙◌}
use Rattle.sheet.specs.declared.literal.Literal.{Literal}
use Rattle.sheet_text.specs.Machine.{nothing, step, step_in}
use Rattle.sheet_text.specs.Reading.{given, run}
use Rattle.sheet_text.specs.Words.{Token}
use Rattle.sheet_text.specs.Cuts.{Tokens, next}
use Rattle.faults.specs.declared.sheet.SheetFault.{SheetFault}
use Rattle.sheet_text.specs.declared.state.Mode.{Mode}
use Rattle.sheet_text.specs.declared.state.State.{State}
use Rattle.sheet_text.proofs.Running.{progress, run_turn}

pub step_in_lem : (m : State) (o : Mode) (w : Token) → m.mode ≡ o → step m w ≡ step_in m o w
step_in_lem m o w e = ap (λ (o : Mode). step_in m o w) e

module _ (m : State) (ls : List Literal) (done : List (List Literal)) (ts rest : Tokens) (w : Token) (x : Result State SheetFault) (at : ts ≡ next w rest) (does : step m w ≡ nothing x) where
  pub turn : (u : State) → x ≡ Ok u → run (progress m ls done) ts ≡ run (progress u ls done) rest
  turn u e = run_turn (progress m ls done) (progress u ls done) ts rest w at (ap (given (progress m ls done)) (does ∙ ap nothing e))
