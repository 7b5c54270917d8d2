use Rattle.std.proofs.Common.{◌≡◌, ℕ, ◌+◌, ◌-◌, get_or, set, is_some, Some, None, true, false, sym, subst, rules}
use Rattle.sheet_text.specs.Keeping.{Sound}
use Rattle.sheet_text.specs.declared.state.Mode.TheVariants as mode
use Rattle.sheet_text.specs.declared.state.State.{State}
use Rattle.sheet_text.proofs.Steps.{naming_keeps, free_place}
use Rattle.sheet_text.proofs.reader.Reader.variable_word.Goals as goal

pub invariant_of-self-2 : goal.invariant_of-self-2
invariant_of-self-2 c =
    let m = c.args.self.now.state in
    let left : ℕ → State = λ reports. record { section = m.section; mode = mode.Variables c.args.kind true; form = m.form; length = m.length; rules = m.rules; variables = set m.variables (c.in_ok-variable.variable - 1) (Some (record { kind = c.args.kind; position = m.named + 1 })); named = m.named + 1; reports = reports; read = m.read } in
    record {
      sound = subst (λ (r : ℕ). Sound (left r)) (sym c.reports_with-state.ensures)
          (naming_keeps m c.args.self.now.sound c.args.kind c.in_ok-variable.variable c.requires c.if-variable-eq0.false c.if-variable-state.false (free_place (get_or m.variables (c.in_ok-variable.variable - 1) None) (let e : is_some (get_or m.variables (c.in_ok-variable.variable - 1) None) ≡ false = search rules in e)));
    }
