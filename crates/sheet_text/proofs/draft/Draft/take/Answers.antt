use Rattle.std.proofs.Common.{◌≡◌, Some, Ok, Err, refl, ap, ◌∙◌, rules}
use Rattle.std.proofs.lemmas.Result.{err_from_is_err_and}
use Rattle.sheet.specs.Literals.{Joined}
use Rattle.sheet_text.specs.Keeping.{Gave}
use Rattle.sheet_text.specs.Machine.{step}
use Rattle.sheet_text.specs.Words.{token}
use Rattle.sheet_text.specs.declared.taken.Taken.TheVariants as taken
use Rattle.faults.specs.declared.sheet.SheetFault.TheVariants as fault
use Rattle.sheet_text.proofs.Drafting.{drafted_fault, drafted_literal, drafted_repeated, drafted_rule}
use Rattle.sheet_text.proofs.draft.Draft.take.Goals as goal

pub returns-in_err-take : goal.returns-in_err-take
returns-in_err-take c = λ s h.
    let p = err_from_is_err_and c.from_residual.result c.from_residual.ensures.1 in
    drafted_fault s c.args.self.now (token c.args.word) h _ c.take.new.self.state _ _ (p.1 ∙ ap Err p.2) c.in_err-take.ensures

pub returns-in_err-self-in-Some-Literal : goal.returns-in_err-self-in-Some-Literal
returns-in_err-self-in-Some-Literal c = λ s h.
    let l = c.in-Some-Literal.literal in
    let q = c.in-Some-Literal.place in
    let g : Gave (step c.args.self.now.reader.state (token c.args.word)) (Ok (Some (taken.Literal l q))) c.take.new.self.state = search rules in
    let e : c.from_residual-in_err-self-in-Some-Literal.result ≡ Err (fault.Repeated q) = search rules in
    drafted_repeated s c.args.self.now (token c.args.word) h l q c.take.new.self.state _ _ e g (search rules)

pub returns-in_ok-self-in-Some-Literal : goal.returns-in_ok-self-in-Some-Literal
returns-in_ok-self-in-Some-Literal c = λ s h.
    let l = c.in-Some-Literal.literal in
    let q = c.in-Some-Literal.place in
    let g : Gave (step c.args.self.now.reader.state (token c.args.word)) (Ok (Some (taken.Literal l q))) c.take.new.self.state = search rules in
    let j : Joined c.args.self.now.rule l c.in_ok-self-in-Some-Literal.field-0 = search rules in
    drafted_literal s c.args.self.now (token c.args.word) h l q _ j refl g

pub returns-in-Some-Rule : goal.returns-in-Some-Rule
returns-in-Some-Rule c = λ s h.
    let g : Gave (step c.args.self.now.reader.state (token c.args.word)) (Ok (Some taken.Rule)) c.take.new.self.state = search rules in
    drafted_rule s c.args.self.now (token c.args.word) h _ c.push.ensures.items c.empty-self.ensures g
