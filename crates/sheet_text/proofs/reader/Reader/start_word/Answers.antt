use Rattle.std.proofs.Common.{Err, refl, ap, ◌∙◌}
use Rattle.std.proofs.lemmas.Result.{err_from_is_err_and}
use Rattle.sheet_text.specs.Machine.{open_line}
use Rattle.sheet_text.specs.Words.{token}
use Rattle.sheet_text.proofs.Opened.{went_ok, went_err, went_sound, begin_rule, begin_fault, begin_other, not_end}
use Rattle.sheet_text.proofs.Steps.{line_keeps}
use Rattle.sheet_text.proofs.reader.Reader.start_word.Goals as goal

pub invariant_of-self : goal.invariant_of-self
invariant_of-self c =
    let m = c.args.self.now.state in
    record { sound = went_sound m (open_line m c.from.result c.place.result) _ _ c.args.self.now.sound (line_keeps m c.args.self.now.sound c.from.result c.place.result) c.open_line.ensures }

pub returns-in_err-open_line : goal.returns-in_err-open_line
returns-in_err-open_line c =
    let p = err_from_is_err_and c.from_residual.result c.from_residual.ensures.1 in
    begin_fault c.args.self.now.state _ _ _ _ (token c.args.word) _ c.from.ensures c.place.ensures (not_end c.args.word c.in_default.not-LineEnd)
    (went_err c.args.self.now.state _ _ _ c.in_err-open_line.ensures).0 (p.1 ∙ ap Err p.2)

pub returns-in-Literals : goal.returns-in-Literals
returns-in-Literals c =
    begin_rule c.args.self.now.state _ _ c.literal_word.result c.literal_word.new.self.state (token c.args.word) c.open_line.new.self c.from.ensures c.place.ensures
    (not_end c.args.word c.in_default.not-LineEnd) (went_ok c.args.self.now.state _ _ _ c.in_ok-open_line.ensures) c.in-Literals.is c.literal_word.ensures

pub returns-in_default-mode : goal.returns-in_default-mode
returns-in_default-mode c =
    begin_other c.args.self.now.state _ _ _ _ (token c.args.word) c.open_line.new.self c.from.ensures c.place.ensures
    (not_end c.args.word c.in_default.not-LineEnd) (went_ok c.args.self.now.state _ _ _ c.in_ok-open_line.ensures) c.in_default-mode.not-Literals refl refl
