use Rattle.std.proofs.Common.{refl}
use Rattle.sheet_text.specs.Machine.{form_word, length_word, rule_count_word}
use Rattle.sheet_text.specs.Words.{token}
use Rattle.sheet_text.specs.declared.state.Mode.TheVariants as mode
use Rattle.sheet_text.proofs.Opened.{went_step}
use Rattle.sheet_text.proofs.reader.Reader.take.Goals as goal

pub invariant_of-self-in-Form : goal.invariant_of-self-in-Form
invariant_of-self-in-Form c =
    let m = c.args.self.now.state in
    record { sound = went_step m mode.Form (token c.args.word) (form_word m (token c.args.word)) _ _ c.args.self.now.sound c.in-Form.is refl c.form_word.ensures }

pub invariant_of-self-in-Length : goal.invariant_of-self-in-Length
invariant_of-self-in-Length c =
    let m = c.args.self.now.state in
    record { sound = went_step m mode.Length (token c.args.word) (length_word m (token c.args.word)) _ _ c.args.self.now.sound c.in-Length.is refl c.length_word.ensures }

pub invariant_of-self-in-RuleCount : goal.invariant_of-self-in-RuleCount
invariant_of-self-in-RuleCount c =
    let m = c.args.self.now.state in
    record { sound = went_step m mode.RuleCount (token c.args.word) (rule_count_word m (token c.args.word)) _ _ c.args.self.now.sound c.in-RuleCount.is refl c.rule_count_word.ensures }
