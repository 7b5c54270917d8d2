use Rattle.std.proofs.Common.{◌≡◌, ℕ, List, vec_items, ap, ◌∙◌, subst, sym}
use Rattle.sheet_text.specs.Grammar.{Says}
use Rattle.sheet_text.proofs.TextReads.{read_exactly}
use Rattle.sheet_writer.specs.Writing.{sheet_of_rules, written}
use Rattle.sheet_writer.proofs.Written.{written-says}
use Rattle.sheet_writer.proofs.write.write_sheet.Goals as goal

text : (c : goal.After-into_bytes) → vec_items c.into_bytes.result ≡ written c.args.form c.args.prefix c.args.rules.now
text c = ap vec_items c.into_bytes.ensures.value ∙ c.in_ok-text.ensures.ok

says : (c : goal.After-into_bytes) → Says (vec_items c.into_bytes.result) (sheet_of_rules c.args.form c.args.prefix c.args.rules.now)
says c =
    subst (λ (t : List ℕ). Says t (sheet_of_rules c.args.form c.args.prefix c.args.rules.now)) (sym (text c))
    (written-says c.args.form c.args.prefix c.args.rules.now)

pub returns-clause-says : goal.returns-clause-says
returns-clause-says c = says c

pub returns-clause-back : goal.returns-clause-back
returns-clause-back c = (read_exactly (vec_items c.into_bytes.result) (sheet_of_rules c.args.form c.args.prefix c.args.rules.now)).1 (says c)
