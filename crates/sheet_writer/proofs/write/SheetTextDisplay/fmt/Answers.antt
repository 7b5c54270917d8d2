use Rattle.std.proofs.Common.{refl}
use Rattle.std.proofs.Output.{has_written_of_eq}
use Rattle.sheet_writer.proofs.Parts.{written_parts}
use Rattle.sheet_writer.proofs.write.SheetTextDisplay.fmt.Goals as goal

pub returns-clause-writes : goal.returns-clause-writes
returns-clause-writes g c = λ plain ok.
    let parts =
    written_parts c.args.self.now.form c.args.self.now.prefix c.args.self.now.rules.now c.counted-rules.result.now c.len-length.result _ c.len-length.ensures.kinds
    c.len-length.ensures.value c.counted-rules.ensures refl in
    has_written_of_eq _ _ _ _ _ parts (c.write.ensures.writes plain ok)
