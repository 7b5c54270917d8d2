use Rattle.std.proofs.Common.{rules}
use Rattle.prefix.specs.Limits.{Limits}
use Rattle.sheet_text.proofs.Answering.{limits}
use Rattle.sheet_text.proofs.read.read_into.Goals as goal

pub unwrap-requires : goal.unwrap-requires
unwrap-requires c =
    let within : Limits c.read_words.new.draft.reader.state.length c.read_words.new.draft.reader.state.reports = limits c.args.text.now c.read_words.new.draft c.in_ok-read_words.ensures in
    search rules
