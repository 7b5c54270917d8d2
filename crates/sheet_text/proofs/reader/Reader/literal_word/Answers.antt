use Rattle.std.proofs.Common.{subst, arith}
use Rattle.sheet_text.specs.Keeping.{Fits}
use Rattle.sheet_text.proofs.Given.{in_range, some_place}
use Rattle.sheet_text.proofs.reader.Reader.literal_word.Goals as goal

pub unwrap-named-requires : goal.unwrap-named-requires
unwrap-named-requires c =
    let m = c.args.self.now.state in
    let h = c.args.self.now.sound in
    some_place _ (in_range m c.in_ok-number.number h (subst (λ o. Fits o m) c.requires h.mode) c.if-variable-eq0.false (omega arith)).0
