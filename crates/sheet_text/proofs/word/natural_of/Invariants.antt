use Rattle.std.proofs.Common.{◌≡◌, ◌^◌, ◌<◌, drop}
use Rattle.sheet_text.specs.Words.{digits_on}
use Rattle.sheet_text.proofs.word.natural_of.Given as goal

abbrev pub invariant-loop-byte : goal.invariant-loop-byte
invariant-loop-byte l = (digits_on l.value (drop l.byte-index l.text) ≡ digits_on 0 l.text) × (l.value < 10 ^ l.byte-index)
