-- The number of each refusal.
use Rattle.std.specs.Prelude.{ℕ}
use Rattle.worth.specs.declared.fault.WorthFault.{WorthFault}
use Rattle.worth.specs.declared.fault.WorthFault.TheVariants.{StackTooShort}

abbrev pub refusal : WorthFault → ℕ
refusal StackTooShort = 14
