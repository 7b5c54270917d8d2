use Rattle.std.proofs.Common.{◌≡◌, min}
use Rattle.prefix.specs.Settings.{number}
use Rattle.prefix.specs.Lines.{setting_before}
use Rattle.prefix.proofs.prefix.Prefix.setting_number.Given as goal

abbrev pub invariant-loop-earlier : goal.invariant-loop-earlier
invariant-loop-earlier l = l.number ≡ number (setting_before l.self (min l.earlier l.earlier-end) l.line.mask)
