-- The number of each verdict, what it names, and how it is written.
use Rattle.std.specs.Prelude.{ℕ, List, ◌++◌, Some, None, Option, codes, decimal}
use Rattle.play.specs.declared.verdict.Verdict.{Verdict}
use Rattle.play.specs.declared.verdict.Verdict.TheVariants.{Accepted, Silent, Torn, Broken}

abbrev pub verdict_number : Verdict → ℕ
verdict_number Accepted = 0
verdict_number (Silent k s) = 1
verdict_number (Torn k s) = 2
verdict_number (Broken s) = 3

-- The position of the reply at fault; 0 where the fault is no reply's, and where there is none.
abbrev pub verdict_position : Verdict → ℕ
verdict_position Accepted = 0
verdict_position (Silent k s) = k
verdict_position (Torn k s) = k
verdict_position (Broken s) = 0

-- The number of the setting at fault.
abbrev pub verdict_setting : Verdict → Option ℕ
verdict_setting Accepted = None
verdict_setting (Silent k s) = Some s
verdict_setting (Torn k s) = Some s
verdict_setting (Broken s) = Some s

-- A verdict in words: which, and for a fault its position and its setting's number.
abbrev pub verdict_text : Verdict → List ℕ
verdict_text Accepted = codes "accepted"
verdict_text (Silent k s) = codes "silent " ++ (decimal k ++ (codes " " ++ decimal s))
verdict_text (Torn k s) = codes "torn " ++ (decimal k ++ (codes " " ++ decimal s))
verdict_text (Broken s) = codes "broken 0 " ++ decimal s
