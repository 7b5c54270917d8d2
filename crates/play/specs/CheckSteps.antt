-- How far a setting has been checked, as inner calls state it.
use Rattle.std.specs.Prelude.{◌≡◌, ℕ, ◌+◌, Bool, true, false, List}
use Rattle.prefix.specs.Lines.{setting_before}
use Rattle.prefix.specs.Prefixes.{kinds}
use Rattle.prefix.specs.declared.prefix.Prefix.{Prefix}
use Rattle.book.specs.Guards.{Guards}
use Rattle.book.specs.declared.side.Side.TheVariants.{On}
use Rattle.play.specs.Checking.{BothAre, OneYesBefore}
use Rattle.play.specs.LineTo.{LineTo}
use Rattle.play.specs.declared.verdict.Verdict.{Verdict}
use Rattle.play.specs.declared.verdict.Verdict.TheVariants.{Accepted, Silent, Torn, Broken}

-- The whole setting that the mask m gives.
abbrev pub setting_of : Prefix → ℕ → List Bool
setting_of q m = setting_before q (q.length + 1) m

-- Before position j each reply has one guard that is yes on the setting of the mask a, and the mask m has its reports and
-- the replies that the on-guards give.
pub record CheckedTo (g : Guards) (q : Prefix) (a j m : ℕ) : Type 0 where
  pub one_yes : OneYesBefore g (kinds q) (setting_of q a) j
  pub line : LineTo q (g On) a j m

-- At a point of position k both guards are the same, which a verdict with the setting's number n says.
abbrev pub BothSay : Guards → ℕ → List Bool → ℕ → Verdict → Type 0
BothSay g k v n Accepted = ⊥
BothSay g k v n (Silent j s) = (j ≡ k) × (s ≡ n) × BothAre false g k v
BothSay g k v n (Torn j s) = (j ≡ k) × (s ≡ n) × BothAre true g k v
BothSay g k v n (Broken s) = ⊥
