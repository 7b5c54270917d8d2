-- What checking a book comes to: accepted, or the first fault.
use Rattle.std.specs.Prelude.{◌≡◌, ℕ, ◌<◌, ◌≤◌, ◌^◌, ◌↔◌, Bool, true, false, not, List, take}
use Rattle.prefix.specs.Kinds.{is_reply, report_count, reports_before}
use Rattle.prefix.specs.Policies.{Policy, line, Wins}
use Rattle.prefix.specs.Settings.{Setting, number}
use Rattle.prefix.specs.declared.kind.Kind.{Kind}
use Rattle.book.specs.Guards.{Guards, Means, SameGuards}
use Rattle.book.specs.declared.side.Side.TheVariants.{On, Off}
use Rattle.play.specs.Verdicts.{verdict_number}
use Rattle.play.specs.declared.verdict.Checked.{Checked}
use Rattle.play.specs.declared.verdict.Verdict.{Verdict}
use Rattle.play.specs.declared.verdict.Verdict.TheVariants.{Accepted, Silent, Torn, Broken}

-- A book means a policy that wins.
pub record MeansWinning (kept : List Bool → Bool) (g : Guards) (ks : List Kind) : Type 0 where
  pub policy : Policy
  pub means : Means ks g policy
  pub wins : Wins kept ks policy

-- The setting before position k that a whole setting begins with.
abbrev pub front : List Kind → ℕ → List Bool → List Bool
front ks k s = take (reports_before ks k) s

-- At a point exactly one of the two guards is yes.
abbrev pub OneYes : Guards → ℕ → List Bool → Type 0
OneYes g k v = g Off k v ≡ not (g On k v)

-- At a point both guards are x: both yes, or both no.
abbrev pub BothAre : Bool → Guards → ℕ → List Bool → Type 0
BothAre x g k v = (g On k v ≡ x) × (g Off k v ≡ x)

-- On the setting s each reply before position k has exactly one guard that is yes.
abbrev pub OneYesBefore : Guards → List Kind → List Bool → ℕ → Type 0
OneYesBefore g ks s k = (j : ℕ) → j < k → is_reply ks j ≡ true → OneYes g j (front ks j s)

-- On the setting s the reply at position k is the first without exactly one: its guards are both x.
pub record FirstBoth (x : Bool) (g : Guards) (ks : List Kind) (s : List Bool) (k : ℕ) : Type 0 where
  pub reply : is_reply ks k ≡ true
  pub both : BothAre x g k (front ks k s)
  pub before : OneYesBefore g ks s k

-- On the setting s each reply has exactly one guard that is yes, and whether the line with the replies of the on-guards is
-- kept is x.
pub record LineIs (x : Bool) (kept : List Bool → Bool) (g : Guards) (ks : List Kind) (s : List Bool) : Type 0 where
  pub each : (k : ℕ) → is_reply ks k ≡ true → OneYes g k (front ks k s)
  pub line_is : kept (line ks (g On) s) ≡ x

-- A book has no fault on the setting s; or it is silent at position k, neither guard being yes; or torn there, both being yes;
-- or, with exactly one at each reply, broken.
abbrev pub NoFault : (List Bool → Bool) → Guards → List Kind → List Bool → Type 0
NoFault kept g ks s = LineIs true kept g ks s

abbrev pub IsSilent : Guards → List Kind → List Bool → ℕ → Type 0
IsSilent g ks s k = FirstBoth false g ks s k

abbrev pub IsTorn : Guards → List Kind → List Bool → ℕ → Type 0
IsTorn g ks s k = FirstBoth true g ks s k

abbrev pub IsBroken : (List Bool → Bool) → Guards → List Kind → List Bool → Type 0
IsBroken kept g ks s = LineIs false kept g ks s

-- The verdict v says which fault a book has on the setting s, and the setting's number.
abbrev pub FaultOn : (List Bool → Bool) → Guards → List Kind → List Bool → Verdict → Type 0
FaultOn kept g ks s Accepted = ⊥
FaultOn kept g ks s (Silent k n) = (number s ≡ n) × IsSilent g ks s k
FaultOn kept g ks s (Torn k n) = (number s ≡ n) × IsTorn g ks s k
FaultOn kept g ks s (Broken n) = (number s ≡ n) × IsBroken kept g ks s

-- The verdict v says which fault a book has on some setting, and no setting before that has one.
pub record FirstFault (kept : List Bool → Bool) (g : Guards) (ks : List Kind) (v : Verdict) : Type 0 where
  pub setting : List Bool
  pub is_setting : Setting ks setting
  pub earlier : (s : List Bool) → Setting ks s → number s < number setting → NoFault kept g ks s
  pub fault : FaultOn kept g ks setting v

-- The verdict on a book: accepted, or the first fault.
abbrev pub Judged : (List Bool → Bool) → Guards → List Kind → Verdict → Type 0
Judged kept g ks Accepted = MeansWinning kept g ks
Judged kept g ks (Silent k n) = FirstFault kept g ks (Silent k n)
Judged kept g ks (Torn k n) = FirstFault kept g ks (Torn k n)
Judged kept g ks (Broken n) = FirstFault kept g ks (Broken n)

-- A book has no two verdicts.
abbrev pub OneVerdict : (List Bool → Bool) → Guards → List Kind → Type 0
OneVerdict kept g ks = (v w : Verdict) → Judged kept g ks v → Judged kept g ks w → v ≡ w

-- Books whose guards are the same at every point have the same verdict.
abbrev pub AlikeVerdicts : (List Bool → Bool) → Guards → List Kind → Type 0
AlikeVerdicts kept g ks = (h : Guards) → SameGuards ks g h → (v : Verdict) → Judged kept h ks v ↔ Judged kept g ks v

-- What a check gives: the verdict, which is accepted exactly when the book means a policy that wins, and of the number of
-- settings that were tried only that there is one at least, and no more than there are settings.
pub record Concludes (kept : List Bool → Bool) (g : Guards) (ks : List Kind) (c : Checked) : Type 0 where
  pub judged : Judged kept g ks c.verdict
  pub accepted : (verdict_number c.verdict ≡ 0) ↔ MeansWinning kept g ks
  pub tried : (1 ≤ c.tried) × (c.tried ≤ 2 ^ report_count ks)
