-- The choices of a policy: what it replies at each point.
use Rattle.std.specs.Prelude.{◌≡◌, ℕ, ◌<◌, Bool, cond, ◌⊎◌, List, ◌++◌, codes, decimal}
use Rattle.prefix.specs.Points.{Point}
use Rattle.prefix.specs.Policies.{Policy}
use Rattle.prefix.specs.Settings.{number}
use Rattle.prefix.specs.declared.kind.Kind.{Kind}
use Rattle.play.specs.Found.{Searched}
use Rattle.play.specs.Listing.{Lists}
use Rattle.jobs.specs.declared.choice.Choice.{Choice}

-- What a policy replies at a point.
abbrev pub choice_of : Policy → ℕ → List Bool → Choice
choice_of p k v = record { position = k; setting = number v; value = p k v }

-- By position, and at one position by the setting's number.
abbrev pub ListedBefore : Choice → Choice → Type 0
ListedBefore a b = (a.position < b.position) ⊎ ((a.position ≡ b.position) × (a.setting < b.setting))

-- The choices at all points, each once and in order, of the policy that a search finds.
pub record SearchedChoices (kept : List Bool → Bool) (ks : List Kind) (cs : List Choice) : Type 0 where
  pub policy : Policy
  pub searched : Searched kept ks policy
  pub listed : Lists (Point ks) (choice_of policy) ListedBefore cs

-- A choice as it is printed.
abbrev pub choice_text : Choice → List ℕ
choice_text c = decimal c.position ++ (codes " " ++ (decimal c.setting ++ cond c.value (codes " on") (codes " off")))
