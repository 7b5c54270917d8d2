-- How far a listing has come, as inner calls state it.
use Rattle.std.specs.Prelude.{◌≡◌, ℕ, true, List}
use Rattle.prefix.specs.Points.{Point}
use Rattle.prefix.specs.Policies.{Policy}
use Rattle.prefix.specs.Settings.{number}
use Rattle.prefix.specs.declared.kind.Kind.{Kind}
use Rattle.book.specs.CopySteps.{comes_before}
use Rattle.play.specs.Listing.{Lists}
use Rattle.jobs.specs.Choices.{choice_of, ListedBefore}
use Rattle.jobs.specs.declared.choice.Choice.{Choice}

-- The choices at the points before position k and setting s, each once and in order.
abbrev pub ListsTo : List Kind → Policy → ℕ → ℕ → List Choice → Type 0
ListsTo ks p k s cs = Lists (λ j w. Point ks j w × (comes_before k s j (number w) ≡ true)) (choice_of p) ListedBefore cs
