-- The choices of the policy that a book means.
use Rattle.std.proofs.Common.{◌≡◌, ℕ, Bool, List, ap, subst}
use Rattle.prefix.specs.Points.{Point}
use Rattle.prefix.specs.Settings.{number}
use Rattle.prefix.specs.Prefixes.{kinds}
use Rattle.prefix.specs.declared.prefix.Prefix.{Prefix}
use Rattle.book.specs.Guards.{Guards}
use Rattle.book.specs.declared.side.Side.{Side}
use Rattle.book.specs.declared.side.Side.TheVariants.{On}
use Rattle.play.specs.Found.{Found}
use Rattle.play.specs.Listing.{Lists}
use Rattle.play.proofs.Listing.{lists_alike}
use Rattle.jobs.specs.Choices.{choice_of, ListedBefore, SearchedChoices}
use Rattle.jobs.specs.declared.choice.Choice.{Choice}

-- What the on-guards of a book say that a search found is what that policy says.
pub searched_listed : {B : Type 0} (Clears : B → B → Type 0) (Adds : B → Side → ℕ → List Bool → B → Type 0) (kept : List Bool → Bool) (p q : Prefix) (before after : B) (g : Guards) (cs : List Choice)
    → Found Clears Adds kept (kinds p) before after g → q ≡ p → Lists (Point (kinds q)) (choice_of (g On)) ListedBefore cs → SearchedChoices kept (kinds p) cs
searched_listed Clears Adds kept p q before after g cs f e h = record {
  policy = f.policy;
  searched = f.searched;
  listed = lists_alike (Point (kinds p)) (choice_of (g On)) ListedBefore (choice_of f.policy) cs
      (λ k v o. ap (λ (x : Bool). record { position = k; setting = number v; value = x }) (f.means.on k v o))
      (subst (λ (r : Prefix). Lists (Point (kinds r)) (choice_of (g On)) ListedBefore cs) e h);
}
