-- What a whole search comes to.
use Rattle.std.proofs.Common.{ℕ, ◌^◌, Bool, List, [], refl}
use Rattle.prefix.specs.Kinds.{report_count}
use Rattle.prefix.specs.Policies.{Policy, Winnable}
use Rattle.prefix.specs.declared.kind.Kind.{Kind}
use Rattle.book.specs.Guards.{Guards}
use Rattle.book.specs.declared.side.Side.{Side}
use Rattle.play.specs.Found.{Found}
use Rattle.play.specs.Searching.{OnWhereItCanWin}
use Rattle.play.specs.Steps.{FilledTo}
use Rattle.play.proofs.Best.{best_policy, best_is_on, best_wins}
use Rattle.play.proofs.FilledTo.{upto_means, upto_filled}

-- Where some policy wins, the one that is on exactly where on can still win is found.
pub found : {B : Type 0} (Clears : B → B → Type 0) (Adds : B → Side → ℕ → List Bool → B → Type 0) (kept : List Bool → Bool) (ks : List Kind) (before cleared after : B) (g : Guards)
    → Winnable kept ks [] → Clears before cleared → ((p : Policy) → OnWhereItCanWin kept ks p → FilledTo Adds ks p (2 ^ report_count ks) 1 cleared after g)
    → Found Clears Adds kept ks before after g
found Clears Adds kept ks before cleared after g won c filled =
    let p = best_policy kept ks in
    let all = filled p (best_is_on kept ks) in
    record {
      policy = p;
      means = upto_means Adds ks p cleared (2 ^ report_count ks) after g refl all;
      searched = best_wins kept ks won;
      filled = upto_filled Adds ks p cleared (2 ^ report_count ks) after g refl all Clears before c;
    }
