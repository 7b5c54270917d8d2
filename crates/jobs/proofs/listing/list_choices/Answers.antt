use Rattle.std.proofs.Common.{◌≡◌, ℕ, ◌+◌, length, sym, subst, arith}
use Rattle.prefix.specs.Points.{Point}
use Rattle.prefix.specs.Prefixes.{kinds}
use Rattle.book.specs.declared.side.Side.TheVariants.{On}
use Rattle.play.specs.Listing.{Lists}
use Rattle.jobs.specs.Choices.{choice_of, ListedBefore}
use Rattle.jobs.specs.Steps.{ListsTo}
use Rattle.jobs.proofs.Listed.{all_listed}
use Rattle.jobs.proofs.listing.list_choices.Goals as goal
use Rattle.jobs.proofs.listing.list_choices.Goals.{else-loop-position-test, then-loop-position-test+in_ok-list_choices_at+else-position-position-end}

pub returns : goal.returns
returns g c =
    let q = c.prefix-prefix.result in
    let p = g.B.Book.guards c.args.book.now On in
    elim c.loop-position-test.branch [
      | else-loop-position-test w ↦ absurd (omega arith)
      | then-loop-position-test+in_ok-list_choices_at+else-position-position-end w ↦
          let listed = c.loop-position-test.listed.items in
          let last : c.loop-position.position + 1 ≡ length (kinds q) + 1 = omega arith in
          subst (λ z. Lists (Point (kinds z)) (choice_of p) ListedBefore listed) c.prefix-prefix.ensures
          (all_listed (kinds q) p listed (subst (λ (k : ℕ). ListsTo (kinds q) p k 0 listed) last (subst (λ v. ListsTo (kinds q) p (c.loop-position.position + 1) 0 v.items) (sym w.listed-is) w.in_ok-list_choices_at.ensures)))
    ]
