use Rattle.std.proofs.Common.{◌≡◌, ℕ, ◌+◌, length, subst, arith}
use Rattle.prefix.specs.Prefixes.{kinds}
use Rattle.book_file.specs.ListSteps.{place, ListedTo, AllListed}
use Rattle.book_file.proofs.ListedSteps.{none_listed, all_listed}
use Rattle.book_file.proofs.list.points.list_into.Goals as goal

pub loop-position-init : goal.loop-position-init
loop-position-init g c = record {
  few = omega arith;
  listed = none_listed c.prefix-prefix.result (g.B.Book.guards c.args.book.now) c.args.table.now;
}

pub returns-2 : goal.returns-2
returns-2 g c =
    let p = c.prefix-prefix.result in
    let guards = g.B.Book.guards c.args.book.now in
    let last : c.loop-position.position + 1 ≡ length (kinds p) + 1 = omega arith in
    subst (λ q. AllListed q guards c.args.table.now c.list_at-listed.new.table c.list_at-listed.result) c.prefix-prefix.ensures
    (all_listed p guards c.list_at-listed.result c.args.table.now c.list_at-listed.new.table
    (subst (λ (k : ℕ). ListedTo p guards (place k 0 0) c.args.table.now c.list_at-listed.new.table c.list_at-listed.result) last
    (c.list_at-listed.ensures.listed c.args.table.now c.loop-position.invariant.listed)))
