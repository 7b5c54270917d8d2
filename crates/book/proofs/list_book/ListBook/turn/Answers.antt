use Rattle.std.proofs.Common.{◌<◌, length, nat_le, slice_set, sym, ap, ◌∙◌, subst, arith}
use Rattle.std.proofs.lemmas.List.{length-set}
use Rattle.prefix.specs.Points.{point_count}
use Rattle.prefix.specs.Prefixes.{kinds}
use Rattle.book.specs.RecordPlaces.{InPlace, NoMoreInPlace}
use Rattle.book.specs.declared.record.Record.{Record}
use Rattle.book.proofs.RecordKeeping.{Points, AllApart, points_turned, apart_turned, placed_turned, no_more_turned}
use Rattle.book.proofs.list_book.ListBook.turn.Goals as goal

pub invariant_of-self : goal.invariant_of-self
invariant_of-self c =
    let b = c.args.self.now in
    let ks = kinds b.prefix in
    let memory = b.records.now in
    let k = c.args.place in
    let inside : k < length memory = omega (arith, b.within, c.requires) in
    let turned = sym c.turned-turned.ensures in
    record {
      within = omega (arith, b.within, length-set memory k c.turned-turned.result);
      none = λ e. b.none (sym (ap (nat_le (point_count ks)) (length-set memory k c.turned-turned.result)) ∙ e);
      points = subst (λ (r : Record). Points ks (slice_set memory k r) b.count) turned (points_turned ks memory b.count c.args.side k _ inside b.points);
      apart = subst (λ (r : Record). AllApart (slice_set memory k r) b.count) turned (apart_turned ks memory b.count c.args.side k _ inside b.apart);
      ordered = b.ordered;
      placed = subst (λ (r : Record). InPlace ks (slice_set memory k r) b.in_order) turned (placed_turned ks memory b.count c.args.side k _ inside b.in_order b.placed);
      no_more = subst (λ (r : Record). NoMoreInPlace ks (slice_set memory k r) b.in_order b.count) turned (no_more_turned ks memory b.count c.args.side k _ inside b.in_order b.no_more);
    }
