use Rattle.std.proofs.Common.{◌+◌, nat_le, slice_set, sym, ap, ◌∙◌, subst, arith}
use Rattle.std.proofs.lemmas.Bool.{true≢false}
use Rattle.std.proofs.lemmas.List.{length-set}
use Rattle.prefix.specs.Points.{point_count}
use Rattle.prefix.specs.Prefixes.{kinds}
use Rattle.book.specs.RecordPlaces.{InPlace, NoMoreInPlace}
use Rattle.book.specs.declared.record.Record.{Record}
use Rattle.book.proofs.RecordKeeping.{Points, AllApart, points_appended, apart_appended}
use Rattle.book.proofs.list_book.ListBook.append.Goals as goal

pub invariant_of-self : goal.invariant_of-self
invariant_of-self c =
    let b = c.args.self.now in
    let ks = kinds b.prefix in
    let memory = b.records.now in
    let n = b.count in
    let first = sym c.first.ensures in
    record {
      within = omega (arith, c.requires.room, length-set memory n c.first.result);
      none = λ e. absurd (true≢false (sym c.requires.suffices ∙ sym (ap (nat_le (point_count ks)) (length-set memory n c.first.result)) ∙ e));
      points = subst (λ (r : Record). Points ks (slice_set memory n r) (n + 1)) first (points_appended ks memory n c.requires.room c.args.side c.args.position c.args.setting b.points c.requires.point);
      apart = subst (λ (r : Record). AllApart (slice_set memory n r) (n + 1)) first (apart_appended ks memory n c.requires.room c.args.side c.args.position c.args.setting b.apart c.requires.fresh);
      ordered = c.in_order_with-in_order.ensures.few;
      placed = subst (λ (r : Record). InPlace ks (slice_set memory n r) c.in_order_with-in_order.result) first (c.in_order_with-in_order.ensures.placed c.args.side);
      no_more = subst (λ (r : Record). NoMoreInPlace ks (slice_set memory n r) c.in_order_with-in_order.result (n + 1)) first (c.in_order_with-in_order.ensures.no_more c.args.side);
    }
