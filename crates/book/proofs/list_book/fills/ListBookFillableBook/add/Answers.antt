use Rattle.std.proofs.Common.{◌≡◌, ℕ, ◌+◌, ◌≤◌, ◌<◌, ◌^◌, Bool, true, false, List, length, get_or, take, drop, sym, ap, ◌∙◌, subst, arith}
use Rattle.std.proofs.lemmas.Bool.{and_parts, leb-true}
use Rattle.std.proofs.lemmas.List.{length-set, drop-set-lt}
use Rattle.prefix.specs.Kinds.{is_reply, reports_before}
use Rattle.prefix.specs.Lines.{setting_before}
use Rattle.prefix.specs.Points.{point_count}
use Rattle.prefix.specs.Prefixes.{kinds}
use Rattle.prefix.specs.Settings.{number}
use Rattle.prefix.proofs.Replies.{point_of}
use Rattle.book.specs.Guards.{Added, can_add}
use Rattle.book.specs.ListBooks.{records_of}
use Rattle.book.specs.Records.{is_of, list_guards, suffice, first_record, with_guard}
use Rattle.book.specs.declared.list_book.ListBook.{ListBook}
use Rattle.book.specs.declared.side.Side.{Side}
use Rattle.book.specs.declared.record.Record.{Record}
use Rattle.book.proofs.RecordGuards.{guard_added}
use Rattle.book.proofs.RecordKeeping.{few_kept, room_left, fresh_apart, first_guard}
use Rattle.book.proofs.Records.{turned_found, appended_fresh}
use Rattle.book.proofs.list_book.fills.ListBookFillableBook.add.Goals as goal

-- Where a reply stands and a point has no record, there are fewer records than points.
fewer : (b : ListBook) (side : Side) (k s : ℕ) (can : Bool) → can ≡ true → can ≡ can_add (suffice b.prefix b.records.now) b.prefix k → s < 2 ^ reports_before (kinds b.prefix) k
    → ((i : ℕ) (d : Record) → i < b.count → is_of k s (get_or b.records.now i d) ≡ false) → (b.count < point_count (kinds b.prefix)) × (point_count (kinds b.prefix) ≤ length b.records.now)
fewer b side k s can e is below fresh =
    let parts = and_parts (suffice b.prefix b.records.now) (is_reply (kinds b.prefix) k) (sym is ∙ e) in (
      room_left (kinds b.prefix) b.records.now b.count b.within b.points b.apart (first_record side k s) (parts.1, below, first_guard side k s) (λ i d h. fresh_apart side k s (get_or b.records.now i d) (fresh i d h)),
      leb-true (point_count (kinds b.prefix)) (length b.records.now) parts.0,
    )

pub append-requires-clause-room : goal.append-requires-clause-room
append-requires-clause-room c =
    let few = fewer c.args.self.now c.args.side c.args.position c.setting_number-setting.result c.can_add.result c.if-not-can_add.false c.can_add.ensures c.setting_number-setting.ensures.below c.in-None.ensures in
    omega (arith, few.0, few.1)

-- The record that stands in for one past the end.
none : (c : goal.After-turn) → Record
none c = first_record c.args.side c.args.position c.setting_number-setting.result

-- Where the list has that guard, so has the book.
added_to_list : (b : ListBook) (side : Side) (k m : ℕ) (after : List Record) → is_reply (kinds b.prefix) k ≡ true → after ≡ with_guard (records_of b) side k (number (setting_before b.prefix k m))
    → Added (kinds b.prefix) (list_guards (records_of b)) side k (setting_before b.prefix k m) (list_guards after)
added_to_list b side k m after reply same =
    let v = setting_before b.prefix k m in
    subst (λ (rs : List Record). Added (kinds b.prefix) (list_guards (records_of b)) side k v (list_guards rs)) (sym same)
    (guard_added (kinds b.prefix) (records_of b) side k v (point_of b.prefix k m reply))

pub returns-in-Some-clause-length : goal.returns-in-Some-clause-length
returns-in-Some-clause-length c = ap length (c.turn.ensures.memory (none c)) ∙ length-set c.args.self.now.records.now c.in-Some.place _

pub returns-in-Some-clause-list : goal.returns-in-Some-clause-list
returns-in-Some-clause-list c e =
    let b = c.args.self.now in
    ap (λ (n : ℕ). take n c.turn.new.self.records.now) c.turn.ensures.count
    ∙ ap (take b.count) (c.turn.ensures.memory (none c))
    ∙ turned_found b.records.now b.count b.within c.args.position c.setting_number-setting.result b.apart c.in-Some.place c.in-Some.ensures.0 c.in-Some.ensures.1 c.args.side (none c)
    ∙ ap (with_guard (records_of b) c.args.side c.args.position) c.setting_number-setting.ensures.value

pub returns-in-Some-clause-guards : goal.returns-in-Some-clause-guards
returns-in-Some-clause-guards c e = added_to_list c.args.self.now c.args.side c.args.position c.args.line.mask _ (and_parts _ _ e).1 (returns-in-Some-clause-list c e)

pub returns-in-Some-clause-past : goal.returns-in-Some-clause-past
returns-in-Some-clause-past c =
    let b = c.args.self.now in
    ap (drop c.turn.new.self.count) (c.turn.ensures.memory (none c))
    ∙ drop-set-lt c.turn.new.self.count b.records.now c.in-Some.place _ (omega (arith, c.in-Some.ensures.0, c.turn.ensures.count))

pub returns-in-Some-clause-beyond : goal.returns-in-Some-clause-beyond
returns-in-Some-clause-beyond c =
    let b = c.args.self.now in
    let t = point_count (kinds b.prefix) in
    ap (drop t) (c.turn.ensures.memory (none c))
    ∙ drop-set-lt t b.records.now c.in-Some.place _ (omega (arith, c.in-Some.ensures.0, few_kept (kinds b.prefix) b.records.now b.count b.within b.points b.apart))

pub returns-in-None-clause-list : goal.returns-in-None-clause-list
returns-in-None-clause-list c e =
    let b = c.args.self.now in
    ap (λ (n : ℕ). take n c.append.new.self.records.now) c.append.ensures.count
    ∙ ap (take (b.count + 1)) c.append.ensures.memory
    ∙ appended_fresh b.records.now b.count b.within c.args.position c.setting_number-setting.result c.in-None.ensures c.args.side (let few = fewer b c.args.side c.args.position c.setting_number-setting.result c.can_add.result c.if-not-can_add.false c.can_add.ensures c.setting_number-setting.ensures.below c.in-None.ensures in omega (arith, few.0, few.1))
    ∙ ap (with_guard (records_of b) c.args.side c.args.position) c.setting_number-setting.ensures.value

pub returns-in-None-clause-guards : goal.returns-in-None-clause-guards
returns-in-None-clause-guards c e = added_to_list c.args.self.now c.args.side c.args.position c.args.line.mask _ (and_parts _ _ e).1 (returns-in-None-clause-list c e)

pub returns-in-None-clause-beyond : goal.returns-in-None-clause-beyond
returns-in-None-clause-beyond c =
    let b = c.args.self.now in
    let t = point_count (kinds b.prefix) in
    let few = fewer b c.args.side c.args.position c.setting_number-setting.result c.can_add.result c.if-not-can_add.false c.can_add.ensures c.setting_number-setting.ensures.below c.in-None.ensures in
    ap (drop t) c.append.ensures.memory ∙ drop-set-lt t b.records.now b.count _ few.0
