use Rattle.std.proofs.Common.{refl}
use Rattle.book_file.proofs.Taking.{field_taken, wants_decides}
use Rattle.book_file.proofs.cursor.Cursor.wanted_on.Goals as goal

pub returns-clause-taken : goal.returns-clause-taken
returns-clause-taken c =
    let t = c.in_ok-number.ensures.taken in
    field_taken _ _ _ c.args.self.now.file.now c.args.self.now.place c.number.new.self.place _ c.in_ok-number.number.value c.is_well_made.result c.if_allowed.result c.if_allowed.ensures t.0 t.1
    (wants_decides c.args.prefix c.args.looks _ c.is_well_made.result c.requires.made refl refl c.is_well_made.ensures.meaning) t.2 t.3
