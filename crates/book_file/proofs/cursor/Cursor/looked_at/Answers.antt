use Rattle.std.proofs.Common.{refl}
use Rattle.book_file.proofs.Taking.{field_taken, looks_decides}
use Rattle.book_file.proofs.cursor.Cursor.looked_at.Goals as goal

pub returns-clause-taken : goal.returns-clause-taken
returns-clause-taken c =
    let t = c.in_ok-number.ensures.taken in
    field_taken _ _ _ c.args.self.now.file.now c.args.self.now.place c.number.new.self.place _ c.in_ok-number.number.value c.is_well_made.result c.if_allowed.result c.if_allowed.ensures t.0 t.1
    (looks_decides c.args.prefix _ c.is_well_made.result c.requires.reply refl c.is_well_made.ensures.meaning) t.2 t.3
