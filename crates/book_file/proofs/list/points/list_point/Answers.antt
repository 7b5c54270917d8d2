use Rattle.std.proofs.Common.{◌≡◌, ◌+◌, true, rules, arith}
use Rattle.prefix.specs.Kinds.{is_reply}
use Rattle.prefix.specs.Lines.{SettingMask}
use Rattle.prefix.specs.Prefixes.{kinds}
use Rattle.book.specs.declared.side.Side.TheVariants.{On, Off}
use Rattle.book_file.specs.ListSteps.{place}
use Rattle.book_file.proofs.ListedSteps.{side_listed, place_same}
use Rattle.book_file.proofs.list.points.list_point.Goals as goal

pub returns-clause-listed : goal.returns-clause-listed
returns-clause-listed g c start h =
    let q = g.B.Book.prefix c.args.book.now in
    let guards = g.B.Book.guards c.args.book.now in
    let p = c.args.prefix in
    let k = c.args.position in
    let s = c.args.number in
    let m = c.unwrap-line.result.mask in
    let setting : SettingMask p k s m = search rules in
    let reply : is_reply (kinds p) k ≡ true = grind arith in
    let on = side_listed p guards q On k s m c.args.listed c.list_row-with_on.result c.on-on.result c.row_at-on_row.result start c.args.table.now c.list_row-with_on.new.table
    c.requires.prefix reply setting c.on-on.ensures c.row_at-on_row.ensures c.list_row-with_on.ensures.listed h in
    let off = side_listed p guards q Off k s m c.list_row-with_on.result c.list_row.result c.off-off.result c.row_at-off_row.result start c.list_row-with_on.new.table c.list_row.new.table
    c.requires.prefix reply setting c.off-off.ensures c.row_at-off_row.ensures c.list_row.ensures.listed
    (place_same p guards (place k s 0 + 1) (place k s 1) c.list_row-with_on.result start c.list_row-with_on.new.table (omega arith) on) in
    place_same p guards (place k s 1 + 1) (place k (s + 1) 0) c.list_row.result start c.list_row.new.table (omega arith) off
