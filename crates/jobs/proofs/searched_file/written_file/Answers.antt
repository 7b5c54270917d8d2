use Rattle.std.proofs.Common.{◌≡◌, ◌+◌, ◌*◌, length, arith}
use Rattle.jobs.proofs.BookFiles.{written_ok}
use Rattle.jobs.proofs.searched_file.written_file.Goals as goal

pub unwrap-size-requires : goal.unwrap-size-requires
unwrap-size-requires c =
    let long : length c.deref_mut.result.now ≡ 12 + 16 * length c.args.rows.now = grind arith in
    written_ok c.args.prefix c.args.rows.now c.write_rows.result c.deref_mut.result.now c.write_rows.new.buffer c.write_rows.ensures.written c.requires.fit long
