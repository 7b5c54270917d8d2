use Rattle.std.proofs.Common.{take, subst, sym}
use Rattle.std.proofs.lemmas.Result.{MatchResult-at_ok}
use Rattle.book_file.specs.Files.{Fit}
use Rattle.jobs.proofs.BookFiles.{listed_ok, listed_fit}
use Rattle.jobs.proofs.searched_file.listed_file_in.Goals as goal

pub unwrap-rows-requires : goal.unwrap-rows-requires
unwrap-rows-requires g c =
    listed_ok (g.B.Book.prefix c.args.book.now) (g.B.Book.guards c.args.book.now) c.requires.policy c.list_rows.result c.args.table.now c.list_rows.new.table c.list_rows.ensures.answer c.requires.table

pub written_file-requires : goal.written_file-requires
written_file-requires g c =
    let p = g.B.Book.prefix c.args.book.now in
    let into = MatchResult-at_ok _ _ _ c.unwrap-rows.ensures c.list_rows.ensures.answer in
    record {
      fit = subst (λ q. Fit q (take c.unwrap-rows.result c.list_rows.new.table)) (sym c.prefix.ensures)
          (listed_fit p (g.B.Book.guards c.args.book.now) c.requires.policy c.args.table.now c.list_rows.new.table c.unwrap-rows.result into c.list_rows.ensures.made);
    }
