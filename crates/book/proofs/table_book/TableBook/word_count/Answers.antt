use Rattle.std.proofs.Common.{◌+◌, arith}
use Rattle.book.proofs.Blocks.{words_all}
use Rattle.book.proofs.Most.{few_words}
use Rattle.book.proofs.table_book.TableBook.word_count.Goals as goal

pub returns-clause-few : goal.returns-clause-few
returns-clause-few c =
    let p = c.args.prefix in omega (arith, few_words p, words_all p (c.len.result + 1) (omega arith), c.words_before.ensures.value)
