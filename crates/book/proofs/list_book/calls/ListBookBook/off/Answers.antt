use Rattle.book.proofs.list_book.calls.ListBookBook.off.Goals as goal

pub returns : goal.returns
returns c = c.answer.ensures
