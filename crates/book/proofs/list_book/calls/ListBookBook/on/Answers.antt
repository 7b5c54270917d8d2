use Rattle.book.proofs.list_book.calls.ListBookBook.on.Goals as goal

pub returns : goal.returns
returns c = c.answer.ensures
