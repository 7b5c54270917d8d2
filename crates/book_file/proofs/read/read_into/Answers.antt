use Rattle.std.proofs.Common.{◌≡◌, ℕ, List, length, ◌∷◌, [], IsErrAnd, Result, sym, ap, ◌∙◌, subst, arith}
use Rattle.book.specs.declared.row.Row.{Row}
use Rattle.book_file.specs.Files.{row_numbers}
use Rattle.book_file.specs.Refusing.{HasFault}
use Rattle.book_file.specs.Steps.{Stand, InTable, RowFault, ReadInto}
use Rattle.book_file.specs.declared.fault.BookFault.{BookFault}
use Rattle.book_file.specs.declared.reading.Reading.{Reading}
use Rattle.book_file.proofs.ReadSteps.{rows_none, row_more, fault_next, fault_left, says_all}
use Rattle.book_file.proofs.Taking.{fault_is}
use Rattle.book_file.proofs.read.read_into.Goals as goal

pub loop-index-init : goal.loop-index-init
loop-index-init c =
    let r = c.in_ok-reading.reading in
    let same = c.new-cursor.ensures.file in (
      c.header.ensures.file ∙ same,
      rows_none r.prefix r.rows c.args.file.now c.header.new.self.place c.args.table.now
          (subst (λ (l : List ℕ). Stand l (r.prefix.length ∷ r.prefix.reports ∷ r.rows ∷ []) 0 c.header.new.self.place) same c.in_ok-reading.ensures.taken.1),
    )

-- The file has the fault with which reading ends.
ends_with : (file : List ℕ) (before after : List Row) (x : Result Reading BookFault) (f : BookFault) → IsErrAnd x (λ g. g ≡ f) → HasFault file f → ReadInto file x before after
ends_with file before after x f e fault = subst (λ x. ReadInto file x before after) (sym (fault_is x f e)) fault

pub returns-in_err-row : goal.returns-in_err-row
returns-in_err-row c =
    let r = c.in_ok-reading.reading in
    let at = c.loop-index.cursor.place in
    let f = c.in_err-row.field-0.0 in
    let fault = subst (λ (l : List ℕ). RowFault r.prefix c.loop-index.index l at f) c.loop-index.invariant.0 c.in_err-row.ensures.taken in
    ends_with c.args.file.now c.args.table.now c.loop-index.table c.from_residual-in_err-row.result f c.from_residual-in_err-row.ensures.1
    (fault_next r.prefix r.rows c.args.file.now c.loop-index.index at c.args.table.now c.loop-index.table c.loop-index.invariant.1 c.in_ok-reading.ensures.taken.0 f (omega arith) fault)

pub loop-index-preserved : goal.loop-index-preserved
loop-index-preserved c =
    let r = c.in_ok-reading.reading in
    let row = c.in_ok-row.row in
    let file = c.args.file.now in
    let at = c.loop-index.cursor.place in
    let to = c.row.new.self.place in
    let same = c.loop-index.invariant.0 in
    let taken = c.loop-index.invariant.1 in (
      c.row.ensures.file ∙ same,
      row_more r.prefix r.rows file c.loop-index.index at c.args.table.now c.loop-index.table taken row to c.put_row.new.table c.in_ok-row.ensures.taken.0
          (subst (λ (l : List ℕ). Stand l (row_numbers row) at to) same c.in_ok-row.ensures.taken.1)
          (c.put_row.ensures c.args.table.now taken.rows taken.held),
    )

pub returns-in_err-end : goal.returns-in_err-end
returns-in_err-end c =
    let r = c.in_ok-reading.reading in
    let f = c.in_err-end.field-0.0 in
    ends_with c.args.file.now c.args.table.now c.loop-index.table c.from_residual-in_err-end.result f c.from_residual-in_err-end.ensures.1
    (fault_left r.prefix r.rows c.args.file.now c.loop-index.index c.loop-index.cursor.place c.args.table.now c.loop-index.table c.loop-index.invariant.1 c.in_ok-reading.ensures.taken.0 (omega arith) f
    (omega (arith, c.in_err-end.ensures.0, ap length c.loop-index.invariant.0)) c.in_err-end.ensures.1)

pub returns : goal.returns
returns c =
    let r = c.in_ok-reading.reading in
    let taken = c.loop-index.invariant.1 in
    let all : c.loop-index.index ≡ r.rows = omega arith in (
      taken.rows,
      says_all r.prefix r.rows c.args.file.now c.loop-index.index c.loop-index.cursor.place c.args.table.now c.loop-index.table taken c.in_ok-reading.ensures.taken.0 all
          (omega (arith, c.in_ok-end.ensures, ap length c.loop-index.invariant.0)),
      subst (λ (n : ℕ). InTable c.args.table.now taken.rows c.loop-index.table n) all taken.held,
    )
