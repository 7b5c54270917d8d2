use Rattle.std.proofs.Common.{ℕ, List, [], ◌∷◌, refl, ◌∙◌, subst, arith}
use Rattle.book_file.specs.Files.{side_number}
use Rattle.book_file.specs.Steps.{Stand, FollowsInRow}
use Rattle.book_file.proofs.Beginning.{each_none, each_push}
use Rattle.book_file.proofs.Rows.{side_small}
use Rattle.book_file.proofs.Standing.{stand_append}
use Rattle.book_file.proofs.Taking.{row_fails}
use Rattle.book_file.proofs.cursor.Cursor.row.Goals as goal

pub returns-in_err-position-clause-taken : goal.returns-in_err-position-clause-taken
returns-in_err-position-clause-taken c =
    let p = c.args.prefix in
    let file = c.args.self.now.file.now in
    let at = c.args.self.now.place in
    row_fails p c.args.row file at c.from_residual.result _ c.from_residual.ensures.1 [] at _ file refl (omega arith) (each_none (FollowsInRow p.length p.reports))
    (record { parts = refl; place = omega arith }) c.in_err-position.ensures.taken

pub returns-in_err-side-clause-taken : goal.returns-in_err-side-clause-taken
returns-in_err-side-clause-taken c =
    let p = c.args.prefix in
    let Ok = FollowsInRow p.length p.reports in
    let position = c.in_ok-position.ensures.taken in
    row_fails p c.args.row c.args.self.now.file.now c.args.self.now.place c.from_residual-in_err-side.result _ c.from_residual-in_err-side.ensures.1
    (c.in_ok-position.position ∷ []) c.position.new.self.place _ c.position.new.self.file.now c.position.ensures.file (omega arith)
    (each_push Ok [] c.in_ok-position.position (each_none Ok) (position.0, position.1)) position.2 c.in_err-side.ensures.taken

pub returns-in_err-looked_at-clause-taken : goal.returns-in_err-looked_at-clause-taken
returns-in_err-looked_at-clause-taken c =
    let p = c.args.prefix in
    let Ok = FollowsInRow p.length p.reports in
    let file = c.args.self.now.file.now in
    let k = c.in_ok-position.position in
    let s = side_number c.in_ok-side.side in
    let same = c.side.ensures.file ∙ c.position.ensures.file in
    let position = c.in_ok-position.ensures.taken in
    let side : Stand file (s ∷ []) c.position.new.self.place c.side.new.self.place = subst (λ (l : List ℕ). Stand l (s ∷ []) c.position.new.self.place c.side.new.self.place) c.position.ensures.file c.in_ok-side.ensures.taken in
    let small = side_small c.in_ok-side.side in
    row_fails p c.args.row file c.args.self.now.place c.from_residual-in_err-looked_at.result _ c.from_residual-in_err-looked_at.ensures.1
    (k ∷ s ∷ []) c.side.new.self.place _ c.side.new.self.file.now same (omega arith)
    (each_push Ok (k ∷ []) s (each_push Ok [] k (each_none Ok) (position.0, position.1)) (omega arith, small))
    (stand_append file (k ∷ []) (s ∷ []) c.args.self.now.place c.position.new.self.place c.side.new.self.place position.2 side) c.in_err-looked_at.ensures.taken

pub returns-in_err-wanted_on-clause-taken : goal.returns-in_err-wanted_on-clause-taken
returns-in_err-wanted_on-clause-taken c =
    let p = c.args.prefix in
    let Ok = FollowsInRow p.length p.reports in
    let file = c.args.self.now.file.now in
    let at = c.args.self.now.place in
    let k = c.in_ok-position.position in
    let s = side_number c.in_ok-side.side in
    let l = c.in_ok-looked_at.looked_at in
    let a = c.position.new.self.place in
    let b = c.side.new.self.place in
    let d = c.looked_at.new.self.place in
    let same = c.side.ensures.file ∙ c.position.ensures.file in
    let position = c.in_ok-position.ensures.taken in
    let side : Stand file (s ∷ []) a b = subst (λ (f : List ℕ). Stand f (s ∷ []) a b) c.position.ensures.file c.in_ok-side.ensures.taken in
    let looked = c.in_ok-looked_at.ensures.taken in
    let looked_stands : Stand file (l ∷ []) b d = subst (λ (f : List ℕ). Stand f (l ∷ []) b d) same looked.2 in
    let small = side_small c.in_ok-side.side in
    row_fails p c.args.row file at c.from_residual-in_err-wanted_on.result _ c.from_residual-in_err-wanted_on.ensures.1
    (k ∷ s ∷ l ∷ []) d _ c.looked_at.new.self.file.now (c.looked_at.ensures.file ∙ same) (omega arith)
    (each_push Ok (k ∷ s ∷ []) l (each_push Ok (k ∷ []) s (each_push Ok [] k (each_none Ok) (position.0, position.1)) (omega arith, small)) (looked.0, looked.1))
    (stand_append file (k ∷ s ∷ []) (l ∷ []) at b d (stand_append file (k ∷ []) (s ∷ []) at a b position.2 side) looked_stands) c.in_err-wanted_on.ensures.taken
