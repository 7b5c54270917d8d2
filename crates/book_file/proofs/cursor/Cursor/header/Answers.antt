use Rattle.std.proofs.Common.{◌≡◌, ℕ, ◌^◌, ◌<◌, ◌≤◌, List, [], ◌∷◌, drop, Some, pow_mono, refl, sym, ◌∙◌, subst, arith}
use Rattle.prefix.specs.declared.prefix.Prefix.{Prefix}
use Rattle.book_file.specs.declared.field.Field.TheVariants as field
use Rattle.book_file.specs.Fields.{Allowed, Follows, Begun}
use Rattle.book_file.specs.Refusing.{WrongThere}
use Rattle.book_file.specs.Steps.{Stand}
use Rattle.book_file.proofs.Beginning.{each_none, each_push}
use Rattle.book_file.proofs.Standing.{stand_append, stand_none}
use Rattle.book_file.proofs.Taking.{header_fails}
use Rattle.book_file.proofs.cursor.Cursor.header.Goals as goal

pub returns-in_err-length-clause-taken : goal.returns-in_err-length-clause-taken
returns-in_err-length-clause-taken c =
    let file = c.args.self.now.file.now in
    header_fails file c.from_residual.result _ c.from_residual.ensures.1 [] 0 _ file refl (each_none Follows) (stand_none file)
    (subst (λ (a : ℕ). WrongThere (Some field.Length) (Allowed []) a (drop a file) c.in_err-length.field-0.0) c.requires.start c.in_err-length.ensures.taken)

-- The number of positions, as it was taken.
module _ (file : List ℕ) (n at a : ℕ) (start : at ≡ 0) (taken : (n < 2 ^ 28) × ((1 ≤ n) × (n ≤ 24)) × Stand file (n ∷ []) at a) where
  length_read : Begun (n ∷ []) × Stand file (n ∷ []) 0 a
  length_read = (each_push Follows [] n (each_none Follows) (taken.0, (field.Length, refl), taken.1), subst (λ (x : ℕ). Stand file (n ∷ []) x a) start taken.2)

  -- And the reports after it.
  prefix_read : (p : Prefix) (b : ℕ) → p.length ≡ n → Stand file (p.reports ∷ []) a b → Begun (p.length ∷ p.reports ∷ []) × Stand file (p.length ∷ p.reports ∷ []) 0 b
  prefix_read p b same stand =
      let read = subst (λ (x : ℕ). Begun (x ∷ []) × Stand file (x ∷ []) 0 a) (sym same) length_read in (
        each_push Follows (p.length ∷ []) p.reports read.0 (omega (arith, p.ok.2, pow_mono p.ok.1), (field.Reports, refl), p.ok),
        stand_append file (p.length ∷ []) (p.reports ∷ []) 0 a b read.1 stand,
      )

pub returns-in_err-prefix-clause-taken : goal.returns-in_err-prefix-clause-taken
returns-in_err-prefix-clause-taken c =
    let read = length_read c.args.self.now.file.now c.in_ok-length.length c.args.self.now.place c.length.new.self.place c.requires.start c.in_ok-length.ensures.taken in
    header_fails c.args.self.now.file.now c.from_residual-in_err-prefix.result _ c.from_residual-in_err-prefix.ensures.1 (c.in_ok-length.length ∷ []) c.length.new.self.place _
    c.length.new.self.file.now c.length.ensures.file read.0 read.1 c.in_err-prefix.ensures.taken

pub returns-in_err-rows-clause-taken : goal.returns-in_err-rows-clause-taken
returns-in_err-rows-clause-taken c =
    let file = c.args.self.now.file.now in
    let a = c.length.new.self.place in
    let b = c.prefix.new.self.place in
    let p = c.in_ok-prefix.prefix in
    let reports = c.in_ok-prefix.ensures.taken in
    let stands : Stand file (p.reports ∷ []) a b = subst (λ (l : List ℕ). Stand l (p.reports ∷ []) a b) c.length.ensures.file reports.1 in
    let read = prefix_read file c.in_ok-length.length c.args.self.now.place a c.requires.start c.in_ok-length.ensures.taken p b reports.0 stands in
    header_fails file c.from_residual-in_err-rows.result _ c.from_residual-in_err-rows.ensures.1 (p.length ∷ p.reports ∷ []) b _
    c.prefix.new.self.file.now (c.prefix.ensures.file ∙ c.length.ensures.file) read.0 read.1 c.in_err-rows.ensures.taken
