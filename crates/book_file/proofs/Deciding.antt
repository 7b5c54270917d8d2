-- No file says two books, or has two faults, or says a book and has a fault.
use Rattle.std.proofs.Common.{All, ◌≡◌, ℕ, ◌+◌, ◌^◌, ◌<◌, List, [], ◌∷◌, ◌++◌, length, drop, get_or, Some, None, Option, refl, sym, ap, ◌∙◌, subst, ⊎_elim, arith, length-append}
use Rattle.std.proofs.lemmas.List.{append_assoc, append-nil, get_or-append-add}
use Rattle.prefix.specs.declared.prefix.Prefix.{Prefix}
use Rattle.prefix.proofs.Equal.{same_prefix}
use Rattle.book.specs.declared.row.Row.{Row}
use Rattle.book.specs.declared.side.Side.{Side}
use Rattle.book.specs.declared.side.Side.TheVariants.{On, Off}
use Rattle.book_file.specs.declared.fault.BookFault.{BookFault}
use Rattle.book_file.specs.declared.fault.BookFault.TheVariants.{Number, Value, ExtraBytes, TableTooShort}
use Rattle.book_file.specs.declared.field.Field.{Field}
use Rattle.book_file.specs.Numbers.{number_bytes, bytes_of}
use Rattle.book_file.specs.Files.{side_number, rows_numbers, file_numbers, Says}
use Rattle.book_file.specs.Fields.{next, Allowed, Begun}
use Rattle.book_file.specs.Refusing.{WrongThere, HasFault, Decided}
use Rattle.book_file.proofs.Apart.{GoesOn, same_number, one_goes_on, no_numbers}
use Rattle.book_file.proofs.Beginning.{begun_small, file_begun, file_over}
use Rattle.book_file.proofs.Rows.{Small}
use Rattle.book_file.proofs.Sizes.{number_size}

-- What is wrong at one place is one fault.
wrong_one : (o : Option Field) (Ok : ℕ → Type 0) (place : ℕ) (bytes : List ℕ) (f h : BookFault) → WrongThere o Ok place bytes f → WrongThere o Ok place bytes h → f ≡ h
wrong_one (Some field) Ok place bytes (Number p a) (Number q b) u v = λ i. Number ((u.0 ∙ sym v.0) i) ((u.1 ∙ sym v.1) i)
wrong_one (Some field) Ok place bytes (Number p a) (Value q b) u v = absurd (u.2 v.2.0 v.2.1 v.2.2 v.2.3)
wrong_one (Some field) Ok place bytes (Number p a) (ExtraBytes q) u v = absurd v
wrong_one (Some field) Ok place bytes (Number p a) TableTooShort u v = absurd v
wrong_one (Some field) Ok place bytes (Value p a) (Number q b) u v = absurd (v.2 u.2.0 u.2.1 u.2.2 u.2.3)
wrong_one (Some field) Ok place bytes (Value p a) (Value q b) u v = λ i. Value ((u.0 ∙ sym v.0) i) ((u.1 ∙ sym v.1) i)
wrong_one (Some field) Ok place bytes (Value p a) (ExtraBytes q) u v = absurd v
wrong_one (Some field) Ok place bytes (Value p a) TableTooShort u v = absurd v
wrong_one (Some field) Ok place bytes (ExtraBytes p) h u v = absurd u
wrong_one (Some field) Ok place bytes TableTooShort h u v = absurd u
wrong_one None Ok place bytes (Number p a) h u v = absurd u
wrong_one None Ok place bytes (Value p a) h u v = absurd u
wrong_one None Ok place bytes (ExtraBytes p) (Number q b) u v = absurd v
wrong_one None Ok place bytes (ExtraBytes p) (Value q b) u v = absurd v
wrong_one None Ok place bytes (ExtraBytes p) (ExtraBytes q) u v = λ i. ExtraBytes ((u.0 ∙ sym v.0) i)
wrong_one None Ok place bytes (ExtraBytes p) TableTooShort u v = absurd v
wrong_one None Ok place bytes TableTooShort h u v = absurd u

none_not_some : (g : Field) → ◌≡◌ {A = Option Field} None (Some g) → ⊥
none_not_some g e = let z : ◌≡◌ {A = ℕ} 0 1 = ap number_of e in absurd (omega arith)
  where
    number_of : Option Field → ℕ
    number_of None = 0
    number_of (Some x) = 1

-- Nothing is wrong where a number stands that may stand there,
not_wrong : (o : Option Field) (Ok : ℕ → Type 0) (place x : ℕ) (more : List ℕ) (f : BookFault) → (g : Field) → o ≡ Some g → x < 2 ^ 28 → Ok x → WrongThere o Ok place (number_bytes x ++ more) f → ⊥
not_wrong (Some field) Ok place x more (Number p a) g e small ok u = u.2 x more small refl
not_wrong (Some field) Ok place x more (Value p a) g e small ok u =
    let same = same_number x u.2.0 more u.2.1 small u.2.2 u.2.3 in
    u.2.4 (subst Ok same ok)
not_wrong (Some field) Ok place x more (ExtraBytes p) g e small ok u = u
not_wrong (Some field) Ok place x more TableTooShort g e small ok u = u
not_wrong None Ok place x more f g e small ok u = none_not_some g e

-- or where nothing is wanted and nothing stands.
not_wrong_end : (o : Option Field) (Ok : ℕ → Type 0) (place : ℕ) (f : BookFault) → o ≡ None → WrongThere o Ok place [] f → ⊥
not_wrong_end (Some g) Ok place f e u = none_not_some g (sym e)
not_wrong_end None Ok place (Number p a) e u = u
not_wrong_end None Ok place (Value p a) e u = u
not_wrong_end None Ok place (ExtraBytes p) e u = u.1 refl
not_wrong_end None Ok place TableTooShort e u = u

-- No file goes on as it should be where another has a fault.
not_past : (ns ms r s : List ℕ) (place : ℕ) (f : BookFault) → Begun ms → WrongThere (next ns) (Allowed ns) place r f → (x : ℕ) (more : List ℕ) → ms ≡ ns ++ x ∷ more → r ≡ bytes_of (x ∷ more) ++ s → ⊥
not_past ns ms r s place f begun wrong x more e parts =
    let follows = begun ns x more e in
    let front : r ≡ number_bytes x ++ (bytes_of more ++ s) = parts ∙ append_assoc (number_bytes x) (bytes_of more) s in
    not_wrong (next ns) (Allowed ns) place x (bytes_of more ++ s) f follows.1.0 follows.1.1 follows.0 follows.2 (subst (λ bs. WrongThere (next ns) (Allowed ns) place bs f) front wrong)

one_goes_past : (file : List ℕ) (f h : BookFault) (a : HasFault file f) (b : HasFault file h) → GoesOn a.numbers a.rest b.numbers b.rest → f ≡ h
one_goes_past file f h a b ([], e, parts) =
    let same : b.numbers ≡ a.numbers = e ∙ append-nil a.numbers in
    wrong_one (next a.numbers) (Allowed a.numbers) (length (bytes_of a.numbers)) a.rest f h a.wrong
    (subst (λ bs. WrongThere (next a.numbers) (Allowed a.numbers) (length (bytes_of a.numbers)) bs h) (sym parts)
    (subst (λ (ns : List ℕ). WrongThere (next ns) (Allowed ns) (length (bytes_of ns)) b.rest h) same b.wrong))
one_goes_past file f h a b (x ∷ more, e, parts) = absurd (not_past a.numbers b.numbers a.rest b.rest (length (bytes_of a.numbers)) f b.begun a.wrong x more e parts)

one_fault : (file : List ℕ) (f h : BookFault) → HasFault file f → HasFault file h → f ≡ h
one_fault file f h a b =
    ⊎_elim (one_goes_past file f h a b) (λ (g : GoesOn b.numbers b.rest a.numbers a.rest). sym (one_goes_past file h f b a g))
    (one_goes_on a.numbers b.numbers a.rest b.rest (begun_small a.numbers a.begun) (begun_small b.numbers b.begun) (sym a.parts ∙ b.parts))

-- The numbers of a file that says rows are as they should be, and its bytes end with them.
said_begun : (file : List ℕ) (p : Prefix) (rows : List Row) → Says file p rows → Begun (file_numbers p rows)
said_begun file p rows s = file_begun p rows s.fit.few s.fit.made

said_parts : (file : List ℕ) (p : Prefix) (rows : List Row) → Says file p rows → bytes_of (file_numbers p rows) ++ [] ≡ file
said_parts file p rows s = append-nil (bytes_of (file_numbers p rows)) ∙ sym s.bytes

module _ (file : List ℕ) (p : Prefix) (rows : List Row) (s : Says file p rows) where
  fault_past : (f : BookFault) (a : HasFault file f) → GoesOn (file_numbers p rows) [] a.numbers a.rest → ⊥
  fault_past f a (more, e, parts) =
      let ns = file_numbers p rows in
      let none : more ≡ [] = no_numbers more (after_small more e) (let l = ap length parts in let k = length-append (bytes_of more) a.rest in omega arith) in
      let same : a.numbers ≡ ns = e ∙ ap (λ (ms : List ℕ). ns ++ ms) none ∙ append-nil ns in
      let ends : [] ≡ a.rest = parts ∙ ap (λ (ms : List ℕ). bytes_of ms ++ a.rest) none in
      not_wrong_end (next a.numbers) (Allowed a.numbers) (length (bytes_of a.numbers)) f (ap next same ∙ file_over p rows)
      (subst (λ bs. WrongThere (next a.numbers) (Allowed a.numbers) (length (bytes_of a.numbers)) bs f) (sym ends) a.wrong)
    where
      after_small : (more : List ℕ) → a.numbers ≡ file_numbers p rows ++ more → All Small more
      after_small more e i d l =
          subst (λ (x : ℕ). x < 2 ^ 28) (ap (λ (ns : List ℕ). get_or ns (length (file_numbers p rows) + i) d) e ∙ get_or-append-add (file_numbers p rows) more i d)
          (begun_small a.numbers a.begun (length (file_numbers p rows) + i) d (omega (arith, ap length e, length-append (file_numbers p rows) more)))

  fault_inside : (f : BookFault) (a : HasFault file f) → GoesOn a.numbers a.rest (file_numbers p rows) [] → ⊥
  fault_inside f a ([], e, parts) =
      let same : file_numbers p rows ≡ a.numbers = e ∙ append-nil a.numbers in
      not_wrong_end (next a.numbers) (Allowed a.numbers) (length (bytes_of a.numbers)) f (ap next (sym same) ∙ file_over p rows)
      (subst (λ bs. WrongThere (next a.numbers) (Allowed a.numbers) (length (bytes_of a.numbers)) bs f) parts a.wrong)
  fault_inside f a (x ∷ more, e, parts) =
      not_past a.numbers (file_numbers p rows) a.rest [] (length (bytes_of a.numbers)) f (said_begun file p rows s) a.wrong x more e parts

  pub not_both : (f : BookFault) → HasFault file f → ⊥
  not_both f a =
      ⊎_elim (fault_past f a) (fault_inside f a)
      (one_goes_on (file_numbers p rows) a.numbers [] a.rest (begun_small (file_numbers p rows) (said_begun file p rows s)) (begun_small a.numbers a.begun) (said_parts file p rows s ∙ a.parts))

-- Rows are fixed by their numbers.
side_apart : (a b : Side) → side_number a ≡ side_number b → a ≡ b
side_apart On On e = refl
side_apart On Off e = absurd (omega arith)
side_apart Off On e = absurd (omega arith)
side_apart Off Off e = refl

rows_apart : (rows others : List Row) → rows_numbers rows ≡ rows_numbers others → rows ≡ others
rows_apart [] [] e = refl
rows_apart [] (r ∷ others) e = absurd (let l = ap length e in omega arith)
rows_apart (r ∷ rows) [] e = absurd (let l = ap length e in omega arith)
rows_apart (r ∷ rows) (q ∷ others) e =
    let position : r.position ≡ q.position = ap (λ (ns : List ℕ). get_or ns 0 0) e in
    let side : r.side ≡ q.side = side_apart r.side q.side (ap (λ (ns : List ℕ). get_or ns 1 0) e) in
    let looked : r.looked_at ≡ q.looked_at = ap (λ (ns : List ℕ). get_or ns 2 0) e in
    let wanted : r.wanted_on ≡ q.wanted_on = ap (λ (ns : List ℕ). get_or ns 3 0) e in
    let rest : rows ≡ others = rows_apart rows others (ap (drop 4) e) in
    λ i. record { position = position i; side = side i; looked_at = looked i; wanted_on = wanted i } ∷ rest i

-- One list of numbers goes on with the other, and takes no more bytes.
nothing_more : (ns ms : List ℕ) → Begun ms → GoesOn ns [] ms [] → ms ≡ ns
nothing_more ns ms begun ([], e, parts) = e ∙ append-nil ns
nothing_more ns ms begun (x ∷ more, e, parts) =
    absurd (let f = begun ns x more e in let k = number_size x f.0 in let l = ap length parts in let a = length-append (bytes_of (x ∷ more)) [] in let b = length-append (number_bytes x) (bytes_of more) in omega arith)

one_book : (file : List ℕ) (p q : Prefix) (rows others : List Row) → Says file p rows → Says file q others → (p ≡ q) × (rows ≡ others)
one_book file p q rows others a b =
    let ns = file_numbers p rows in
    let ms = file_numbers q others in
    let u = said_begun file p rows a in
    let v = said_begun file q others b in
    let same : ns ≡ ms =
    ⊎_elim (λ (g : GoesOn ns [] ms []). sym (nothing_more ns ms v g)) (λ (g : GoesOn ms [] ns []). nothing_more ms ns u g)
    (one_goes_on ns ms [] [] (begun_small ns u) (begun_small ms v) (said_parts file p rows a ∙ sym (said_parts file q others b))) in
    (same_prefix p q (ap (λ (l : List ℕ). get_or l 0 0) same) (ap (λ (l : List ℕ). get_or l 1 0) same), rows_apart rows others (ap (drop 3) same))

pub decided : (file : List ℕ) → Decided file
decided file = record { one_file = λ p rows other a b. b.bytes ∙ sym a.bytes; one_book = one_book file; one_fault = one_fault file; not_both = λ p rows f s a. not_both file p rows s f a }
