-- Numbers as they stand in a file, and faults after them.
use Rattle.std.proofs.Common.{◌≡◌, ℕ, ◌+◌, ◌^◌, ◌<◌, ◌≤◌, List, [], ◌∷◌, ◌++◌, length, drop, Some, None, Option, refl, sym, ap, ◌∙◌, subst, arith, length-append, length-drop}
use Rattle.std.proofs.lemmas.List.{append_assoc, drop-drop}
use Rattle.prefix.specs.declared.prefix.Prefix.{Prefix}
use Rattle.book.specs.declared.row.Row.{Row}
use Rattle.book_file.specs.declared.fault.BookFault.{BookFault}
use Rattle.book_file.specs.declared.fault.BookFault.TheVariants.{Number, Value, ExtraBytes, TableTooShort}
use Rattle.book_file.specs.declared.field.Field.{Field}
use Rattle.book_file.specs.Numbers.{number_bytes, bytes_of, NoNumber, BeginsWith}
use Rattle.book_file.specs.Files.{rows_numbers}
use Rattle.book_file.specs.Fields.{next, AllowedInRows, Allowed, Begun}
use Rattle.book_file.specs.Refusing.{WrongThere, HasFault}
use Rattle.book_file.specs.Steps.{Stand, RowFault}
use Rattle.book_file.proofs.Beginning.{next_here, allowed_from, begun_in_row}
use Rattle.book_file.proofs.Sizes.{bytes-append, bytes_one, number_size}

pub stand_none : (file : List ℕ) → Stand file [] 0 0
stand_none file = record { parts = refl; place = omega arith }

pub stand_append : (file ns ms : List ℕ) (a b c : ℕ) → Stand file ns a b → Stand file ms b c → Stand file (ns ++ ms) a c
stand_append file ns ms a b c s t = record {
  parts = s.parts ∙ ap (λ (l : List ℕ). bytes_of ns ++ l) t.parts ∙ sym (append_assoc (bytes_of ns) (bytes_of ms) (drop c file)) ∙ ap (λ (l : List ℕ). l ++ drop c file) (sym (bytes-append ns ms));
  place = omega (arith, s.place, t.place, ap length (bytes-append ns ms), length-append (bytes_of ns) (bytes_of ms));
}

-- A number that was read at a place.
pub number_stands : (file : List ℕ) (at to n k : ℕ) → BeginsWith n k (drop at file) → to ≡ at + k → Stand file (n ∷ []) at to
number_stands file at to n k b e = record {
  parts = b.parts ∙ (λ i. sym (bytes_one n) i ++ (drop-drop k at file ∙ ap (λ (x : ℕ). drop x file) (sym e)) i);
  place = e ∙ ap (λ (x : ℕ). at + x) (b.size ∙ ap length (sym (bytes_one n)));
}

-- It ends within the file.
pub number_inside : (file : List ℕ) (at n k : ℕ) → BeginsWith n k (drop at file) → at + k ≤ length file
number_inside file at n k b =
    let l = ap length b.parts in
    omega (arith, l, length-append (number_bytes n) (drop k (drop at file)), length-drop at file, b.size, number_size n b.small)

-- A fault after numbers that are as they should be.
pub fault_after : (file ns : List ℕ) (at : ℕ) (f : BookFault) → Begun ns → Stand file ns 0 at → WrongThere (next ns) (Allowed ns) at (drop at file) f → HasFault file f
fault_after file ns at f begun stand wrong = record {
  numbers = ns;
  rest = drop at file;
  begun = begun;
  parts = stand.parts;
  wrong = subst (λ (x : ℕ). WrongThere (next ns) (Allowed ns) x (drop at file) f) (let p = stand.place in let e : at ≡ length (bytes_of ns) = omega arith in e) wrong;
}

-- What is wrong for more values is wrong for fewer.
wrong_like : (o : Option Field) (Ok Fewer : ℕ → Type 0) (at : ℕ) (bytes : List ℕ) (f : BookFault) → ((n : ℕ) → Fewer n → Ok n) → WrongThere o Ok at bytes f → WrongThere o Fewer at bytes f
wrong_like (Some field) Ok Fewer at bytes (Number p g) h w = w
wrong_like (Some field) Ok Fewer at bytes (Value p g) h w = (w.0, w.1, (w.2.0, w.2.1, w.2.2, w.2.3, λ k. w.2.4 (h w.2.0 k)))
wrong_like (Some field) Ok Fewer at bytes (ExtraBytes p) h w = w
wrong_like (Some field) Ok Fewer at bytes TableTooShort h w = w
wrong_like None Ok Fewer at bytes (Number p g) h w = w
wrong_like None Ok Fewer at bytes (Value p g) h w = w
wrong_like None Ok Fewer at bytes (ExtraBytes p) h w = w
wrong_like None Ok Fewer at bytes TableTooShort h w = w

-- A row's fault is the file's.
pub fault_in_row : (p : Prefix) (count at : ℕ) (rows : List Row) (file : List ℕ) (f : BookFault) → length rows < count → Begun (p.length ∷ p.reports ∷ count ∷ rows_numbers rows)
    → Stand file (p.length ∷ p.reports ∷ count ∷ rows_numbers rows) 0 at → RowFault p (length rows) file at f → HasFault file f
fault_in_row p count at rows file f l begun stand r =
    let before = p.length ∷ p.reports ∷ count ∷ rows_numbers rows in
    let ks = r.numbers in
    fault_after file (before ++ ks) r.to f (begun_in_row p count rows l ks (omega (arith, r.part)) begun r.begun) (stand_append file before ks 0 at r.to stand r.stand)
    (wrong_like (next (before ++ ks)) (AllowedInRows p.length p.reports ks) (Allowed (before ++ ks)) r.to (drop r.to file) f (allowed_from p.length p.reports rows ks)
    (subst (λ o. WrongThere o (AllowedInRows p.length p.reports ks) r.to (drop r.to file) f) (sym (next_here p count rows l ks r.part)) r.wrong))

-- No number stands at a place, or one that may not stand there.
pub no_number_there : (field : Field) (Ok : ℕ → Type 0) (at : ℕ) (bytes : List ℕ) (f : BookFault) → f ≡ Number at field → NoNumber bytes → WrongThere (Some field) Ok at bytes f
no_number_there field Ok at bytes f e none = subst (WrongThere (Some field) Ok at bytes) (sym e) (refl, refl, none)

pub outside_there : (field : Field) (Ok : ℕ → Type 0) (file : List ℕ) (at to n : ℕ) (f : BookFault) → f ≡ Value at field → n < 2 ^ 28 → Stand file (n ∷ []) at to → (Ok n → ⊥) → WrongThere (Some field) Ok at (drop at file) f
outside_there field Ok file at to n f e small stand not =
    subst (WrongThere (Some field) Ok at (drop at file)) (sym e)
    (refl, refl, (n, drop to file, small, stand.parts ∙ ap (λ (l : List ℕ). l ++ drop to file) (bytes_one n), not))
