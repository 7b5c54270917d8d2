-- Lists in parts: one with a part put in, and one split at an element.
use Rattle.std.proofs.Common.{◌≡◌, ℕ, ◌+◌, ◌<◌, ◌≤◌, List, [], ◌∷◌, ◌++◌, length, take, drop, get_or, sym, ap, ◌∙◌, arith, length-append}
use Rattle.std.proofs.Math.Seq.{take-append_seam, drop-append-add}
use Rattle.std.proofs.lemmas.List.{append_assoc, take_more, length-take-le, take-append-drop, drop-drop}
use Rattle.book_file.specs.Steps.{with_at}

module _ {A : Type 0} (at : ℕ) (xs : List A) (old : List A) (inside : at + length xs ≤ length old) where
  abbrev front : List A
  front = take at old ++ xs

  abbrev back : List A
  back = drop (at + length xs) old

  length_front : length front ≡ at + length xs
  length_front = length-append (take at old) xs ∙ ap (λ (n : ℕ). n + length xs) (length-take-le at old (omega arith))

  parts : with_at at xs old ≡ front ++ back
  parts = sym (append_assoc (take at old) xs back)

  pub length_put : length (with_at at xs old) ≡ length old
  length_put = ap length parts ∙ length-append front back ∙ ap (λ (n : ℕ). n + length back) (length_front ∙ sym (length-take-le (at + length xs) old inside))
      ∙ sym (length-append (take (at + length xs) old) back) ∙ ap length (take-append-drop (at + length xs) old)

  -- A part after another is one part.
  pub put_next : (ys : List A) → with_at (at + length xs) ys (with_at at xs old) ≡ with_at at (xs ++ ys) old
  put_next ys =
      let before : take (at + length xs) (with_at at xs old) ≡ front =
      ap (take (at + length xs)) parts ∙ ap (λ (n : ℕ). take n (front ++ back)) (sym length_front) ∙ take-append_seam front back in
      let after : drop (at + length xs + length ys) (with_at at xs old) ≡ drop (at + length (xs ++ ys)) old =
      ap (drop (at + length xs + length ys)) parts
      ∙ ap (λ (n : ℕ). drop (n + length ys) (front ++ back)) (sym length_front)
      ∙ drop-append-add front back (length ys)
      ∙ drop-drop (length ys) (at + length xs) old
      ∙ ap (λ (n : ℕ). drop n old) (let e = length-append xs ys in omega arith) in
      (λ i. before i ++ (ys ++ after i))
      ∙ append_assoc (take at old) xs (ys ++ drop (at + length (xs ++ ys)) old)
      ∙ ap (λ (l : List A). take at old ++ l) (sym (append_assoc xs ys (drop (at + length (xs ++ ys)) old)))

-- A part of no elements leaves the list.
pub put_none : {A : Type 0} (at : ℕ) (old : List A) → at ≤ length old → with_at at [] old ≡ old
put_none at old h = ap (λ (n : ℕ). take at old ++ drop n old) (let e : at + 0 ≡ at = omega arith in e) ∙ take-append-drop at old

pub split_at : {A : Type 0} (xs : List A) (i : ℕ) (d : A) → i < length xs → xs ≡ take i xs ++ get_or xs i d ∷ drop (i + 1) xs
split_at xs i d l =
    sym (take-append-drop (i + 1) xs) ∙ ap (λ ys. ys ++ drop (i + 1) xs) (take_more xs i d l)
    ∙ append_assoc (take i xs) (get_or xs i d ∷ []) (drop (i + 1) xs)
