-- That the bytes of numbers can be told apart.
use Rattle.std.proofs.Common.{All, ◌≡◌, ℕ, suc, ◌^◌, ◌<◌, ◌⊎◌, List, [], ◌∷◌, ◌++◌, length, take, drop, refl, sym, ap, ◌∙◌, ⊎_elim, inl, inr, arith, length-append}
use Rattle.std.proofs.lemmas.Bool.{cases_order}
use Rattle.std.proofs.lemmas.List.{append_assoc, length_push}
use Rattle.std.proofs.lemmas.List.Elements.{All-get_or}
use Rattle.std.proofs.Math.Seq.{take-append_seam, drop-append_seam}
use Rattle.book_file.specs.Numbers.{number_bytes, bytes_of, group_value, IsNumber}
use Rattle.book_file.proofs.Grouping.{form, last_at, marked_at}
use Rattle.book_file.proofs.Rows.{Small}
use Rattle.book_file.proofs.Sizes.{number_size}

module _ (n m : ℕ) (r s : List ℕ) (small : n < 2 ^ 28) (other : m < 2 ^ 28) (e : number_bytes n ++ r ≡ number_bytes m ++ s) where
  abbrev bytes : List ℕ
  bytes = number_bytes n ++ r

  abbrev one : IsNumber n (number_bytes n)
  one = form n r bytes small refl

  abbrev two : IsNumber m (number_bytes m)
  two = form m s bytes other e

  -- The first byte that is not marked ends both.
  same_marked : length one.marked ≡ length two.marked
  same_marked =
      ⊎_elim (λ eq. eq) (⊎_elim
      (λ (l : length one.marked < length two.marked). absurd (omega (arith, marked_at m s bytes other e (length one.marked) 0 l, last_at n r bytes small refl 0, one.ends)))
      (λ (l : length two.marked < length one.marked). absurd (omega (arith, marked_at n r bytes small refl (length two.marked) 0 l, last_at m s bytes other e 0, two.ends))))
      (cases_order (length one.marked) (length two.marked))

  same_size : length (number_bytes n) ≡ length (number_bytes m)
  same_size = omega (arith, same_marked, ap length one.parts, ap length two.parts, length_push one.marked one.last, length_push two.marked two.last)

  same_bytes : number_bytes n ≡ number_bytes m
  same_bytes =
      sym (take-append_seam (number_bytes n) r) ∙ ap (take (length (number_bytes n))) e ∙ ap (λ (k : ℕ). take k (number_bytes m ++ s)) same_size ∙ take-append_seam (number_bytes m) s

  -- A number at the front of some bytes is the only one, and so is what follows it.
  pub same_number : n ≡ m
  same_number = sym one.value ∙ ap group_value same_bytes ∙ two.value

  pub same_rest : r ≡ s
  same_rest =
      sym (drop-append_seam (number_bytes n) r) ∙ ap (drop (length (number_bytes n))) e ∙ ap (λ (k : ℕ). drop k (number_bytes m ++ s)) same_size ∙ drop-append_seam (number_bytes m) s

-- One list of numbers goes on with the other.
abbrev pub GoesOn : List ℕ → List ℕ → List ℕ → List ℕ → Type 0
GoesOn ns r ms s = (more : List ℕ) × (ms ≡ ns ++ more) × (r ≡ bytes_of more ++ s)

-- Of two lists of numbers at the front of the same bytes one goes on with the other.
pub one_goes_on : (ns ms r s : List ℕ) → All Small ns → All Small ms → bytes_of ns ++ r ≡ bytes_of ms ++ s → GoesOn ns r ms s ⊎ GoesOn ms s ns r
one_goes_on [] ms r s a b e = inl (ms, refl, e)
one_goes_on (n ∷ ns) [] r s a b e = inr (n ∷ ns, refl, sym e)
one_goes_on (n ∷ ns) (m ∷ ms) r s a b e =
    let small = All-get_or Small (n ∷ ns) 0 0 (omega arith) a in
    let other = All-get_or Small (m ∷ ms) 0 0 (omega arith) b in
    let f = sym (append_assoc (number_bytes n) (bytes_of ns) r) ∙ e ∙ append_assoc (number_bytes m) (bytes_of ms) s in
    let same : n ≡ m = same_number n m (bytes_of ns ++ r) (bytes_of ms ++ s) small other f in
    let rest : bytes_of ns ++ r ≡ bytes_of ms ++ s = same_rest n m (bytes_of ns ++ r) (bytes_of ms ++ s) small other f in
    ⊎_elim
    (λ (g : GoesOn ns r ms s). inl (g.0, (λ i. sym same i ∷ g.1 i), g.2))
    (λ (g : GoesOn ms s ns r). inr (g.0, (λ i. same i ∷ g.1 i), g.2))
    (one_goes_on ns ms r s (λ i d l. All-get_or Small (n ∷ ns) (suc i) d (omega arith) a) (λ i d l. All-get_or Small (m ∷ ms) (suc i) d (omega arith) b) rest)

-- Numbers that take no bytes are none.
pub no_numbers : (ns : List ℕ) → All Small ns → length (bytes_of ns) ≡ 0 → ns ≡ []
no_numbers [] a e = refl
no_numbers (n ∷ ns) a e = absurd (omega (arith, number_size n (All-get_or Small (n ∷ ns) 0 0 (omega arith) a), length-append (number_bytes n) (bytes_of ns)))
