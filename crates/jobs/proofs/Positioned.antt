-- The position after some bytes, by what stands at their end.
use Rattle.std.proofs.Common.{◌≡◌, ℕ, ◌+◌, ◌-◌, Bool, true, false, not, cond, eqb, List, [], ◌∷◌, ◌++◌, length, take, reverse, sym, refl, ap, ◌∙◌, subst, inl, inr, arith}
use mathlib.Core.List.{reverse-cons}
use Rattle.std.specs.List.{prefix_len, take_while}
use Rattle.std.proofs.lemmas.List.Elements.{All-nil, All-push}
use Rattle.std.proofs.lemmas.Bool.{eqb-true, eqb-false}
use Rattle.std.proofs.Math.Seq.{take-append_seam}
use Rattle.std.proofs.lemmas.List.{append_assoc, append-nil, length-append, length_push, reverse-reverse}
use Rattle.std.proofs.lemmas.List.Sums.{sum_by-append}
use Rattle.std.proofs.lemmas.List.Folds.{length-prefix_len}
use Rattle.jobs.specs.Positions.{line_ends, EndsAt}

abbrev line_end : ℕ → ℕ
line_end b = cond (eqb b 10) 1 0

line_ends-push : (bs : List ℕ) (b : ℕ) → line_ends (bs ++ b ∷ []) ≡ line_ends bs + line_end b
line_ends-push bs b = omega (arith, sum_by-append line_end bs (b ∷ []))

-- The bytes since the last line end, counted from the last byte.
abbrev since : List ℕ → ℕ
since rs = prefix_len (λ b. not (eqb b 10)) rs

module _ (bs : List ℕ) (b column : ℕ) where
  ends_line : eqb b 10 ≡ true → EndsAt (bs ++ b ∷ []) (record { line = line_ends (bs ++ b ∷ []) + 1; column = 1 })
  ends_line is =
      let all : bs ++ b ∷ [] ≡ bs ++ 10 ∷ [] = ap (λ (x : ℕ). bs ++ x ∷ []) (eqb-true b 10 is) in
      record {
        lines = bs ++ 10 ∷ [];
        part = [];
        parts = all ∙ sym (append-nil (bs ++ 10 ∷ []));
        whole = inr (bs, refl);
        inside = All-nil (λ b. b ≡ 10 → ⊥);
        line = omega (arith, ap line_ends all);
        column = refl;
      }

  ends_byte : eqb b 10 ≡ false → EndsAt bs (record { line = line_ends bs + 1; column = column }) → EndsAt (bs ++ b ∷ []) (record { line = line_ends (bs ++ b ∷ []) + 1; column = column + 1 })
  ends_byte other h =
      let none : line_end b ≡ 0 = ap (λ (t : Bool). cond t 1 0) other in
      record {
        lines = h.lines;
        part = h.part ++ b ∷ [];
        parts = ap (λ (x : List ℕ). x ++ b ∷ []) h.parts ∙ append_assoc h.lines h.part (b ∷ []);
        whole = h.whole;
        inside = All-push (λ b. b ≡ 10 → ⊥) h.part b h.inside (eqb-false b 10 other);
        line = omega (arith, h.line, line_ends-push bs b, none);
        column = omega (arith, h.column, length_push h.part b);
      }

ends_push : (bs : List ℕ) (b n : ℕ) (t : Bool) → eqb b 10 ≡ t → EndsAt bs (record { line = line_ends bs + 1; column = n + 1 })
    → EndsAt (bs ++ b ∷ []) (record { line = line_ends (bs ++ b ∷ []) + 1; column = cond (not t) (1 + n) 0 + 1 })
ends_push bs b n true e h = ends_line bs b 0 e
ends_push bs b n false e h = let more : 1 + n ≡ n + 1 = omega arith in rw more (ends_byte bs b (n + 1) e h)

ends_reversed : (rs : List ℕ) → EndsAt (reverse rs) (record { line = line_ends (reverse rs) + 1; column = since rs + 1 })
ends_reversed [] = record { lines = []; part = []; parts = refl; whole = inl refl; inside = All-nil (λ b. b ≡ 10 → ⊥); line = refl; column = refl }
ends_reversed (b ∷ rs) =
    subst (λ (bs : List ℕ). EndsAt bs (record { line = line_ends bs + 1; column = since (b ∷ rs) + 1 })) (sym (reverse-cons b rs))
    (ends_push (reverse rs) b (since rs) (eqb b 10) refl (ends_reversed rs))

-- Where that many bytes stand since the last line end, the others are whole lines.
module _ (bs : List ℕ) (bytes : ℕ) (n : bytes ≡ length (take_while (λ b. not (eqb b 10)) (reverse bs))) where
  ends_after : EndsAt bs (record { line = line_ends bs + 1; column = bytes + 1 })
  ends_after =
      let c : bytes ≡ since (reverse bs) = n ∙ length-prefix_len (λ b. not (eqb b 10)) (reverse bs) in
      rw c (subst (λ (x : List ℕ). EndsAt x (record { line = line_ends x + 1; column = since (reverse bs) + 1 })) (reverse-reverse bs) (ends_reversed (reverse bs)))

  parted : length bs ≡ length ends_after.lines + bytes
  parted = let h = ends_after in omega (arith, ap length h.parts, length-append h.lines h.part, h.column)

  pub ends_at : (lines : ℕ) → lines ≡ line_ends (take (length bs - bytes) bs) → EndsAt bs (record { line = lines + 1; column = bytes + 1 })
  ends_at lines l =
      let h = ends_after in
      let front : take (length bs - bytes) bs ≡ h.lines = ap (λ (k : ℕ). take k bs) (let e : length bs - bytes ≡ length h.lines = omega (arith, parted) in e) ∙ ap (take (length h.lines)) h.parts ∙ take-append_seam h.lines h.part in
      record { lines = h.lines; part = h.part; parts = h.parts; whole = h.whole; inside = h.inside; line = omega (arith, l, ap line_ends front); column = h.column }
