-- How many bytes numbers take.
use Rattle.std.proofs.Common.{◌≡◌, ℕ, ◌+◌, ◌^◌, ◌<◌, ◌≤◌, List, [], ◌∷◌, ◌++◌, length, take, drop, get_or, refl, sym, ap, ◌∙◌, arith, length-append}
use Rattle.std.proofs.lemmas.List.{append_assoc, take_more, take-append-drop, length_push}
use Rattle.book_file.specs.Numbers.{number_bytes, bytes_of}
use Rattle.book_file.proofs.Grouping.{formed}

-- One byte at least, and four at most.
pub number_size : (n : ℕ) → n < 2 ^ 28 → (1 ≤ length (number_bytes n)) × (length (number_bytes n) ≤ 4)
unfolding number_bytes
number_size n h =
    let f = formed 3 n h in
    (omega (arith, ap length f.parts, length_push f.marked f.last), omega (arith, ap length f.parts, length_push f.marked f.last, f.few))

pub bytes-append : (ns ms : List ℕ) → bytes_of (ns ++ ms) ≡ bytes_of ns ++ bytes_of ms
bytes-append [] ms = refl
bytes-append (n ∷ ns) ms = ap (λ (xs : List ℕ). number_bytes n ++ xs) (bytes-append ns ms) ∙ sym (append_assoc (number_bytes n) (bytes_of ns) (bytes_of ms))

append_nil : (xs : List ℕ) → xs ++ [] ≡ xs
append_nil [] = refl
append_nil (x ∷ xs) = ap (λ (ys : List ℕ). x ∷ ys) (append_nil xs)

pub bytes_one : (n : ℕ) → bytes_of (n ∷ []) ≡ number_bytes n
bytes_one n = append_nil (number_bytes n)

-- One number more.
pub bytes_more : (ns : List ℕ) (i : ℕ) → i < length ns → bytes_of (take (i + 1) ns) ≡ bytes_of (take i ns) ++ number_bytes (get_or ns i 0)
bytes_more ns i l =
    ap bytes_of (take_more ns i 0 l) ∙ bytes-append (take i ns) (get_or ns i 0 ∷ []) ∙ ap (λ (xs : List ℕ). bytes_of (take i ns) ++ xs) (bytes_one (get_or ns i 0))

pub length_more : (ns : List ℕ) (i : ℕ) → i < length ns → length (bytes_of (take (i + 1) ns)) ≡ length (bytes_of (take i ns)) + length (number_bytes (get_or ns i 0))
length_more ns i l = ap length (bytes_more ns i l) ∙ length-append (bytes_of (take i ns)) (number_bytes (get_or ns i 0))

-- Some of the numbers take no more than all.
pub length_some : (ns : List ℕ) (i : ℕ) → length (bytes_of (take i ns)) ≤ length (bytes_of ns)
length_some ns i = omega (arith, ap (λ ms. length (bytes_of ms)) (take-append-drop i ns), ap length (bytes-append (take i ns) (drop i ns)), length-append (bytes_of (take i ns)) (bytes_of (drop i ns)))

-- Where there is room for all, there is for the next.
pub room_next : (ns : List ℕ) (i start n : ℕ) → i < length ns → start + length (bytes_of ns) ≤ n → start + length (bytes_of (take i ns)) + length (number_bytes (get_or ns i 0)) ≤ n
room_next ns i start n l h = omega (arith, length_more ns i l, length_some ns (i + 1))
