-- Masks as lists of values: the value at position k is bit k - 1.
use Rattle.std.specs.Prelude.{◌≡◌, ℕ, zero, suc, ◌/◌, ◌%◌, ◌^◌, ◌≤◌, Bool, false, List, [], ◌∷◌, ◌==◌, ◌≢◌}

-- Whether a number is odd, which is a mask's value at position 1.
abbrev pub odd : ℕ → Bool
odd m = m % 2 == 1

-- Bit i of a mask, the lowest being bit 0.
abbrev pub bit : ℕ → ℕ → Bool
bit m i = odd (m / 2 ^ i)

-- The values of a mask at the positions 1 to d, in order.
abbrev pub bits : ℕ → ℕ → List Bool
bits zero m = []
bits (suc d) m = odd m ∷ bits d (m / 2)

-- The value of a mask at a position; off at position 0, which there is not.
abbrev pub mask_value : ℕ → ℕ → Bool
mask_value m zero = false
mask_value m (suc i) = bit m i

-- The mask m' is the mask m, of 32 bits, with one value as given.
pub record Changed (m position : ℕ) (value : Bool) (m' : ℕ) : Type 0 where
  pub here : 1 ≤ position → position ≤ 32 → mask_value m' position ≡ value
  pub elsewhere : (k : ℕ) → (k ≢ position) → mask_value m' k ≡ mask_value m k
