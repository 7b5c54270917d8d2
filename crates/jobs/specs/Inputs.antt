-- What counts of an input.
use Rattle.std.specs.Prelude.{ℕ, cond, List, [], length, nat_le}

-- An input of more than 65,536 bytes counts as empty.
abbrev pub taken : List ℕ → List ℕ
taken input = cond (nat_le (length input) 65536) input []
