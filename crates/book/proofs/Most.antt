-- How many words the blocks of a prefix have at most.
use Rattle.std.proofs.Common.{ℕ, ◌*◌, ◌/◌, ◌^◌, ◌≤◌, max, refl, arith, pow_mono}
use Rattle.prefix.specs.Prefixes.{kinds}
use Rattle.prefix.specs.declared.prefix.Prefix.{Prefix}
use Rattle.prefix.proofs.ReplySums.{Grows, few_of_replies}
use Rattle.book.specs.Tables.{word_count}

-- A block after r reports, twice.
abbrev pair : ℕ → ℕ
pair r = 2 * max 1 (2 ^ r / 64)

pair_grows : Grows pair
pair_grows u r h = let m : 2 ^ u ≤ 2 ^ r = pow_mono h in omega arith

pub few_words : (p : Prefix) → word_count (kinds p) ≤ 1536
few_words = few_of_replies pair pair_grows 1536 refl
