-- Table books: which bit of which word is the guard of a side at a point.
use Rattle.std.specs.Prelude.{◌≡◌, ℕ, ◌+◌, ◌-◌, ◌*◌, ◌/◌, ◌%◌, ◌^◌, ◌<◌, max, Bool, cond, ◌&&◌, List, ◌++◌, length, take, drop, replicate, nat_le, bit_or, slice_set, slice_index_or}
use Rattle.prefix.specs.Bits.{bit}
use Rattle.prefix.specs.Kinds.{is_reply, reports_before}
use Rattle.prefix.specs.Lines.{setting_before}
use Rattle.prefix.specs.Points.{Point, sum_to}
use Rattle.prefix.specs.Prefixes.{kinds}
use Rattle.prefix.specs.Settings.{number}
use Rattle.prefix.specs.declared.kind.Kind.{Kind}
use Rattle.prefix.specs.declared.prefix.Prefix.{Prefix}
use Rattle.book.specs.Guards.{Guards, can_add}
use Rattle.book.specs.declared.side.Side.{Side}
use Rattle.book.specs.declared.side.Side.TheVariants.{On, Off}

-- The words of one block at position k: one bit for each setting before k, 64 to a word, and at least one word.
abbrev pub block_words : List Kind → ℕ → ℕ
block_words ks k = max 1 (2 ^ reports_before ks k / 64)

-- The words of both blocks of position k: none where no reply stands.
abbrev pub words_at : List Kind → ℕ → ℕ
words_at ks k = cond (is_reply ks k) (2 * block_words ks k) 0

-- The words of all blocks of the positions before k, and of all positions.
abbrev pub words_before : List Kind → ℕ → ℕ
words_before ks k = sum_to (words_at ks) (k - 1)

abbrev pub word_count : List Kind → ℕ
word_count ks = sum_to (words_at ks) (length ks)

-- Where the block of a side begins: the on-block after the blocks of the positions before, the off-block after the on-block.
abbrev pub block_start : List Kind → Side → ℕ → ℕ
block_start ks On k = words_before ks k
block_start ks Off k = words_before ks k + block_words ks k

-- The word with the guard of a side at a point, and the bit in it: setting s is bit s mod 64 of word s div 64 of its block.
abbrev pub word_of : List Kind → Side → ℕ → List Bool → ℕ
word_of ks side k v = block_start ks side k + number v / 64

abbrev pub bit_of : List Bool → ℕ
bit_of v = number v % 64

-- Each guard of each point has a bit of its own, within the words of the blocks.
pub record OwnBits (ks : List Kind) : Type 0 where
  pub inside : (side : Side) (k : ℕ) (v : List Bool) → Point ks k v → word_of ks side k v < word_count ks
  pub own : (s side : Side) (j k : ℕ) (w v : List Bool) → Point ks j w → Point ks k v → word_of ks s j w ≡ word_of ks side k v → bit_of w ≡ bit_of v → (s ≡ side) × (j ≡ k) × (w ≡ v)

-- Words suffice where they are as many as the blocks have.
abbrev pub suffice : Prefix → List ℕ → Bool
suffice p words = nat_le (word_count (kinds p)) (length words)

-- The words past all blocks.
abbrev pub words_past : Prefix → List ℕ → List ℕ
words_past p words = drop (word_count (kinds p)) words

-- The guards that words mean: all no where they do not suffice.
abbrev pub table_guards : Prefix → List ℕ → Guards
table_guards p words side k v = suffice p words && bit (slice_index_or words (word_of (kinds p) side k v) 0) (bit_of v)

-- The words with one bit on.
abbrev pub with_bit : List ℕ → ℕ → ℕ → List ℕ
with_bit words w b = slice_set words w (bit_or (slice_index_or words w 0) (2 ^ b))

-- What `add` leaves: one bit on where the words suffice and a reply stands, and else the words as they were.
abbrev pub words_after_add : Prefix → List ℕ → Side → ℕ → ℕ → List ℕ
words_after_add p words side k m =
    let v = setting_before p k m in
    cond (can_add (suffice p words) p k) (with_bit words (word_of (kinds p) side k v) (bit_of v)) words

-- The words with `size` of them made 0, from `start` on.
abbrev pub with_zeros : ℕ → ℕ → List ℕ → List ℕ
with_zeros start size words = take start words ++ (replicate size 0 ++ drop (start + size) words)

-- What `clear` leaves: zeros in all blocks where the words suffice, and what was there past them.
abbrev pub words_after_clear : Prefix → List ℕ → List ℕ
words_after_clear p words = cond (suffice p words) (with_zeros 0 (word_count (kinds p)) words) words
