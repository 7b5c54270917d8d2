-- The number of each refusal of a search, when it is given, and what it leaves in the stack.
use Rattle.std.specs.Prelude.{◌≡◌, ℕ, ◌<◌, ◌≤◌, Bool, true, false, ◌≢◌, List, codes}
use Rattle.prefix.specs.declared.prefix.Prefix.{Prefix}
use Rattle.worth.specs.Scales.{yes_no}
use Rattle.worth.specs.Winning.{WinnableOf}
use Rattle.worth.specs.Worth.{AllLost}
use Rattle.play.specs.declared.search_fault.SearchFault.{SearchFault}
use Rattle.play.specs.declared.search_fault.SearchFault.TheVariants.{PrefixesDiffer, StackTooShort, NoRoom, NoPolicy}

abbrev pub refusal : SearchFault → ℕ
refusal PrefixesDiffer = 13
refusal StackTooShort = 14
refusal NoRoom = 15
refusal NoPolicy = 16

-- What each says.
abbrev pub message : SearchFault → List ℕ
message PrefixesDiffer = codes "the sheet and the book have different prefixes"
message StackTooShort = codes "the stack has fewer cells than the prefix has positions"
message NoRoom = codes "the book has no room"
message NoPolicy = codes "no policy wins"

-- Why a sheet of prefix p is not searched for a book of prefix q, with room or without, and a stack of so many cells.
abbrev pub Refused : (List Bool → Bool) → Prefix → Prefix → ℕ → Bool → SearchFault → Type 0
Refused kept p q cells room PrefixesDiffer = p ≢ q
Refused kept p q cells room StackTooShort = (p ≡ q) × (cells < p.length)
Refused kept p q cells room NoRoom = (p ≡ q) × (p.length ≤ cells) × (room ≡ false)
Refused kept p q cells room NoPolicy = (p ≡ q) × (p.length ≤ cells) × (room ≡ true) × (WinnableOf kept p → ⊥)

-- What a refusal leaves in the stack: what it held, or, where the sheet was asked, nothing but lost worths.
abbrev pub StackLeft : List Bool → List Bool → SearchFault → Type 0
StackLeft before after PrefixesDiffer = after ≡ before
StackLeft before after StackTooShort = after ≡ before
StackLeft before after NoRoom = after ≡ before
StackLeft before after NoPolicy = AllLost yes_no after
