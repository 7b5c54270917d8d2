-- The number of each refusal, and when it is given.
use Rattle.std.specs.Prelude.{◌≡◌, ℕ, Bool, false, ◌≢◌, List, codes}
use Rattle.prefix.specs.declared.prefix.Prefix.{Prefix}
use Rattle.book.specs.declared.fault.CopyFault.{CopyFault}
use Rattle.book.specs.declared.fault.CopyFault.TheVariants.{PrefixesDiffer, NoRoom}

abbrev pub refusal : CopyFault → ℕ
refusal PrefixesDiffer = 13
refusal NoRoom = 15

-- What each says.
abbrev pub message : CopyFault → List ℕ
message PrefixesDiffer = codes "the two books have different prefixes"
message NoRoom = codes "the book to fill has no room"

-- Why a book of prefix p is not copied into one of prefix q, which has room or not.
abbrev pub Refused : Prefix → Prefix → Bool → CopyFault → Type 0
Refused p q room PrefixesDiffer = p ≢ q
Refused p q room NoRoom = (p ≡ q) × (room ≡ false)
