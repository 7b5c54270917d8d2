-- What copying a book gives.
use Rattle.std.specs.Prelude.{◌≡◌, Bool, true}
use Rattle.prefix.specs.Policies.{Policy}
use Rattle.prefix.specs.Prefixes.{kinds}
use Rattle.prefix.specs.declared.prefix.Prefix.{Prefix}
use Rattle.book.specs.Guards.{Guards, SameGuards, Means}

-- A book of prefix p with guards g was copied into one of prefix q that has room, whose guards are now h: they are the
-- same at every point, so that they mean what the book's mean.
pub record Copied (p q : Prefix) (room : Bool) (g h : Guards) : Type 0 where
  pub prefixes : p ≡ q
  pub has_room : room ≡ true
  pub same : SameGuards (kinds p) g h
  pub means : (policy : Policy) → Means (kinds p) g policy → Means (kinds p) h policy
