-- The word for a kind.
use Rattle.std.specs.Prelude.{ℕ, List, codes}
use Rattle.prefix.specs.declared.kind.Kind.{Kind}
use Rattle.prefix.specs.declared.kind.Kind.TheVariants.{Report, Reply}

-- The first word of a quantifier line: a for all values of a report, e for some value of a reply.
abbrev pub kind_word : Kind → List ℕ
kind_word Report = codes "a"
kind_word Reply = codes "e"
