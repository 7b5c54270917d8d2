-- The kinds that a `Prefix` means.
use Rattle.std.specs.Prelude.{ℕ, zero, suc, ◌/◌, Bool, true, false, List, [], ◌∷◌}
use Rattle.prefix.specs.Bits.{odd}
use Rattle.prefix.specs.declared.kind.Kind.{Kind}
use Rattle.prefix.specs.declared.kind.Kind.TheVariants.{Report, Reply}
use Rattle.prefix.specs.declared.prefix.Prefix.{Prefix}

-- The kind of a position, by whether the mask of reports is on there.
abbrev pub kind_of : Bool → Kind
kind_of true = Report
kind_of false = Reply

-- The kinds of the positions 1 to n, by the mask of reports.
abbrev pub kinds_of : ℕ → ℕ → List Kind
kinds_of zero m = []
kinds_of (suc n) m = kind_of (odd m) ∷ kinds_of n (m / 2)

-- The kinds of a prefix.
abbrev pub kinds : Prefix → List Kind
kinds p = kinds_of p.length p.reports
