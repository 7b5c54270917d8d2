-- A prefix as the list of its kinds, position 1 first.
use Rattle.std.specs.Prelude.{ℕ, zero, suc, Bool, true, false, List, [], ◌∷◌, take, Some, None, Option}
use Rattle.prefix.specs.declared.kind.Kind.{Kind}
use Rattle.prefix.specs.declared.kind.Kind.TheVariants.{Report, Reply}

-- The kind at a position; none at 0 and past the last.
abbrev pub kind_at : List Kind → ℕ → Option Kind
kind_at ks zero = None
kind_at [] (suc i) = None
kind_at (q ∷ ks) (suc zero) = Some q
kind_at (q ∷ ks) (suc (suc i)) = kind_at ks (suc i)

-- Whether what stands somewhere, if anything, is a report, or a reply.
abbrev pub some_report : Option Kind → Bool
some_report (Some Report) = true
some_report (Some Reply) = false
some_report None = false

abbrev pub some_reply : Option Kind → Bool
some_reply (Some Report) = false
some_reply (Some Reply) = true
some_reply None = false

-- Whether a report stands at a position, and whether a reply does.
abbrev pub is_report : List Kind → ℕ → Bool
is_report ks k = some_report (kind_at ks k)

abbrev pub is_reply : List Kind → ℕ → Bool
is_reply ks k = some_reply (kind_at ks k)

-- How many of the kinds are reports.
abbrev pub report_count : List Kind → ℕ
report_count [] = 0
report_count (Report ∷ ks) = suc (report_count ks)
report_count (Reply ∷ ks) = report_count ks

-- u(k): how many reports stand before position k.
abbrev pub reports_before : List Kind → ℕ → ℕ
reports_before ks zero = 0
reports_before ks (suc i) = report_count (take i ks)

-- Of the values of the first positions, those of the reports, in order.
abbrev pub report_values : List Kind → List Bool → List Bool
report_values [] w = []
report_values (q ∷ ks) [] = []
report_values (Report ∷ ks) (x ∷ w) = x ∷ report_values ks w
report_values (Reply ∷ ks) (x ∷ w) = report_values ks w
