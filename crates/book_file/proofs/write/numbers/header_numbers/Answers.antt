use Rattle.std.proofs.Common.{◌≡◌, ℕ, ◌+◌, ◌-◌, ◌%◌, ◌^◌, ◌∷◌, [], ap, ◌∙◌, mod-eq_of_lt, arith}
use Rattle.book_file.proofs.write.numbers.header_numbers.Goals as goal

pub returns : goal.returns
returns c =
    let p = c.args.prefix in
    let last : c.len-2.result + 1 - 1 ≡ p.length = omega (arith, c.len-2.ensures.value) in
    -- the reports before the position after the last are all
    let all : c.report_mask_before.result ≡ p.reports = c.report_mask_before.ensures.value ∙ ap (λ (d : ℕ). p.reports % 2 ^ d) last ∙ mod-eq_of_lt p.ok.2 in
    λ i. c.len.ensures.value i ∷ all i ∷ c.args.rows ∷ []
