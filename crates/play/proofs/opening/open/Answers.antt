use Rattle.std.proofs.Common.{◌≡◌, ℕ, [], sym, refl, ap, ◌∙◌, subst}
use Rattle.std.proofs.lemmas.Bool.{eqb-true}
use Rattle.prefix.specs.Bits.{bits}
use Rattle.prefix.specs.Prefixes.{kinds}
use Rattle.prefix.specs.declared.prefix.Prefix.{Prefix}
use Rattle.play.specs.Checking.{MeansWinning}
use Rattle.play.specs.Chains.{values_of}
use Rattle.play.specs.Verdicts.{verdict_number}
use Rattle.play.proofs.Chains.{chain_law}
use Rattle.play.proofs.opening.open.Goals as goal

pub returns : goal.returns
returns g c =
    let kept = g.F.Sheet.kept c.args.sheet.now in
    let g' = g.B.Book.guards c.args.book.now in
    let same = c.in_ok-checked.ensures.answer.0 in
    let none_else = eqb-true (verdict_number c.in_ok-checked.checked.verdict) 0 (sym c.is_accepted.ensures ∙ c.if-not-is_accepted.false) in
    let accepts : MeansWinning kept g' (kinds (g.F.Sheet.prefix c.args.sheet.now)) = c.in_ok-checked.ensures.answer.1.accepted.0 none_else in
    let none : values_of c.empty.result ≡ [] = ap (λ (d : ℕ). bits d c.empty.result.line.mask) c.empty.ensures.length in
    record {
      answer = (
        same,
        accepts,
        record {
          sheet_lent = refl;
          book_lent = refl;
          empty = none;
          law = chain_law g.B.Book.prefix g.B.Book.guards _ none g.F.Sheet.kept (subst (λ (p : Prefix). MeansWinning kept g' (kinds p)) same accepts);
        },
      );
    }
