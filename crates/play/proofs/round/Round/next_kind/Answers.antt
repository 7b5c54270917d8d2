use Rattle.std.proofs.Common.{ap, ◌∙◌, ◌+◌}
use Rattle.prefix.specs.Kinds.{kind_at}
use Rattle.prefix.specs.Prefixes.{kinds}
use Rattle.prefix.specs.declared.prefix.Prefix.{Prefix}
use Rattle.play.proofs.Turns.{next_is}
use Rattle.play.proofs.round.Round.next_kind.Goals as goal

pub returns : goal.returns
returns g c =
    let u = c.args.self.now.so_far in
    c.kind.ensures ∙ ap (λ (p : Prefix). kind_at (kinds p) (u.length + 1)) c.prefix.ensures ∙ next_is (kinds (g.B.Book.prefix c.args.self.now.book.now)) u.length u.line.mask
