use Rattle.std.proofs.Common.{◌≡◌, ap, ◌∙◌, arith}
use lib.Count.{ones}
use Rattle.prefix.specs.Kinds.{reports_before}
use Rattle.prefix.specs.Prefixes.{kinds}
use Rattle.prefix.proofs.Positions.{count-whole, before_le}
use Rattle.prefix.proofs.Cuts.{count_before}
use Rattle.prefix.proofs.prefix.Prefix.reports_before.Goals as goal

pub returns : goal.returns
returns c =
    let p = c.args.self in
    let k = c.args.position in
    let value : ones c.report_mask_before.result ≡ reports_before (kinds p) k = ap ones c.report_mask_before.ensures.value ∙ count_before p.length p.reports k (omega arith) in
    record {
      value = value;
      few = omega (arith, value, before_le (kinds p) k, count-whole p.length p.reports (omega arith));
    }
