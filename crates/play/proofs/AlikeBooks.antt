-- Books whose guards are the same at every point have one verdict.
use Rattle.std.proofs.Common.{◌≡◌, ℕ, suc, Bool, true, not, List, sym, ap, ◌∙◌, arith}
use Rattle.std.proofs.lemmas.List.{length-take-le}
use Rattle.prefix.specs.Kinds.{kind_at, is_reply, reports_before}
use Rattle.prefix.specs.Points.{Point}
use Rattle.prefix.specs.Settings.{Setting}
use Rattle.prefix.specs.declared.kind.Kind.{Kind}
use Rattle.prefix.proofs.Lines.{line_alike}
use Rattle.prefix.proofs.Positions.{before_le}
use Rattle.prefix.proofs.Replies.{reply_kind}
use Rattle.book.specs.Guards.{Guards, SameGuards}
use Rattle.book.specs.declared.side.Side.TheVariants.{On, Off}
use Rattle.play.specs.Checking.{MeansWinning, front, OneYes, FirstBoth, LineIs, FaultOn, FirstFault, Judged, AlikeVerdicts}
use Rattle.play.specs.declared.verdict.Verdict.{Verdict}
use Rattle.play.specs.declared.verdict.Verdict.TheVariants.{Accepted, Silent, Torn, Broken}

module _ (kept : List Bool → Bool) (ks : List Kind) (g h : Guards) (same : SameGuards ks g h) where
  means_winning : MeansWinning kept h ks → MeansWinning kept g ks
  means_winning m = record {
    policy = m.policy;
    means = record {
      on = λ k v o. sym (same On k v o) ∙ m.means.on k v o;
      off = λ k v o. sym (same Off k v o) ∙ m.means.off k v o;
    };
    wins = m.wins;
  }

  module _ (s : List Bool) (whole : Setting ks s) where
    point : (k : ℕ) → is_reply ks k ≡ true → Point ks k (front ks k s)
    point k r = (reply_kind (kind_at ks k) r, length-take-le (reports_before ks k) s (omega (arith, before_le ks k, whole)))

    one_yes : (k : ℕ) → is_reply ks k ≡ true → OneYes h k (front ks k s) → OneYes g k (front ks k s)
    one_yes k r one = let o = point k r in sym (same Off k (front ks k s) o) ∙ one ∙ ap not (same On k (front ks k s) o)

    line_is : (x : Bool) → LineIs x kept h ks s → LineIs x kept g ks s
    line_is x l = record {
      each = λ k r. one_yes k r (l.each k r);
      line_is = ap kept (line_alike ks (g On) (h On) (λ i v o. sym (same On (suc i) v o)) s) ∙ l.line_is;
    }

    first_both : (x : Bool) (k : ℕ) → FirstBoth x h ks s k → FirstBoth x g ks s k
    first_both x k f =
        let o = point k f.reply in
        record {
          reply = f.reply;
          both = (sym (same On k (front ks k s) o) ∙ f.both.0, sym (same Off k (front ks k s) o) ∙ f.both.1);
          before = λ j l r. one_yes j r (f.before j l r);
        }

    fault_on : (v : Verdict) → FaultOn kept h ks s v → FaultOn kept g ks s v
    fault_on Accepted f = f
    fault_on (Silent k n) f = (f.0, first_both _ k f.1)
    fault_on (Torn k n) f = (f.0, first_both _ k f.1)
    fault_on (Broken n) f = (f.0, line_is _ f.1)

  first_fault : (v : Verdict) → FirstFault kept h ks v → FirstFault kept g ks v
  first_fault v f = record {
    setting = f.setting;
    is_setting = f.is_setting;
    earlier = λ s e l. line_is s e true (f.earlier s e l);
    fault = fault_on f.setting f.is_setting v f.fault;
  }

  -- The verdict on one is the verdict on the other.
  pub judged_alike : (v : Verdict) → Judged kept h ks v → Judged kept g ks v
  judged_alike Accepted j = means_winning j
  judged_alike (Silent k n) j = first_fault (Silent k n) j
  judged_alike (Torn k n) j = first_fault (Torn k n) j
  judged_alike (Broken n) j = first_fault (Broken n) j

pub same_back : (ks : List Kind) (g h : Guards) → SameGuards ks g h → SameGuards ks h g
same_back ks g h same side k v o = sym (same side k v o)

pub alike_verdicts : (kept : List Bool → Bool) (g : Guards) (ks : List Kind) → AlikeVerdicts kept g ks
alike_verdicts kept g ks h same v = (judged_alike kept ks g h same v, judged_alike kept ks h g (same_back ks g h same) v)
