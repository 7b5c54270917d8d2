-- Verdicts on a book, by a test of each setting.
use Rattle.std.proofs.Common.{◌≡◌, ℕ, suc, Bool, true, not, ◌&&◌, ◌||◌, List, length, sym, ap, ◌∙◌, arith}
use Rattle.std.proofs.lemmas.Bool.{and_parts, lt-ltb}
use Rattle.std.specs.Cmp.{booleans_Decides}
use Rattle.std.proofs.Math.Dec.{ltb}
use mathlib.Core.Bool.{beq}
use Rattle.prefix.specs.Kinds.{is_reply, report_count, kind_at}
use Rattle.prefix.specs.Policies.{line}
use Rattle.prefix.specs.Settings.{Setting, number}
use Rattle.prefix.specs.declared.kind.Kind.{Kind}
use Rattle.prefix.proofs.Replies.{reply_kind, reply_within}
use Rattle.book.specs.Guards.{Guards}
use Rattle.book.specs.declared.side.Side.TheVariants.{On, Off}
use Rattle.play.specs.Checking.{front, OneYes, BothAre, OneYesBefore, FirstBoth, LineIs, FaultOn, FirstFault, MeansWinning}
use Rattle.play.specs.declared.verdict.Verdict.{Verdict}
use Rattle.play.proofs.Verdicts.{whole_accepts}
use Rattle.examples.proofs.Tested.{every, every_holds, each_below, each_holds}

module _ (kept : List Bool → Bool) (g : Guards) (ks : List Kind) where
  -- At position k no reply stands, or exactly one of its guards is yes on the setting s.
  abbrev pub one_yes : List Bool → ℕ → Bool
  one_yes s k = not (is_reply ks k) || beq (g Off k (front ks k s)) (not (g On k (front ks k s)))

  -- Every reply has exactly one, and whether the line is kept is x.
  abbrev pub line_is : Bool → List Bool → Bool
  line_is x s = each_below (suc (length ks)) (one_yes s) && beq (kept (line ks (g On) s)) x

  abbrev pub faultless : List Bool → Bool
  faultless s = line_is true s

  one_yes_holds : (s : List Bool) (k : ℕ) → one_yes s k ≡ true → is_reply ks k ≡ true → OneYes g k (front ks k s)
  one_yes_holds s k h reply = (booleans_Decides (g Off k (front ks k s)) (not (g On k (front ks k s)))).0 (sym (ap (λ (b : Bool). not b || beq (g Off k (front ks k s)) (not (g On k (front ks k s)))) reply) ∙ h)

  before_holds : (s : List Bool) (n : ℕ) → each_below n (one_yes s) ≡ true → OneYesBefore g ks s n
  before_holds s n h k lt reply = one_yes_holds s k (each_holds n (one_yes s) h k lt) reply

  pub line_holds : (x : Bool) (s : List Bool) → line_is x s ≡ true → LineIs x kept g ks s
  line_holds x s h =
      let both = and_parts (each_below (suc (length ks)) (one_yes s)) (beq (kept (line ks (g On) s)) x) h in
      record {
        each = λ k reply. before_holds s (suc (length ks)) both.0 k (let most = reply_within ks k (reply_kind (kind_at ks k) reply) in omega arith) reply;
        line_is = (booleans_Decides (kept (line ks (g On) s)) x).0 both.1;
      }

  -- No setting has a fault.
  pub accepted : every (report_count ks) faultless ≡ true → MeansWinning kept g ks
  accepted h = whole_accepts kept g ks (λ s e. line_holds true s (every_holds (report_count ks) faultless h s e))

  -- None of a lower number than n has one.
  abbrev pub faultless_below : ℕ → List Bool → Bool
  faultless_below n s = not (ltb (number s) n) || faultless s

  -- The fault of the setting s, where no earlier one has one.
  pub first_fault : (v : Verdict) (s : List Bool) → Setting ks s → every (report_count ks) (faultless_below (number s)) ≡ true → FaultOn kept g ks s v → FirstFault kept g ks v
  first_fault v s e h fault = record {
    setting = s;
    is_setting = e;
    earlier = λ t f lt.
        let below : ltb (number t) (number s) ≡ true = lt-ltb (number t) (number s) lt in
        line_holds true t (sym (ap (λ (b : Bool). not b || faultless t) below) ∙ every_holds (report_count ks) (faultless_below (number s)) h t f);
    fault = fault;
  }

  -- At position k both guards are x, and each reply before has exactly one that is yes.
  pub first_both : (x : Bool) (s : List Bool) (k : ℕ) → is_reply ks k ≡ true → BothAre x g k (front ks k s) → each_below k (one_yes s) ≡ true → FirstBoth x g ks s k
  first_both x s k reply both h = record { reply = reply; both = both; before = before_holds s k h }
