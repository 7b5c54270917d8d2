-- Where replies stand.
use Rattle.std.proofs.Common.{◌≡◌, ℕ, zero, suc, ◌≤◌, true, List, [], ◌∷◌, length, Some, None, Option, sym, refl, arith}
use Rattle.std.proofs.lemmas.Bool.{true≢false}
use Rattle.prefix.specs.Kinds.{kind_at, some_reply, is_reply}
use Rattle.prefix.specs.Lines.{setting_before}
use Rattle.prefix.specs.Points.{Point}
use Rattle.prefix.specs.Prefixes.{kinds}
use Rattle.prefix.specs.declared.kind.Kind.{Kind}
use Rattle.prefix.specs.declared.kind.Kind.TheVariants.{Report, Reply}
use Rattle.prefix.specs.declared.prefix.Prefix.{Prefix}
use Rattle.prefix.proofs.Lines.{none_not_reply}
use Rattle.prefix.proofs.Before.{setting_length}

pub reply_kind : (o : Option Kind) → some_reply o ≡ true → o ≡ Some Reply
reply_kind None e = absurd (true≢false (sym e))
reply_kind (Some Report) e = absurd (true≢false (sym e))
reply_kind (Some Reply) e = refl

-- A position that has a kind is 1 to n.
pub kind_within : (ks : List Kind) (k : ℕ) (q : Kind) → kind_at ks k ≡ Some q → k ≤ length ks
kind_within ks zero q e = omega arith
kind_within [] (suc i) q e = let z : ◌≡◌ {A = ℕ} 0 1 = cc in absurd (omega arith)
kind_within (r ∷ ks) (suc zero) q e = omega arith
kind_within (r ∷ ks) (suc (suc i)) q e = omega (arith, kind_within ks (suc i) q e)

pub reply_within : (ks : List Kind) (k : ℕ) → kind_at ks k ≡ Some Reply → k ≤ length ks
reply_within ks k r = kind_within ks k Reply r

pub reply_from_one : (ks : List Kind) (k : ℕ) → kind_at ks k ≡ Some Reply → 1 ≤ k
reply_from_one ks zero r = none_not_reply r
reply_from_one ks (suc i) r = omega arith

-- A reply's position and a line make a point.
pub point_of : (p : Prefix) (k m : ℕ) → is_reply (kinds p) k ≡ true → Point (kinds p) k (setting_before p k m)
point_of p k m r = (reply_kind (kind_at (kinds p) k) r, setting_length p k m)
