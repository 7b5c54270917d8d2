-- Copying guard by guard, point by point.
use Rattle.std.proofs.Common.{◌≡◌, ℕ, ◌+◌, ◌^◌, ◌≤◌, ◌<◌, ◌≢◌, cond, Bool, true, false, ◌&&◌, ◌||◌, List, length, sym, ap, ◌∙◌, subst, ⊎_elim, arith}
use Rattle.std.proofs.lemmas.Bool.{cases_eq}
use Rattle.std.proofs.Math.Bool.{and-false, and-true}
use Rattle.std.proofs.lemmas.Bool.Decides.{nat_tests}
use Rattle.prefix.specs.Kinds.{some_reply, is_reply, reports_before}
use Rattle.prefix.specs.Lines.{setting_before}
use Rattle.prefix.specs.Points.{Point, points_at}
use Rattle.prefix.specs.Prefixes.{kinds}
use Rattle.prefix.specs.Settings.{number}
use Rattle.prefix.specs.declared.kind.Kind.{Kind}
use Rattle.prefix.specs.declared.prefix.Prefix.{Prefix}
use Rattle.prefix.proofs.Settings.{number-below, number-apart}
use Rattle.prefix.proofs.Replies.{reply_within}
use Rattle.book.specs.Guards.{Guards, answer, SameGuards}
use Rattle.book.specs.Copying.{Copied}
use Rattle.book.specs.CopySteps.{comes_before, CopiedTo, GuardCopied, PointCopied}
use Rattle.book.specs.declared.side.Side.{Side}
use Rattle.book.specs.declared.side.Side.TheVariants.{On, Off}

on_not_off : On ≡ Off → ⊥
on_not_off e = let a : ◌≡◌ {A = ℕ} 0 1 = cc e in absurd (omega arith)

-- Both guards of a point, one after the other.
pub both_copied : (ks : List Kind) (g : Guards) (on off : Bool) (k : ℕ) (v : List Bool) (h h1 h2 : Guards) → Point ks k v → on ≡ g On k v → off ≡ g Off k v
    → GuardCopied ks on On k v h h1 → GuardCopied ks off Off k v h1 h2 → PointCopied ks g k v h h2
both_copied ks g on off k v h h1 h2 o e f a b = record { here = at; elsewhere = λ side j w q ne. b.elsewhere side j w q (λ t. ne (t.1, t.2)) ∙ a.elsewhere side j w q (λ t. ne (t.1, t.2)) }
  where
    at : (side : Side) → h2 side k v ≡ (h side k v || g side k v)
    at On = b.elsewhere On k v o (λ t. on_not_off t.0) ∙ a.here ∙ ap (λ (x : Bool). h On k v || x) e
    at Off = b.here ∙ ap (λ (x : Bool). x || off) (a.elsewhere Off k v o (λ t. on_not_off (sym t.0))) ∙ ap (λ (x : Bool). h Off k v || x) f

-- What a question answers at a reply.
pub answer_at : (p q : Prefix) (g : Guards) (side : Side) (k m : ℕ) → p ≡ q → is_reply (kinds q) k ≡ true → answer p g side k m ≡ g side k (setting_before q k m)
answer_at p q g side k m e r = ap (λ z. answer z g side k m) e ∙ ap (λ (b : Bool). b && g side k (setting_before q k m)) r

-- The points before position k and setting s + 1 are that point and those before it.
before_here : (k s : ℕ) → comes_before k s k s ≡ false
before_here k s = grind (arith, nat_tests)

before_past : (k s : ℕ) → comes_before k (s + 1) k s ≡ true
before_past k s = grind (arith, nat_tests)

before_else : (k s j n : ℕ) → ((j ≡ k) × (n ≡ s) → ⊥) → comes_before k (s + 1) j n ≡ comes_before k s j n
before_else k s j n ne = grind (arith, nat_tests)

-- Those before position k + 1 are those before any setting past the last of position k.
before_position : (k s j n : ℕ) → (j ≡ k → n < s) → comes_before (k + 1) 0 j n ≡ comes_before k s j n
before_position k s j n h = grind (arith, nat_tests)

before_last : (e j n : ℕ) → j ≤ e → comes_before (e + 1) 0 j n ≡ true
before_last e j n h = grind (arith, nat_tests)

-- The setting of a point has one of the numbers of its position.
pub number_within : (ks : List Kind) (k j : ℕ) (w : List Bool) → Point ks j w → j ≡ k → number w < points_at ks k
number_within ks k j w o e =
    let r : is_reply ks k ≡ true = ap (is_reply ks) (sym e) ∙ ap some_reply o.0 in
    let n : points_at ks k ≡ 2 ^ reports_before ks k = ap (λ (b : Bool). cond b (2 ^ reports_before ks k) 0) r in
    let u : length w ≡ reports_before ks k = o.1 ∙ ap (reports_before ks) e in
    omega (arith, n, number-below w, ap (λ (i : ℕ). 2 ^ i) u)

module _ (ks : List Kind) (g : Guards) where
  -- One point more.
  pub point_copied : (k s : ℕ) (v : List Bool) (h h' : Guards) → Point ks k v → number v ≡ s → CopiedTo ks g k s h → PointCopied ks g k v h h' → CopiedTo ks g k (s + 1) h'
  point_copied k s v h h' p n c d side j w o =
      ⊎_elim (λ (e : j ≡ k). ⊎_elim (λ (f : number w ≡ s). same e f) (λ (f : number w ≢ s). other (λ t. f t.1)) (cases_eq (number w) s))
      (λ (e : j ≢ k). other (λ t. e t.0))
      (cases_eq j k)
    where
      at_point : h' side k v ≡ (g side k v && comes_before k (s + 1) k (number v))
      at_point =
          d.here side
          ∙ ap (λ (b : Bool). b || g side k v) (c side k v p ∙ ap (λ (i : ℕ). g side k v && comes_before k s k i) n ∙ ap (λ (b : Bool). g side k v && b) (before_here k s) ∙ and-false (g side k v))
          ∙ sym (ap (λ (i : ℕ). g side k v && comes_before k (s + 1) k i) n ∙ ap (λ (b : Bool). g side k v && b) (before_past k s) ∙ and-true (g side k v))

      same : j ≡ k → number w ≡ s → h' side j w ≡ (g side j w && comes_before k (s + 1) j (number w))
      same e f =
          let v_is : v ≡ w = number-apart v w (p.1 ∙ ap (reports_before ks) (sym e) ∙ sym o.1) (n ∙ sym f) in
          subst (λ (x : List Bool). h' side j x ≡ (g side j x && comes_before k (s + 1) j (number x))) v_is
          (subst (λ (i : ℕ). h' side i v ≡ (g side i v && comes_before k (s + 1) i (number v))) (sym e) at_point)

      other : ((j ≡ k) × (number w ≡ s) → ⊥) → h' side j w ≡ (g side j w && comes_before k (s + 1) j (number w))
      other ne =
          d.elsewhere side j w o (λ t. ne (t.0, ap number t.1 ∙ n)) ∙ c side j w o
          ∙ ap (λ (b : Bool). g side j w && b) (sym (before_else k s j (number w) ne))

  -- All points of a position.
  pub position_copied : (k : ℕ) (h : Guards) → CopiedTo ks g k (points_at ks k) h → CopiedTo ks g (k + 1) 0 h
  position_copied k h c side j w o =
      c side j w o ∙ ap (λ (b : Bool). g side j w && b) (sym (before_position k (points_at ks k) j (number w) (number_within ks k j w o)))

  -- All positions.
  pub all_copied : (h : Guards) → CopiedTo ks g (length ks + 1) 0 h → SameGuards ks g h
  all_copied h c side j w o =
      c side j w o ∙ ap (λ (b : Bool). g side j w && b) (before_last (length ks) j (number w) (reply_within ks j o.0)) ∙ and-true (g side j w)

-- The same guards mean the same policies.
pub copied : (p q : Prefix) (room : Bool) (g h : Guards) → p ≡ q → room ≡ true → SameGuards (kinds p) g h → Copied p q room g h
copied p q room g h e r s = record {
  prefixes = e;
  has_room = r;
  same = s;
  means = λ policy m. record { on = λ k v o. s On k v o ∙ m.on k v o; off = λ k v o. s Off k v o ∙ m.off k v o };
}
