-- Guards and added guards, one point further.
use Rattle.std.proofs.Common.{◌≡◌, ℕ, ◌+◌, ◌^◌, ◌≢◌, Bool, true, false, not, ◌&&◌, ◌⊎◌, inl, inr, List, [], ◌∷◌, ◌++◌, length, sym, refl, ap, ◌∙◌, subst, ⊎_elim, arith}
use Rattle.std.proofs.lemmas.Bool.{cases_eq, true≢false}
use Rattle.std.proofs.lemmas.Fn.{FoldsTo-push}
use Rattle.prefix.specs.Kinds.{report_count}
use Rattle.prefix.specs.Points.{Point}
use Rattle.prefix.specs.Policies.{Policy}
use Rattle.prefix.specs.declared.kind.Kind.{Kind}
use Rattle.prefix.proofs.Replies.{reply_within, reply_from_one}
use Rattle.book.specs.Guards.{Guards, AllNo, Added, Means}
use Rattle.book.specs.declared.side.Side.{Side}
use Rattle.book.specs.declared.side.Side.TheVariants.{On, Off}
use Rattle.play.specs.Filling.{Guard, side_of, guard_of, first_number, MetBefore}
use Rattle.play.specs.Found.{Filled}
use Rattle.play.specs.Steps.{met, says, GuardsTo, FilledTo}
use Rattle.play.proofs.Listing.{lists_none, lists_same, lists_push}
use Rattle.play.proofs.MetPoints.{met_none, met_not_yet, met_now, met_else, met_setting, met_all, met_before}
use Rattle.play.proofs.Numbers.{first_below}

says_own : (x : Bool) → says x (side_of x) ≡ true
says_own true = refl
says_own false = refl

own_or_other : (x : Bool) (side : Side) → (side ≡ side_of x) ⊎ (side ≡ side_of x → ⊥)
own_or_other true On = inl refl
own_or_other true Off = inr (λ e. let a : ◌≡◌ {A = ℕ} 0 1 = cc e in absurd (omega arith))
own_or_other false On = inr (λ e. let a : ◌≡◌ {A = ℕ} 0 1 = cc e in absurd (omega arith))
own_or_other false Off = inl refl

-- The other side than a value's says no.
says_other : (x : Bool) (side : Side) → (side ≡ side_of x → ⊥) → says x side ≡ false
says_other true On ne = absurd (ne refl)
says_other true Off ne = refl
says_other false On ne = refl
says_other false Off ne = absurd (ne refl)

module _ {B : Type 0} (Adds : B → Side → ℕ → List Bool → B → Type 0) (ks : List Kind) (p : Policy) (start : B) where
  -- The points met so far.
  abbrev MetTo : ℕ → ℕ → ℕ → List Bool → Type 0
  MetTo s j k v = Point ks k v × (met ks s j k v ≡ true)

  abbrev pub Upto : ℕ → ℕ → B → Guards → Type 0
  Upto s j now g = FilledTo Adds ks p s j start now g

  -- None is met before the first setting.
  pub upto_none : (g : Guards) → AllNo ks g → Upto 0 1 start g
  upto_none g none = (
    λ side k v o. none side k v o ∙ sym (ap (λ (b : Bool). b && says (p k v) side) (met_none ks k v (reply_from_one ks k o.0))),
    record {
      guards = [];
      each_once = lists_none (MetTo 0 1) (guard_of p) (MetBefore ks) (λ k v o. true≢false (sym o.1 ∙ met_none ks k v (reply_from_one ks k o.0.0)));
      adds = refl;
    },
  )

  -- Points that are met as before have their guards as before.
  upto_same : (s j s' j' : ℕ) (now : B) (g : Guards) → ((k : ℕ) (v : List Bool) → Point ks k v → met ks s' j' k v ≡ met ks s j k v) → Upto s j now g → Upto s' j' now g
  upto_same s j s' j' now g same f = (
    λ side k v o. f.0 side k v o ∙ ap (λ (b : Bool). b && says (p k v) side) (sym (same k v o)),
    record {
      guards = f.1.guards;
      each_once = lists_same (MetTo s j) (guard_of p) (MetBefore ks) (MetTo s' j') f.1.guards (λ k v o. (o.0, same k v o.0 ∙ o.1)) (λ k v o. (o.0, sym (same k v o.0) ∙ o.1)) f.1.each_once;
      adds = f.1.adds;
    },
  )

  -- Past a position where no point is new.
  pub upto_position : (s j : ℕ) (now : B) (g : Guards) → ((v : List Bool) → Point ks j v → first_number ks j v ≢ s) → Upto s j now g → Upto s (j + 1) now g
  upto_position s j now g old f =
      upto_same s j s (j + 1) now g (λ k v o. met_else ks k v s j (λ t. old v (subst (λ (i : ℕ). Point ks i v) t.0 o) (ap (λ (i : ℕ). first_number ks i v) (sym t.0) ∙ t.1))) f

  -- Past the last position.
  pub upto_setting : (s : ℕ) (now : B) (g : Guards) → Upto s (length ks + 1) now g → Upto (s + 1) 1 now g
  upto_setting s now g f =
      upto_same s (length ks + 1) (s + 1) 1 now g (λ k v o. met_setting ks k v s (length ks) (reply_from_one ks k o.0) (reply_within ks k o.0)) f

  module _ (s j : ℕ) (v : List Bool) (point : Point ks j v) (first : first_number ks j v ≡ s) (only : (w : List Bool) → Point ks j w → first_number ks j w ≡ s → w ≡ v) where
    -- The one point that is met next, or one that is met as before.
    next_or_else : (k : ℕ) (w : List Bool) → Point ks k w → ((k ≡ j) × (w ≡ v)) ⊎ (((k ≡ j) × (w ≡ v) → ⊥) × (met ks s (j + 1) k w ≡ met ks s j k w))
    next_or_else k w o =
        ⊎_elim (λ (e : k ≡ j). ⊎_elim (λ (f : first_number ks k w ≡ s). inl (e, only w (subst (λ (i : ℕ). Point ks i w) e o) (ap (λ (i : ℕ). first_number ks i w) (sym e) ∙ f)))
        (λ (f : first_number ks k w ≢ s). inr (λ t. f (ap (λ (i : ℕ). first_number ks i w) e ∙ ap (first_number ks j) t.1 ∙ first), met_else ks k w s j (λ t. f t.1)))
        (cases_eq (first_number ks k w) s))
        (λ (e : k ≢ j). inr (λ t. e t.0, met_else ks k w s j (λ t. e t.0)))
        (cases_eq k j)

    -- Its guards, once the policy's is added.
    guards_push : (g g' : Guards) → GuardsTo ks p s j g → Added ks g (side_of (p j v)) j v g' → GuardsTo ks p s (j + 1) g'
    guards_push g g' f a side k w o =
        ⊎_elim (λ (e : (k ≡ j) × (w ≡ v)). subst (λ (i : ℕ). g' side i w ≡ (met ks s (j + 1) i w && says (p i w) side)) (sym e.0) (subst (λ (t : List Bool). g' side j t ≡ (met ks s (j + 1) j t && says (p j t) side)) (sym e.1) here))
        (λ e. a.elsewhere side k w o (λ t. e.0 (t.1, t.2)) ∙ f side k w o ∙ ap (λ (b : Bool). b && says (p k w) side) (sym e.1))
        (next_or_else k w o)
      where
        here : g' side j v ≡ (met ks s (j + 1) j v && says (p j v) side)
        here =
            ⊎_elim (λ (e : side ≡ side_of (p j v)). ap (λ (t : Side). g' t j v) e ∙ a.here ∙ sym (ap (λ (b : Bool). b && says (p j v) side) (met_now ks j v s j refl first) ∙ ap (says (p j v)) e ∙ says_own (p j v)))
            (λ ne. a.elsewhere side j v point (λ t. ne t.0) ∙ f side j v point ∙ ap (λ (b : Bool). b && says (p j v) side) (met_not_yet ks j v s j refl first)
            ∙ sym (ap (λ (b : Bool). b && says (p j v) side) (met_now ks j v s j refl first) ∙ says_other (p j v) side ne))
            (own_or_other (p j v) side)

    pub upto_point : (now next : B) (g g' : Guards) → Added ks g (side_of (p j v)) j v g' → Adds now (side_of (p j v)) j v next → Upto s j now g → Upto s (j + 1) next g'
    upto_point now next g g' a adds f = (
      guards_push g g' f.0 a,
      record {
        guards = f.1.guards ++ guard_of p j v ∷ [];
        each_once = lists_push (MetTo s j) (guard_of p) (MetBefore ks) (MetTo s (j + 1)) j v f.1.guards
            (λ k w o. met_before ks k w p s j v o.1 first)
            (λ k w o. (o.0, ⊎_elim (λ (e : (k ≡ j) × (w ≡ v)). absurd (true≢false (sym o.1 ∙ met_not_yet ks k w s j e.0 (ap (λ (i : ℕ). first_number ks i w) e.0 ∙ ap (first_number ks j) e.1 ∙ first)))) (λ e. e.1 ∙ o.1) (next_or_else k w o.0)))
            (point, met_now ks j v s j refl first)
            (λ k w o. ⊎_elim (λ e. inr e) (λ e. inl (o.0, sym e.1 ∙ o.1)) (next_or_else k w o.0))
            f.1.each_once;
        adds = FoldsTo-push (λ (x : B) (q : Guard) (y : B). Adds x q.side q.position q.setting y) start f.1.guards now (guard_of p j v) next f.1.adds adds;
      },
    )

  -- Once all settings are taken, every point is met.
  module _ (s : ℕ) (now : B) (g : Guards) (end : s ≡ 2 ^ report_count ks) (f : Upto s 1 now g) where
    all : (k : ℕ) (v : List Bool) → Point ks k v → met ks s 1 k v ≡ true
    all k v o = met_all ks k v s (omega (arith, first_below ks k v o))

    pub upto_means : Means ks g p
    upto_means = record {
      on = λ k v o. f.0 On k v o ∙ ap (λ (b : Bool). b && p k v) (all k v o);
      off = λ k v o. f.0 Off k v o ∙ ap (λ (b : Bool). b && not (p k v)) (all k v o);
    }

    pub upto_filled : (Clears : B → B → Type 0) (before : B) → Clears before start → Filled Clears Adds ks p before now
    upto_filled Clears before c = record {
      cleared = start;
      clears = c;
      guards = f.1.guards;
      each_once = lists_same (MetTo s 1) (guard_of p) (MetBefore ks) (Point ks) f.1.guards (λ k v o. o.0) (λ k v o. (o, all k v o)) f.1.each_once;
      adds = f.1.adds;
    }
