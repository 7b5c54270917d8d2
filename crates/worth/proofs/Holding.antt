-- The invariant of the walk's loop, and that each way through the loop keeps it.
use Rattle.std.proofs.Common.{◌≡◌, ℕ, suc, ◌+◌, ◌<◌, ◌≤◌, Bool, true, false, not, ◌≢◌, List, length, get_or, set, Some, None, Option, sym, ap, ◌∙◌, subst, arith}
use Rattle.std.specs.Option.{unwrap_or}
use Rattle.prefix.specs.Bits.{bit, bits}
use Rattle.prefix.specs.Kinds.{is_report}
use Rattle.prefix.specs.declared.kind.Kind.{Kind}
use Rattle.worth.specs.Scales.{Joins, joined}
use Rattle.worth.proofs.Turns.{second, SameTo}
use Rattle.worth.proofs.Climb.{deep, climb, climb_base, climb_down, climb_up, climb_cut, climb_over}

-- At length d, where the worth of that part line may be known: the walk comes to w, the worth of the part line that it began at.
pub record Holds {W : Type 0} (j : Joins W) (kept : List Bool → Bool) (ks : List Kind) (start : ℕ) (w : W) (d line : ℕ) (cells : List W) (known : Option W) : Type 0 where
  pub within : d ≤ length ks
  pub since : start ≤ d
  pub comes : climb j kept ks start d line cells (unwrap_or known (deep j kept ks d (bits d line))) ≡ w

module _ {W : Type 0} (j : Joins W) (kept : List Bool → Bool) (ks : List Kind) (start : ℕ) (w : W) where
  pub holds-start : (line : ℕ) (xs : List W) → start ≤ length ks → deep j kept ks start (bits start line) ≡ w → Holds j kept ks start w start line xs None
  holds-start line xs h e = record {
    within = h;
    since = omega arith;
    comes = climb_base j kept ks start start line xs (deep j kept ks start (bits start line)) (omega arith) ∙ e;
  }

  module _ (d line : ℕ) (xs : List W) (known : Option W) (h : Holds j kept ks start w d line xs known) where
    -- What the walk comes to, where it is said whether the worth is known.
    at : (o : Option W) → known ≡ o → climb j kept ks start d line xs (unwrap_or o (deep j kept ks d (bits d line))) ≡ w
    at o e = subst (λ (o : Option W). climb j kept ks start d line xs (unwrap_or o (deep j kept ks d (bits d line))) ≡ w) e h.comes

    pub holds_down : (to : ℕ) → known ≡ None → d < length ks → bit to d ≡ not (is_report ks (suc d)) → SameTo d to line → (o : Option W) → o ≡ None → Holds j kept ks start w (d + 1) to xs o
    holds_down to e lt t s o none =
        let since = h.since in
        subst (λ (o : Option W). Holds j kept ks start w (d + 1) to xs o) (sym none)
        (record {
          within = omega arith;
          since = omega arith;
          comes = climb_down j kept ks start d line to xs h.since lt t s ∙ at None e;
        })

    above : (k : ℕ) → d ≡ suc k → (d ≡ start → ⊥) → start ≤ k
    above k m ne = let since = h.since in let o : d ≢ start = ne in omega arith

    module _ (v : W) (e : known ≡ Some v) where
      pub holds_end : d ≡ start → v ≡ w
      holds_end z = sym (climb_base j kept ks start d line xs v (omega arith)) ∙ at (Some v) e

      module _ (k : ℕ) (m : d ≡ suc k) (ne : d ≡ start → ⊥) where
        lower : (x : W) → climb j kept ks start k line xs x ≡ w → Holds j kept ks start w k line xs (Some x)
        lower x c = let within = h.within in record { within = omega arith; since = above k m ne; comes = c }

        pub holds_up : (y x : W) → second ks line k ≡ true → get_or xs k j.lost ≡ y → x ≡ joined j (is_report ks (suc k)) y v → Holds j kept ks start w k line xs (Some x)
        holds_up y x b r t =
            lower x (ap (climb j kept ks start k line xs) t ∙ climb_up j kept ks start d k line xs y v m (above k m ne) b r ∙ at (Some v) e)

        pub holds-cut : second ks line k ≡ false → ((y : W) → joined j (is_report ks (suc k)) v y ≡ v) → Holds j kept ks start w k line xs (Some v)
        holds-cut b q = lower v (climb_cut j kept ks start d k line xs v m (above k m ne) b q ∙ at (Some v) e)

        pub holds_over : (to : ℕ) → k < length xs → second ks line k ≡ false → bit to k ≡ is_report ks (suc k) → SameTo k to line → Holds j kept ks start w d to (set xs k v) None
        holds_over to lt b t s = record {
          within = h.within;
          since = h.since;
          comes = climb_over j kept ks start d k line to xs v m (above k m ne) lt b t s ∙ at (Some v) e;
        }
