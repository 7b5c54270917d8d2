-- Past a position: what a search has then added, and the value there.
use Rattle.std.proofs.Common.{◌≡◌, ◌≢◌, ℕ, ◌+◌, ◌-◌, ◌≤◌, Bool, true, false, List, [], ◌∷◌, ◌++◌, drop, Decides, sym, ap, ◌∙◌, subst}
use Rattle.std.proofs.lemmas.Bool.{true≢false}
use Rattle.prefix.specs.Bits.{bits}
use Rattle.prefix.specs.Kinds.{some_reply, is_reply}
use Rattle.prefix.specs.Lines.{setting_before, SettingMask}
use Rattle.prefix.specs.Policies.{Policy, Winnable}
use Rattle.prefix.specs.Prefixes.{kinds}
use Rattle.prefix.specs.declared.prefix.Prefix.{Prefix}
use Rattle.prefix.proofs.Replies.{point_of}
use Rattle.book.specs.Guards.{Guards, Added, answer}
use Rattle.book.specs.declared.side.Side.{Side}
use Rattle.book.specs.declared.side.Side.TheVariants.{On}
use Rattle.play.specs.Filling.{side_of, first_number}
use Rattle.play.specs.Searching.{OnWhereItCanWin}
use Rattle.play.specs.Steps.{FilledTo}
use Rattle.play.specs.LineTo.{LineTo}
use Rattle.play.proofs.LineTo.{setting_same, value_new, value_old, only_here}
use Rattle.play.proofs.FilledTo.{upto_position, upto_point}

-- A report has no points.
pub past_report : {B : Type 0} (Adds : B → Side → ℕ → List Bool → B → Type 0) (q : Prefix) (p : Policy) (s j : ℕ) (start now : B) (g : Guards) → is_reply (kinds q) j ≡ false
    → FilledTo Adds (kinds q) p s j start now g → FilledTo Adds (kinds q) p s (j + 1) start now g
past_report Adds q p s j start now g none f = upto_position Adds (kinds q) p start s j now g (λ v o. absurd (true≢false (sym (ap some_reply o.0) ∙ none))) f

module _ {B : Type 0} (Adds : B → Side → ℕ → List Bool → B → Type 0) (kept : List Bool → Bool) (q : Prefix) (p : Policy) (start now : B) (g : Guards) (s a j m : ℕ)
    (on_where : OnWhereItCanWin kept (kinds q) p) (setting : SettingMask q (q.length + 1) s a) (so_far : LineTo q p a j m) (within : j ≤ q.length) (reply : is_reply (kinds q) j ≡ true)
    (filled : FilledTo Adds (kinds q) p s j start now g) where
  abbrev point : List Bool
  point = setting_before q j m

  -- Past a reply whose point is new: its guard is added.
  pub past_new : (x : Bool) (next : B) (g' : Guards) → first_number (kinds q) j (setting_before q j a) ≡ s
      → Decides x (Winnable kept (drop j (kinds q)) (bits (j - 1) m ++ true ∷ [])) → Added (kinds q) g (side_of x) j point g' → Adds now (side_of x) j point next
      → FilledTo Adds (kinds q) p s (j + 1) start next g' × (x ≡ p j point)
  past_new x next g' first d added adds =
      let value : x ≡ p j point = value_new kept q p on_where s a j m within reply setting so_far x d in
      let here : first_number (kinds q) j point ≡ s = ap (first_number (kinds q) j) (setting_same q p a j m so_far) ∙ first in (
        upto_point Adds (kinds q) p start s j point (point_of q j m reply) here (only_here kept q p on_where s a j m within reply setting so_far) now next g g'
            (subst (λ (y : Bool). Added (kinds q) g (side_of y) j point g') value added) (subst (λ (y : Bool). Adds now (side_of y) j point next) value adds) filled,
        value,
      )

  -- Past a reply whose point an earlier setting has: nothing is added, and the book answers.
  pub past_old : first_number (kinds q) j (setting_before q j a) ≢ s → FilledTo Adds (kinds q) p s (j + 1) start now g × (answer q g On j m ≡ p j point)
  past_old old =
      let here : first_number (kinds q) j point ≢ s = λ e. old (sym (ap (first_number (kinds q) j) (setting_same q p a j m so_far)) ∙ e) in (
        upto_position Adds (kinds q) p start s j now g
            (λ w o e. here (ap (first_number (kinds q) j) (sym (only_here kept q p on_where s a j m within reply setting so_far w o e)) ∙ e)) filled,
        value_old kept q p on_where s a j m within reply setting so_far g here filled.0,
      )
