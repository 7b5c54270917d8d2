-- The calls of a round on its values.
use Rattle.std.proofs.Common.{false, ◌≡◌, ℕ, suc, ◌+◌, ◌-◌, ◌<◌, ◌≤◌, Bool, ◌&&◌, List, [], ◌∷◌, ◌++◌, length, take, Some, None, Option, Ok, Err, sym, refl, ap, ◌∙◌, add-one, arith}
use Rattle.std.proofs.lemmas.Bool.{false≢true, le-leb, lt-leb, cond-true, cond-false}
use Rattle.prefix.specs.Bits.{bit, bits, Changed}
use Rattle.prefix.specs.Kinds.{kind_at, some_reply, report_values}
use Rattle.prefix.specs.Lines.{setting_before}
use Rattle.prefix.specs.Prefixes.{kinds}
use Rattle.prefix.specs.declared.kind.Kind.{Kind}
use Rattle.prefix.specs.declared.kind.Kind.TheVariants.{Report, Reply}
use Rattle.prefix.specs.declared.prefix.Prefix.{Prefix}
use Rattle.prefix.proofs.Masks.{length-bits, bits_push, bits_same, changed_here}
use Rattle.prefix.proofs.Positions.{length-kinds}
use Rattle.prefix.proofs.Replies.{kind_within}
use Rattle.book.specs.Guards.{Guards, answer}
use Rattle.book.specs.declared.side.Side.TheVariants.{On}
use Rattle.play.specs.Answers.{is_refused}
use Rattle.play.specs.Chains.{values, tell_answer, Link}
use Rattle.play.specs.Rounds.{next}
use Rattle.play.specs.Rounds as plain
use Rattle.play.specs.RoundSteps.{turn_of}
use Rattle.play.specs.declared.call.Answer.{Answer}
use Rattle.play.specs.declared.call.Answer.TheVariants.{Told, Replied, WentBack, Refused}
use Rattle.play.specs.declared.call.Call.{Call}
use Rattle.play.specs.declared.call.Call.TheVariants.{Tell, Back}
use Rattle.play.specs.declared.call.Call.TheVariants as call
use Rattle.play.specs.declared.round.Round.{Round}
use Rattle.play.specs.declared.round_fault.RoundFault.{RoundFault}
use Rattle.play.specs.declared.round_fault.RoundFault.TheVariants.{BackTooFar}
use Rattle.play.proofs.Numbers.{take-bits}

kind_of_turn : (o : Option Kind) (k : Kind) → turn_of o k ≡ Ok tt → o ≡ Some k
kind_of_turn None k e = let z : ◌≡◌ {A = ℕ} 0 1 = cc in absurd (omega arith)
kind_of_turn (Some Report) Report e = refl
kind_of_turn (Some Report) Reply e = let z : ◌≡◌ {A = ℕ} 0 1 = cc in absurd (omega arith)
kind_of_turn (Some Reply) Report e = let z : ◌≡◌ {A = ℕ} 0 1 = cc in absurd (omega arith)
kind_of_turn (Some Reply) Reply e = refl

-- The position after the first d values.
pub next_is : (ks : List Kind) (d m : ℕ) → kind_at ks (d + 1) ≡ next ks (bits d m)
next_is ks d m = ap (kind_at ks) (add-one d ∙ ap suc (sym (length-bits d m)))

-- Where there is one, there are fewer than 24 values.
pub turn_room : (q : Prefix) (k : Kind) (d m : ℕ) → turn_of (next (kinds q) (bits d m)) k ≡ Ok tt → d < 24
turn_room q k d m e =
    let kind = next_is (kinds q) d m ∙ kind_of_turn (next (kinds q) (bits d m)) k e in
    omega (arith, kind_within (kinds q) (d + 1) k kind, length-kinds q.length q.reports, q.ok.1)

-- What a call comes to, by whether it is refused.
tell_refused : (x : Bool) (w : List Bool) (o : Option Kind) (f : RoundFault) → turn_of o Report ≡ Err f → plain.tell_outcome x w o ≡ record { answer = Refused f; values = w }
tell_refused x w None f e = ap (λ r. record { answer = tell_answer r; values = w }) e
tell_refused x w (Some Report) f e = let z : ◌≡◌ {A = ℕ} 0 1 = cc in absurd (omega arith)
tell_refused x w (Some Reply) f e = ap (λ r. record { answer = tell_answer r; values = w }) e

reply_refused : (x : Bool) (w : List Bool) (o : Option Kind) (f : RoundFault) → turn_of o Reply ≡ Err f → plain.reply_outcome x w o ≡ record { answer = Refused f; values = w }
reply_refused x w None f e = ap (λ r. record { answer = tell_answer r; values = w }) e
reply_refused x w (Some Report) f e = ap (λ r. record { answer = tell_answer r; values = w }) e
reply_refused x w (Some Reply) f e = let z : ◌≡◌ {A = ℕ} 0 1 = cc in absurd (omega arith)

back_refused : (p : ℕ) (w : List Bool) → length w < p → plain.back_outcome p w ≡ record { answer = Refused BackTooFar; values = w }
back_refused p w h = cond-false _ _ _ (lt-leb p (length w) h)

tell_made : (x : Bool) (w : List Bool) (o : Option Kind) → turn_of o Report ≡ Ok tt → plain.tell_outcome x w o ≡ record { answer = Told; values = w ++ x ∷ [] }
tell_made x w o e = ap (plain.tell_outcome x w) (kind_of_turn o Report e)

reply_made : (x : Bool) (w : List Bool) (o : Option Kind) → turn_of o Reply ≡ Ok tt → plain.reply_outcome x w o ≡ record { answer = Replied x; values = w ++ x ∷ [] }
reply_made x w o e = ap (plain.reply_outcome x w) (kind_of_turn o Reply e)

back_made : (p : ℕ) (w : List Bool) → p ≤ length w → plain.back_outcome p w ≡ record { answer = WentBack; values = take p w }
back_made p w h = cond-true _ _ _ (le-leb p (length w) h)

module _ {F B : Type 0} (prefix : B → Prefix) (guards : B → Guards) (r : Round F B) where
  abbrev ks : List Kind
  ks = kinds (prefix r.book.now)

  abbrev g : Guards
  g = guards r.book.now

  abbrev w : List Bool
  w = values r

  abbrev d : ℕ
  d = r.so_far.length

  abbrev m : ℕ
  m = r.so_far.line.mask

  -- A call that is made, by what it comes to; a refused one leaves the round.
  link_made : (c : Call) (a : Answer) (u : List Bool) (t : Round F B) → t.sheet ≡ r.sheet → t.book ≡ r.book → is_refused a ≡ false → plain.outcome ks g w c ≡ record { answer = a; values = u } → values t ≡ u
      → Link prefix guards r c a t
  link_made c a u t sheet book made o v = record {
    sheet = sheet;
    book = book;
    answer = sym (ap (λ (y : plain.Outcome). y.answer) o);
    values_are = v ∙ sym (ap (λ (y : plain.Outcome). y.values) o);
    refused = λ e. absurd (false≢true (sym made ∙ e));
  }

  link_refused : (c : Call) (f : RoundFault) → plain.outcome ks g w c ≡ record { answer = Refused f; values = w } → Link prefix guards r c (Refused f) r
  link_refused c f o = record {
    sheet = refl;
    book = refl;
    answer = sym (ap (λ (y : plain.Outcome). y.answer) o);
    values_are = sym (ap (λ (y : plain.Outcome). y.values) o);
    refused = λ _. refl;
  }

  -- The book's answer is the guard's at the reports so far.
  guard_is : kind_at ks (d + 1) ≡ Some Reply → answer (prefix r.book.now) g On (d + 1) m ≡ g On (suc (length w)) (report_values ks w)
  guard_is here =
      let back : d + 1 - 1 ≡ d = omega arith in
      ap (λ (b : Bool). b && g On (d + 1) (setting_before (prefix r.book.now) (d + 1) m)) (ap some_reply here)
      ∙ ap (λ (i : ℕ). g On (d + 1) (report_values ks (bits i m))) back
      ∙ ap (λ (i : ℕ). g On i (report_values ks w)) (add-one d ∙ ap suc (sym (length-bits d m)))

  module _ (t : Round F B) (sheet : t.sheet ≡ r.sheet) (book : t.book ≡ r.book) where
    pub link_told : (x : Bool) → turn_of (next ks w) Report ≡ Ok tt → values t ≡ w ++ x ∷ [] → Link prefix guards r (Tell x) Told t
    link_told x e v = link_made (Tell x) Told (w ++ x ∷ []) t sheet book refl (tell_made x w (next ks w) e) v

    pub link_replied : (x : Bool) → turn_of (next ks w) Reply ≡ Ok tt → x ≡ answer (prefix r.book.now) g On (d + 1) m → values t ≡ w ++ x ∷ [] → Link prefix guards r call.Reply (Replied x) t
    link_replied x e on v =
        let here : kind_at ks (d + 1) ≡ Some Reply = next_is ks d m ∙ kind_of_turn (next ks w) Reply e in
        let made = reply_made (g On (suc (length w)) (report_values ks w)) w (next ks w) e in
        link_made call.Reply (Replied x) (w ++ x ∷ []) t sheet book refl (made ∙ ap (λ (y : Bool). record { answer = Replied y; values = w ++ y ∷ [] }) (sym (on ∙ guard_is here))) v

    pub link_back : (p : ℕ) → p ≤ d → values t ≡ bits p m → Link prefix guards r (Back p) WentBack t
    link_back p h v = link_made (Back p) WentBack (take p w) t sheet book refl (back_made p w (omega (arith, length-bits d m))) (v ∙ sym (take-bits p d m h))

  pub link_told_refused : (x : Bool) (f : RoundFault) → turn_of (next ks w) Report ≡ Err f → Link prefix guards r (Tell x) (Refused f) r
  link_told_refused x f e = link_refused (Tell x) f (tell_refused x w (next ks w) f e)

  pub link_reply_refused : (f : RoundFault) → turn_of (next ks w) Reply ≡ Err f → Link prefix guards r call.Reply (Refused f) r
  link_reply_refused f e = link_refused call.Reply f (reply_refused (g On (suc (length w)) (report_values ks w)) w (next ks w) f e)

  pub link_back_refused : (p : ℕ) → d < p → Link prefix guards r (Back p) (Refused BackTooFar) r
  link_back_refused p h = link_refused (Back p) BackTooFar (back_refused p w (omega (arith, length-bits d m)))

-- One value more.
pub one_value_more : (d m m' : ℕ) (x : Bool) → d < 24 → Changed m (d + 1) x m' → bits (d + 1) m' ≡ bits d m ++ x ∷ []
one_value_more d m m' x h c =
    let next : d + 1 ≡ suc d = omega arith in
    ap (λ (i : ℕ). bits i m') next ∙ bits_push d m'
    ∙ ap (λ t. t ++ bit m' d ∷ []) (bits_same d m' m (λ i l. c.elsewhere (suc i) (λ n. absurd (omega arith))))
    ∙ ap (λ (y : Bool). bits d m ++ y ∷ []) (changed_here m (d + 1) d m' x c next (omega arith))
