-- The law of rounds.
use Rattle.std.proofs.Common.{◌≡◌, ℕ, zero, suc, ◌+◌, ◌<◌, ◌≤◌, Bool, true, false, cond, not, List, [], ◌∷◌, ◌++◌, length, take, get_or, Some, None, Option, Ok, Err, Result, nat_le, is_ok, add-one, sym, refl, ap, ◌∙◌, subst, ⊎_elim, arith}
use Rattle.std.specs.Borrow.{Bor}
use Rattle.std.proofs.Math.Bool.{not-not}
use Rattle.std.proofs.lemmas.Bool.{cases_lt, cond_both}
use Rattle.std.proofs.lemmas.Fn.{chained_keeps}
use Rattle.std.proofs.lemmas.List.{length-append, length-take, map-append, take_all, take_at, take-take, take-append-le, get_or_append_left, get_or_push, get_or-take}
use Rattle.prefix.specs.Kinds.{kind_at, some_report, some_reply, is_report, is_reply, report_count, report_values}
use Rattle.prefix.specs.Policies.{line}
use Rattle.prefix.specs.Prefixes.{kinds}
use Rattle.prefix.specs.declared.kind.Kind.{Kind}
use Rattle.prefix.specs.declared.kind.Kind.TheVariants.{Report}
use Rattle.prefix.specs.declared.kind.Kind.TheVariants as kind
use Rattle.prefix.specs.declared.prefix.Prefix.{Prefix}
use Rattle.prefix.proofs.Before.{length-values}
use Rattle.prefix.proofs.Lines.{report_not_reply, one_line}
use Rattle.prefix.proofs.Replies.{kind_within}
use Rattle.book.specs.Guards.{Guards}
use Rattle.book.specs.declared.side.Side.TheVariants.{On}
use Rattle.play.specs.Answers.{is_refused}
use Rattle.play.specs.Chains.{values, tell_answer, reply_answer, back_answer, Link, Made, Chain, calls_of, answers_of, RefusedExactly, Lawful}
use Rattle.play.specs.Checking.{MeansWinning}
use Rattle.play.specs.Rounds.{Outcome, next, tell_outcome, reply_outcome, outcome, answers, values_after}
use Rattle.play.specs.declared.call.Answer.{Answer}
use Rattle.play.specs.declared.call.Answer.TheVariants.{WentBack, Refused}
use Rattle.play.specs.declared.call.Call.{Call}
use Rattle.play.specs.declared.call.Call.TheVariants.{Tell, Reply, Back}
use Rattle.play.specs.declared.round.Round.{Round}
use Rattle.play.specs.declared.round_fault.RoundFault.{RoundFault}
use Rattle.play.specs.declared.round_fault.RoundFault.TheVariants.{Complete, OtherTurn, BackTooFar}
use Rattle.play.proofs.Verdicts.{accepts_whole}

module _ (ks : List Kind) (g : Guards) where
  -- Each reply among the values is what the on-guard says at the reports before it.
  abbrev Follows : List Bool → Type 0
  Follows w = (i : ℕ) → i < length w → kind_at ks (suc i) ≡ Some kind.Reply → get_or w i false ≡ g On (suc i) (report_values ks (take i w))

  record Follow (w : List Bool) : Type 0 where
    few : length w ≤ length ks
    each : Follows w

  follow_none : Follow []
  follow_none = record { few = omega arith; each = λ i h r. absurd (omega arith) }

  follow_more : (w : List Bool) (x : Bool) (k : Kind) → next ks w ≡ Some k → (next ks w ≡ Some kind.Reply → x ≡ g On (suc (length w)) (report_values ks w)) → Follow w → Follow (w ++ x ∷ [])
  follow_more w x k at here f = record { few = omega (arith, length-append w (x ∷ []), kind_within ks (suc (length w)) k at); each = each }
    where
      each : Follows (w ++ x ∷ [])
      each i h r =
          ⊎_elim
          (λ lt. get_or_append_left w (x ∷ []) false i lt ∙ f.each i lt r ∙ ap (λ t. g On (suc i) (report_values ks t)) (sym (take-append-le i w (x ∷ []) (omega arith))))
          (λ ge.
          let e : length w ≡ i = omega (arith, length-append w (x ∷ [])) in
          get_or_push w x false i e ∙ here (ap (λ (j : ℕ). kind_at ks (suc j)) e ∙ r) ∙ ap (λ (j : ℕ). g On (suc j) (report_values ks w)) e
          ∙ ap (λ t. g On (suc i) (report_values ks t)) (sym (take_at w (x ∷ []) i e)))
          (cases_lt i (length w))

  follow_fewer : (w : List Bool) (p : ℕ) → Follow w → Follow (take p w)
  follow_fewer w p f = record { few = omega (arith, length-take p w, f.few); each = each }
    where
      each : Follows (take p w)
      each i h r =
          let lt : i < p = omega (arith, length-take p w) in
          get_or-take p w i false lt ∙ f.each i (omega (arith, length-take p w)) r ∙ ap (λ t. g On (suc i) (report_values ks t)) (sym (take-take i p w (omega arith)))

  follow_tell : (x : Bool) (w : List Bool) (o : Option Kind) → next ks w ≡ o → Follow w → Follow (tell_outcome x w o).values
  follow_tell x w None e f = f
  follow_tell x w (Some kind.Reply) e f = f
  follow_tell x w (Some Report) e f = follow_more w x Report e (λ r. report_not_reply (sym e ∙ r)) f

  follow_reply : (w : List Bool) (o : Option Kind) → next ks w ≡ o → Follow w → Follow (reply_outcome (g On (suc (length w)) (report_values ks w)) w o).values
  follow_reply w None e f = f
  follow_reply w (Some Report) e f = f
  follow_reply w (Some kind.Reply) e f = follow_more w (g On (suc (length w)) (report_values ks w)) kind.Reply e (λ _. refl) f

  -- Every call of the plain round keeps that.
  follow_call : (c : Call) (w : List Bool) → Follow w → Follow (outcome ks g w c).values
  follow_call (Tell x) w f = follow_tell x w (next ks w) refl f
  follow_call Reply w f = follow_reply w (next ks w) refl f
  follow_call (Back p) w f = cond_both {A = Outcome} (nat_le p (length w)) _ _ (λ t. Follow t.values) (λ _. follow_fewer w p f) (λ _. f)

  follow_calls : (cs : List Call) (w : List Bool) → Follow w → Follow (values_after ks g w cs)
  follow_calls [] w f = f
  follow_calls (c ∷ cs) w f = follow_calls cs (outcome ks g w c).values (follow_call c w f)

  -- Whole values that follow the on-guards are the line that these give on their reports.
  follow_whole : (w : List Bool) → length w ≡ length ks → Follow w → w ≡ line ks (g On) (report_values ks w)
  follow_whole w e f = (one_line ks).only (g On) (report_values ks w) w (record {
    whole = e;
    reports = refl;
    replies = λ i r. f.each i (omega (arith, kind_within ks (suc i) kind.Reply r)) r;
  })

  -- With a book that means a policy that wins, the plain round completes no broken line.
  pub none_broken : (kept : List Bool → Bool) → MeansWinning kept g ks → (cs : List Call) → length (values_after ks g [] cs) ≡ length ks → kept (values_after ks g [] cs) ≡ true
  none_broken kept a cs e =
      let w : List Bool = values_after ks g [] cs in
      let long : length (report_values ks w) ≡ report_count ks = length-values ks w ∙ ap report_count (take_all (length w) ks (omega arith)) in
      ap kept (follow_whole w e (follow_calls cs [] follow_none)) ∙ (accepts_whole kept g ks a (report_values ks w) long).line_is

  -- One call more.
  pub answers_push : (cs : List Call) (c : Call) (w : List Bool) → answers ks g w (cs ++ c ∷ []) ≡ answers ks g w cs ++ (outcome ks g (values_after ks g w cs) c).answer ∷ []
  answers_push [] c w = refl
  answers_push (d ∷ cs) c w = ap (λ t. (outcome ks g w d).answer ∷ t) (answers_push cs c (outcome ks g w d).values)

  pub values_push : (cs : List Call) (c : Call) (w : List Bool) → values_after ks g w (cs ++ c ∷ []) ≡ (outcome ks g (values_after ks g w cs) c).values
  values_push [] c w = refl
  values_push (d ∷ cs) c w = values_push cs c (outcome ks g w d).values

  -- Of the answers to calls, each is that to its call after the calls before it.
  pub answer_at : (cs : List Call) (w : List Bool) (i : ℕ) (c : Call) (a : Answer) → i < length cs → get_or (answers ks g w cs) i a ≡ (outcome ks g (values_after ks g w (take i cs)) (get_or cs i c)).answer
  answer_at [] w i c a h = absurd (omega arith)
  answer_at (d ∷ cs) w zero c a h = refl
  answer_at (d ∷ cs) w (suc i) c a h = answer_at cs (outcome ks g w d).values i c a (omega arith)

  tell_exact : (x : Bool) (w : List Bool) (o : Option Kind) → is_refused (tell_outcome x w o).answer ≡ not (some_report o)
  tell_exact x w None = refl
  tell_exact x w (Some Report) = refl
  tell_exact x w (Some kind.Reply) = refl

  reply_exact : (x : Bool) (w : List Bool) (o : Option Kind) → is_refused (reply_outcome x w o).answer ≡ not (some_reply o)
  reply_exact x w None = refl
  reply_exact x w (Some Report) = refl
  reply_exact x w (Some kind.Reply) = refl

  back_exact : (p : ℕ) (w : List Bool) (b : Bool) → is_refused (cond {A = Outcome} b (record { answer = WentBack; values = take p w }) (record { answer = Refused BackTooFar; values = w })).answer ≡ not b
  back_exact p w true = refl
  back_exact p w false = refl

  -- Every call of the plain round is refused exactly where it should be.
  pub refused_exactly : (w : List Bool) (c : Call) → RefusedExactly ks w c (outcome ks g w c).answer
  refused_exactly w (Tell x) = tell_exact x w (next ks w)
  refused_exactly w Reply = reply_exact (g On (suc (length w)) (report_values ks w)) w (next ks w)
  refused_exactly w (Back p) = back_exact p w (nat_le p (length w))

refused_is : (f : RoundFault) → is_refused (Refused f) ≡ true
refused_is Complete = refl
refused_is OtherTurn = refl
refused_is BackTooFar = refl

tell_ok : (r : Result (Unit {0}) RoundFault) → is_ok r ≡ not (is_refused (tell_answer r))
tell_ok (Ok _) = refl
tell_ok (Err f) = ap not (sym (refused_is f))

reply_ok : (r : Result Bool RoundFault) → is_ok r ≡ not (is_refused (reply_answer r))
reply_ok (Ok x) = refl
reply_ok (Err f) = ap not (sym (refused_is f))

back_ok : (r : Result (Unit {0}) RoundFault) → is_ok r ≡ not (is_refused (back_answer r))
back_ok (Ok _) = refl
back_ok (Err f) = ap not (sym (refused_is f))

-- What a call's own link says of when it is refused.
module _ {F B : Type 0} (prefix : B → Prefix) (guards : B → Guards) (r t : Round F B) where
  taken : (c : Call) (a : Answer) → Link prefix guards r c a t → RefusedExactly (kinds (prefix r.book.now)) (values r) c a
  taken c a l = subst (RefusedExactly (kinds (prefix r.book.now)) (values r) c) (sym l.answer) (refused_exactly (kinds (prefix r.book.now)) (guards r.book.now) (values r) c)

  pub tell_made : (x : Bool) (a : Result (Unit {0}) RoundFault) → Link prefix guards r (Tell x) (tell_answer a) t → is_ok a ≡ is_report (kinds (prefix r.book.now)) (length (values r) + 1)
  tell_made x a l = tell_ok a ∙ ap not (taken (Tell x) (tell_answer a) l) ∙ not-not _ ∙ ap (is_report (kinds (prefix r.book.now))) (sym (add-one (length (values r))))

  pub reply_made : (a : Result Bool RoundFault) → Link prefix guards r Reply (reply_answer a) t → is_ok a ≡ is_reply (kinds (prefix r.book.now)) (length (values r) + 1)
  reply_made a l = reply_ok a ∙ ap not (taken Reply (reply_answer a) l) ∙ not-not _ ∙ ap (is_reply (kinds (prefix r.book.now))) (sym (add-one (length (values r))))

  pub back_made : (p : ℕ) (a : Result (Unit {0}) RoundFault) → Link prefix guards r (Back p) (back_answer a) t → is_ok a ≡ nat_le p (length (values r))
  back_made p a l = back_ok a ∙ ap not (taken (Back p) (back_answer a) l) ∙ not-not _

-- Of a chain of calls on a round whose book has these guards.
module _ {F B : Type 0} (prefix : B → Prefix) (guards : B → Guards) (r : Round F B) (none : values r ≡ []) where
  abbrev ks : List Kind
  ks = kinds (prefix r.book.now)

  abbrev g : Guards
  g = guards r.book.now

  -- It is as the plain round is, given the same calls.
  record Plain (made : List Made) (t : Round F B) : Type 0 where
    sheet_same : t.sheet ≡ r.sheet
    book_same : t.book ≡ r.book
    said : answers_of made ≡ answers ks g [] (calls_of made)
    stands : values t ≡ values_after ks g [] (calls_of made)

  plain_more : (made : List Made) (t : Round F B) (c : Made) (u : Round F B) → Plain made t → Link prefix guards t c.call c.answer u → Plain (made ++ c ∷ []) u
  plain_more made t c u p l =
      let cs = calls_of made in
      let calls : calls_of (made ++ c ∷ []) ≡ cs ++ c.call ∷ [] = map-append (λ (m : Made). m.call) made (c ∷ []) in
      let same : outcome (kinds (prefix t.book.now)) (guards t.book.now) (values t) c.call ≡ outcome ks g (values_after ks g [] cs) c.call =
      ap (λ (b : Bor B). outcome (kinds (prefix b.now)) (guards b.now) (values t) c.call) p.book_same ∙ ap (λ w. outcome ks g w c.call) p.stands in
      record {
        sheet_same = l.sheet ∙ p.sheet_same;
        book_same = l.book ∙ p.book_same;
        said =
            map-append (λ (m : Made). m.answer) made (c ∷ []) ∙ ap (λ t. t ++ c.answer ∷ []) p.said
            ∙ ap (λ (a : Answer). answers ks g [] cs ++ a ∷ []) (l.answer ∙ ap (λ (y : Outcome). y.answer) same)
            ∙ sym (answers_push ks g cs c.call []) ∙ ap (answers ks g []) (sym calls);
        stands = l.values_are ∙ ap (λ (y : Outcome). y.values) same ∙ sym (values_push ks g cs c.call []) ∙ ap (values_after ks g []) (sym calls);
      }

  plain_chain : (made : List Made) (t : Round F B) → Chain prefix guards r made t → Plain made t
  plain_chain made t chain =
      chained_keeps (λ (x : Round F B) (c : Made) (y : Round F B). Link prefix guards x c.call c.answer y) Plain (λ xs q x v. plain_more xs q x v) made r t
      (record { sheet_same = refl; book_same = refl; said = refl; stands = none }) chain

  pub chain_law : (kept : F → List Bool → Bool) → MeansWinning (kept r.sheet.now) g ks → (made : List Made) (t : Round F B) → Chain prefix guards r made t → Lawful prefix guards kept r.sheet r.book made t
  chain_law kept a made t chain =
      let p = plain_chain made t chain in
      let cs = calls_of made in
      record {
        sheet_same = p.sheet_same;
        book_same = p.book_same;
        answers = p.said;
        values_are = p.stands;
        unbroken = λ e. ap (kept r.sheet.now) p.stands ∙ none_broken ks g (kept r.sheet.now) a cs (ap length (sym p.stands) ∙ e);
        follows = λ c b u l.
            subst (RefusedExactly ks (values t) c) (sym (l.answer ∙ ap (λ (y : Bor B). (outcome (kinds (prefix y.now)) (guards y.now) (values t) c).answer) p.book_same))
            (refused_exactly ks g (values t) c);
      }
