-- Calls played one after the other.
use Rattle.std.proofs.Common.{◌≡◌, ℕ, ◌+◌, ◌<◌, ◌≤◌, Bool, List, [], ◌∷◌, ◌++◌, length, take, drop, get_or, set, sym, refl, ap, ◌∙◌, subst, add-one, arith}
use Rattle.std.proofs.Math.Seq.{take-suc-set}
use Rattle.std.proofs.lemmas.Fn.{FoldsTo-push}
use Rattle.std.proofs.lemmas.List.{map-append, take_more, take-append-drop, length-take-le, get_or-take, drop-set-lt, drop-drop}
use Rattle.std.proofs.lemmas.Option.{get_or_from_slice_get, slice_get_within}
use Rattle.prefix.specs.Prefixes.{kinds}
use Rattle.prefix.specs.declared.kind.Kind.{Kind}
use Rattle.prefix.specs.declared.part_line.PartLine.{PartLine}
use Rattle.prefix.specs.declared.prefix.Prefix.{Prefix}
use Rattle.book.specs.Guards.{Guards}
use Rattle.play.specs.Chains.{values_of, values, Link, Made, Chain, calls_of, answers_of, RefusedExactly}
use Rattle.play.specs.Playing.{PlayedAll}
use Rattle.play.specs.Checking.{MeansWinning}
use Rattle.play.specs.Rounds.{Outcome, outcome, answers, values_after}
use Rattle.play.specs.declared.call.Answer.{Answer}
use Rattle.play.specs.declared.call.Call.{Call}
use Rattle.play.specs.declared.round.Round.{Round}
use Rattle.play.proofs.Chains.{none_broken, answers_push, values_push, answer_at, refused_exactly}

-- After the first i calls: answers and values are those of the plain round, the other answers as before.
pub record PlayedTo {F B : Type 0} (prefix : B → Prefix) (guards : B → Guards) (book : B) (calls : List Call) (before : List Answer) (i : ℕ) (after : List Answer) (r : Round F B) : Type 0 where
  pub book_same : r.book.now ≡ book
  pub said : take i after ≡ answers (kinds (prefix book)) (guards book) [] (take i calls)
  pub rest : drop i after ≡ drop i before
  pub stands : values r ≡ values_after (kinds (prefix book)) (guards book) [] (take i calls)

module _ {F B : Type 0} (prefix : B → Prefix) (guards : B → Guards) (book : B) (calls : List Call) (before : List Answer) where
  pub played_none : (r : Round F B) → r.book.now ≡ book → values r ≡ [] → PlayedTo prefix guards book calls before 0 before r
  played_none r e none = record { book_same = e; said = refl; rest = refl; stands = none }

  pub played_more : (i : ℕ) (after : List Answer) (r t : Round F B) (d : Call) (a : Answer) → i < length calls → i < length after → PlayedTo prefix guards book calls before i after r
      → Link prefix guards r (get_or calls i d) a t → PlayedTo prefix guards book calls before (i + 1) (set after i a) t
  played_more i after r t d a in_calls in_after p l =
      let cs : List Call = take i calls in
      let c : Call = get_or calls i d in
      let ks : List Kind = kinds (prefix book) in
      let g : Guards = guards book in
      let more : take (i + 1) calls ≡ cs ++ c ∷ [] = take_more calls i d in_calls in
      let same : outcome (kinds (prefix r.book.now)) (guards r.book.now) (values r) c ≡ outcome ks g (values_after ks g [] cs) c =
      ap (λ (b : B). outcome (kinds (prefix b)) (guards b) (values r) c) p.book_same ∙ ap (λ w. outcome ks g w c) p.stands in
      record {
        book_same = ap (λ b. b.now) l.book ∙ p.book_same;
        said =
            ap (λ (j : ℕ). take j (set after i a)) (add-one i) ∙ take-suc-set after i a in_after ∙ ap (λ t. t ++ a ∷ []) p.said
            ∙ ap (λ (b : Answer). answers ks g [] cs ++ b ∷ []) (l.answer ∙ ap (λ (y : Outcome). y.answer) same)
            ∙ sym (answers_push ks g cs c []) ∙ ap (answers ks g []) (sym more);
        rest = drop-set-lt (i + 1) after i a (omega arith) ∙ sym (drop-drop 1 i after) ∙ ap (drop 1) p.rest ∙ drop-drop 1 i before;
        stands = l.values_are ∙ ap (λ (y : Outcome). y.values) same ∙ sym (values_push ks g cs c []) ∙ ap (values_after ks g []) (sym more);
      }

  pub played_all : (kept : List Bool → Bool) → MeansWinning kept (guards book) (kinds (prefix book)) → (i : ℕ) (after : List Answer) (r : Round F B) (so_far : PartLine) → i ≤ length calls
      → values_of so_far ≡ values r → PlayedTo prefix guards book calls before i after r → PlayedAll kept (guards book) (kinds (prefix book)) (take i calls) before after so_far
  played_all kept a i after r so_far h e p = record {
    answers = sym (take-append-drop i after) ∙ ap (λ t. t ++ drop i after) p.said ∙ ap (λ t. answers (kinds (prefix book)) (guards book) [] (take i calls) ++ t) (p.rest ∙ ap (λ (j : ℕ). drop j before) (sym (length-take-le i calls h)));
    values_are = e ∙ p.stands;
    unbroken = λ j e. none_broken (kinds (prefix book)) (guards book) kept a (take j (take i calls)) e;
    each = λ j c b at given.
        let ks : List Kind = kinds (prefix book) in
        let g : Guards = guards book in
        let cs : List Call = take i calls in
        let w : List Bool = values_after ks g [] (take j cs) in
        let inside : j < length cs = slice_get_within cs j c at in
        let front : j < i = omega (arith, inside, length-take-le i calls h) in
        let said : b ≡ (outcome ks g w c).answer =
        sym (get_or_from_slice_get after j b b given) ∙ sym (get_or-take i after j b front) ∙ ap (λ t. get_or t j b) p.said ∙ answer_at ks g cs [] j c b inside
        ∙ ap (λ (d : Call). (outcome ks g w d).answer) (get_or_from_slice_get cs j c c at) in
        subst (RefusedExactly ks w c) (sym said) (refused_exactly ks g w c);
  }

-- The first i calls, with the answers given, are a chain from the round that was opened.
pub record Linked {F B : Type 0} (prefix : B → Prefix) (guards : B → Guards) (first : Round F B) (calls : List Call) (i : ℕ) (given : List Answer) (r : Round F B) : Type 0 where
  pub made : List Made
  pub chain : Chain prefix guards first made r
  pub calls_made : calls_of made ≡ take i calls
  pub answers_given : answers_of made ≡ take i given

module _ {F B : Type 0} (prefix : B → Prefix) (guards : B → Guards) (first : Round F B) (calls : List Call) where
  pub linked_none : (given : List Answer) → Linked prefix guards first calls 0 given first
  linked_none given = record { made = []; chain = refl; calls_made = refl; answers_given = refl }

  pub linked_more : (i : ℕ) (given : List Answer) (r t : Round F B) (d : Call) (a : Answer) → i < length calls → i < length given → Linked prefix guards first calls i given r
      → Link prefix guards r (get_or calls i d) a t → Linked prefix guards first calls (i + 1) (set given i a) t
  linked_more i given r t d a in_calls in_given p l =
      let c : Call = get_or calls i d in
      let m : Made = record { call = c; answer = a } in
      record {
        made = p.made ++ m ∷ [];
        chain = FoldsTo-push (λ (x : Round F B) (m : Made) (y : Round F B). Link prefix guards x m.call m.answer y) first p.made r m t p.chain l;
        calls_made = map-append (λ (m : Made). m.call) p.made (m ∷ []) ∙ ap (λ t. t ++ c ∷ []) p.calls_made ∙ sym (take_more calls i d in_calls);
        answers_given =
            map-append (λ (m : Made). m.answer) p.made (m ∷ []) ∙ ap (λ t. t ++ a ∷ []) p.answers_given
            ∙ sym (ap (λ (j : ℕ). take j (set given i a)) (add-one i) ∙ take-suc-set given i a in_given);
      }
