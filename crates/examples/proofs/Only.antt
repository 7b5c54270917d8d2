-- The contracts leave no other answer on the sheet that reading a text gives.
use Rattle.std.proofs.Common.{◌≡◌, ℕ, ◌<◌, ◌⊎◌, Bool, List, [], map, Some, Ok, Err, Result, MatchResult, refl, ap, ◌∙◌, subst, ⊎_elim, inl, inr, arith}
use Rattle.prefix.specs.Points.{Point}
use Rattle.prefix.specs.Policies.{Winnable}
use Rattle.prefix.specs.Prefixes.{kinds}
use Rattle.prefix.specs.Settings.{number}
use Rattle.prefix.specs.declared.kind.Kind.{Kind}
use Rattle.prefix.specs.declared.prefix.Prefix.{Prefix}
use Rattle.sheet.specs.Rules.{rules_kept}
use Rattle.sheet_text.specs.Reading.{read_text}
use Rattle.sheet_text.specs.Sheets.{Sheet}
use Rattle.worth.specs.Counts.{count}
use Rattle.worth.specs.Worth.{worth_of}
use Rattle.book.specs.RowGuards.{row_guards}
use Rattle.book.specs.declared.row.Row.{Row}
use Rattle.book_file.specs.Files.{Says}
use Rattle.book_file.specs.Refusing as file
use Rattle.book_file.proofs.Deciding as deciding
use Rattle.play.specs.Checking.{Judged}
use Rattle.play.specs.declared.check_fault.CheckFault.{CheckFault}
use Rattle.play.specs.declared.check_fault.CheckFault.TheVariants.{PrefixesDiffer}
use Rattle.play.specs.declared.verdict.Verdict.{Verdict}
use Rattle.play.proofs.Listing.{lists_alike}
use Rattle.play.proofs.OneListing.{lists_one}
use Rattle.play.proofs.Verdicts.{one_verdict}
use Rattle.jobs.specs.Choices.{choice_of, ListedBefore, SearchedChoices}
use Rattle.jobs.specs.Faults.{job_number}
use Rattle.jobs.specs.Passing as passing
use Rattle.jobs.specs.Settling as settling
use Rattle.jobs.specs.WritingBooks as writing
use Rattle.jobs.specs.declared.choice.Choice.{Choice}
use Rattle.jobs.specs.declared.fault.JobFault.{JobFault}
use Rattle.jobs.specs.declared.fault.JobFault.TheVariants as fault
use Rattle.jobs.specs.declared.judgement.Judgement.{Judgement}
use Rattle.jobs.specs.declared.settling.Settlement.{Settlement}
use Rattle.jobs.specs.declared.writing_books.BookFile.{BookFile}
use Rattle.examples.proofs.Rules.{rule_of}
use Rattle.examples.proofs.Same.{on_this, no_fault}

-- Of two choices each does not come before the other.
never_both : (x y : Choice) → ListedBefore x y → ListedBefore y x → ⊥
never_both x y a b =
    ⊎_elim (λ (l : x.position < y.position). ⊎_elim (λ (m : y.position < x.position). omega arith) (λ m. let e = m.0 in omega arith) b)
    (λ l. ⊎_elim (λ (m : y.position < x.position). let e = l.0 in omega arith) (λ m. let e = l.1 in let f = m.1 in omega arith) b) a

-- The searched policy has one list of choices.
one_listing : (kept : List Bool → Bool) (ks : List Kind) (cs ds : List Choice) → SearchedChoices kept ks cs → SearchedChoices kept ks ds → cs ≡ ds
one_listing kept ks cs ds a b =
    lists_one (Point ks) (choice_of a.policy) ListedBefore never_both cs ds a.listed
    (lists_alike (Point ks) (choice_of b.policy) ListedBefore (choice_of a.policy) ds
    (λ k v o. ap (λ (x : Bool). record { position = k; setting = number v; value = x }) (a.searched.only b.policy b.searched.on k v o)) b.listed)

-- The text t is read as the sheet s, whose prefix is p.
module _ (t : List ℕ) (s : Sheet) (p : Prefix) (read : read_text t ≡ Ok s) (same : kinds p ≡ s.kinds) where
  abbrev kept : List Bool → Bool
  kept = rules_kept s.form p.length (map rule_of s.rules)

  pub counted_only : (n : ℕ) → (worth_of count kept p).value ≡ n → (r : Result Settlement JobFault) → settling.Settled t r
      → MatchResult r (λ x. x.policies.value ≡ n) (λ f. f ≡ fault.Memory)
  counted_only n e (Ok x) h = ap (λ c. c.value) (on_this t s p read same (λ kept q. settling.Settles kept q x) h).policies ∙ e
  counted_only n e (Err (fault.Sheet f)) h = absurd (no_fault t s p read same f h)
  counted_only n e (Err (fault.Book f)) h = absurd h
  counted_only n e (Err (fault.Check f)) h = absurd h
  counted_only n e (Err (fault.Search f)) h = absurd h
  counted_only n e (Err fault.Memory) h = refl

  pub settled_only : (n : ℕ) (cs : List Choice) → (worth_of count kept p).value ≡ n → Winnable kept (kinds p) [] → SearchedChoices kept (kinds p) cs → (r : Result Settlement JobFault) → settling.Settled t r
      → MatchResult r (λ x. (x.policies.value ≡ n) × (x.choices.items ≡ cs)) (λ f. f ≡ fault.Memory)
  settled_only n cs e w c (Ok x) h =
      let settles = on_this t s p read same (λ kept q. settling.Settles kept q x) h in
      (ap (λ c. c.value) settles.policies ∙ e, one_listing kept (kinds p) x.choices.items cs (settles.choices w) c)
  settled_only n cs e w c (Err (fault.Sheet f)) h = absurd (no_fault t s p read same f h)
  settled_only n cs e w c (Err (fault.Book f)) h = absurd h
  settled_only n cs e w c (Err (fault.Check f)) h = absurd h
  settled_only n cs e w c (Err (fault.Search f)) h = absurd h
  settled_only n cs e w c (Err fault.Memory) h = refl

  pub refused_only : (Winnable kept (kinds p) [] → ⊥) → (r : Result BookFile JobFault) → writing.BookWritten t r
      → MatchResult r (λ _. ⊥) (λ f. (f ≡ fault.Memory) ⊎ (job_number f ≡ Some 16))
  refused_only none (Ok f) h =
      let found = on_this t s p read same (λ kept q. writing.SearchedFile kept q f) h in
      none (found.winning.policy, found.winning.wins)
  refused_only none (Err (fault.Sheet f)) h = absurd (no_fault t s p read same f h)
  refused_only none (Err (fault.Book f)) h = absurd h
  refused_only none (Err (fault.Check f)) h = absurd h
  refused_only none (Err (fault.Search f)) h =
      let found = on_this t s p read same (λ kept q. writing.NoneFound kept q f) h in
      inr (ap (λ g. job_number (fault.Search g)) found.0)
  refused_only none (Err fault.Memory) h = inl refl

  -- The file b says the rows rs.
  module _ (b : List ℕ) (rs : List Row) (says : Says b p rs) where
    other_prefix : (f : CheckFault) → passing.OtherPrefix p b f → ⊥
    other_prefix PrefixesDiffer h = h.refused ((deciding.decided b).one_book p h.prefix rs h.rows says h.says).0

    pub judged_only : (v : Verdict) → Judged kept (row_guards p rs) (kinds p) v → (r : Result Judgement JobFault) → passing.Passed t b r
        → MatchResult r (λ j. j.checked.verdict ≡ v) (λ f. f ≡ fault.Memory)
    judged_only v e (Ok j) h =
        let judges = on_this t s p read same (λ kept q. passing.Judges kept q b j) h in
        let rows : judges.rows ≡ rs = ((deciding.decided b).one_book p p judges.rows rs judges.says says).1 in
        one_verdict kept (row_guards p rs) (kinds p) j.checked.verdict v (subst (λ (xs : List Row). Judged kept (row_guards p xs) (kinds p) j.checked.verdict) rows judges.concludes.judged) e
    judged_only v e (Err (fault.Sheet f)) h = absurd (no_fault t s p read same f h)
    judged_only v e (Err (fault.Book f)) h = absurd ((deciding.decided b).not_both p rs f says (on_this t s p read same (λ kept q. file.HasFault b f) h))
    judged_only v e (Err (fault.Check f)) h = absurd (other_prefix f (on_this t s p read same (λ kept q. passing.OtherPrefix q b f) h))
    judged_only v e (Err (fault.Search f)) h = absurd h
    judged_only v e (Err fault.Memory) h = refl
