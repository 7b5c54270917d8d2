-- Books of files that are judged, and files that are written of books.
use Rattle.std.proofs.Common.{◌≡◌, ℕ, ◌+◌, ◌*◌, ◌<◌, Bool, true, List, ◌∷◌, ◌++◌, length, take, drop, get_or, Ok, Err, Result, MatchResult, refl, sym, ap, ◌∙◌, subst, ⊎_elim, arith}
use Rattle.std.proofs.Math.Seq.{take-append_seam, get_or-append_seam}
use Rattle.std.proofs.lemmas.List.{length-append}
use Rattle.std.proofs.lemmas.List.Elements.{All-get_or, All-weaker}
use Rattle.std.specs.Result.{IsOk}
use Rattle.prefix.specs.Points.{Point, point_count}
use Rattle.prefix.specs.Policies.{Policy}
use Rattle.prefix.specs.Prefixes.{kinds}
use Rattle.prefix.specs.declared.kind.Kind.{Kind}
use Rattle.prefix.specs.declared.prefix.Prefix.{Prefix}
use Rattle.book.specs.Guards.{Guards, Means, SameGuards}
use Rattle.book.specs.RowGuards.{row_guards}
use Rattle.book.specs.Rows.{WellMade}
use Rattle.book.specs.declared.row.Row.{Row}
use Rattle.book.specs.declared.side.Side.{Side}
use Rattle.book.specs.declared.side.Side.TheVariants.{On, Off}
use Rattle.book_file.specs.Files.{Fit, Says}
use Rattle.book_file.specs.Fronts.{AtFront}
use Rattle.book_file.specs.Listing.{row_of, Listed, ListedInto, TooShort, ListingWellMade}
use Rattle.book_file.specs.Reading.{Read}
use Rattle.book_file.specs.Refusing.{HasFault}
use Rattle.book_file.specs.Writing.{Written}
use Rattle.book_file.specs.declared.fault.BookFault.{BookFault}
use Rattle.book_file.specs.declared.list_fault.ListFault.{ListFault}
use Rattle.book_file.specs.declared.reading.Reading.{Reading}
use Rattle.book_file.specs.declared.write_fault.WriteFault.{WriteFault}
use Rattle.book_file.specs.declared.write_fault.WriteFault.TheVariants as write
use Rattle.play.specs.CheckFaults.{Refused}
use Rattle.play.specs.Checking.{Judged, Concludes}
use Rattle.play.specs.Found.{Found}
use Rattle.play.specs.declared.check_fault.CheckFault.{CheckFault}
use Rattle.play.specs.declared.verdict.Checked.{Checked}
use Rattle.play.specs.declared.verdict.Verdict.{Verdict}
use Rattle.play.proofs.Verdicts.{one_verdict}
use Rattle.sheet.specs.Rules.{rules_kept}
use Rattle.sheet.specs.declared.rule.Rule.{Rule}
use Rattle.sheet_text.specs.Tables.{Meant}
use Rattle.sheet_text.specs.declared.reading.Reading as sheet
use Rattle.jobs.specs.FileSteps.{SheetWritten, ListedFile}
use Rattle.book_file.proofs.Deciding.{decided}
use Rattle.book_file.proofs.Listings.{listing_keeps}
use Rattle.jobs.specs.Passing.{VerdictOfAlike, VerdictOfListed, Judges, OtherPrefix}
use Rattle.jobs.specs.WritingBooks.{guards_of, SearchedFile, NoneFound, BookWritten}
use Rattle.jobs.specs.declared.fault.JobFault.{JobFault}
use Rattle.jobs.specs.declared.fault.JobFault.TheVariants as fault
use Rattle.jobs.specs.declared.writing_books.BookFile.{BookFile}
use Rattle.play.proofs.AlikeBooks.{same_back, alike_verdicts}
use Rattle.jobs.proofs.OnSheets.{on_sheet}
use Rattle.jobs.proofs.FewRows.{file_few, points_few, rows_few}

-- What stands at the front of a table.
front_is : {A : Type 0} (xs before after : List A) (n : ℕ) → AtFront xs n before after → take n after ≡ xs
front_is xs before after n h = ap (take n) h.all ∙ ap (λ (i : ℕ). take i (xs ++ drop n before)) h.count ∙ take-append_seam xs (drop n before)

-- A fault is the file's own, where the table has a place for each row that there may be.
pub own_file_fault : (file : List ℕ) (f : BookFault) (before after : List Row) → Read file (Err f) before after → length before ≡ 65535 → HasFault file f
own_file_fault file f before after h all = ⊎_elim (λ own. own) (λ short. absurd (omega (arith, short.1.short, short.1.says.fit.few))) h.1

-- The verdict on one book is that on all with the same guards,
verdict_of_alike : (kept : List Bool → Bool) (p : Prefix) (g : Guards) (v : Verdict) → Judged kept g (kinds p) v → VerdictOfAlike kept g p v
verdict_of_alike kept p g v judged h same w =
    let alike = alike_verdicts kept g (kinds p) h same in
    (λ j. one_verdict kept g (kinds p) w v ((alike w).0 j) judged, λ e. (alike w).1 (subst (Judged kept g (kinds p)) (sym e) judged))

-- and so on those that are listed as the rows of its file.
verdict_of_listed : (kept : List Bool → Bool) (p : Prefix) (file : List ℕ) (rows : List Row) (v : Verdict) → Says file p rows → VerdictOfAlike kept (row_guards p rows) p v → VerdictOfListed kept file p v
verdict_of_listed kept p file rows v says alike h others other listed =
    let same = ((decided file).one_book p p others rows other says).1 in
    alike h (same_back (kinds p) h (row_guards p rows) (listing_keeps p h rows (subst (Listed p h) same listed)))

module _ (file : List ℕ) (book : Reading) (before after : List Row) (read : Read file (Ok book) before after) (p q : Prefix) (rows : List Row) (same : q ≡ book.prefix) (front : rows ≡ take book.rows after) where
  rows_read : rows ≡ read.0
  rows_read = front ∙ front_is read.0 before after book.rows read.2

  -- The rows that were read are judged,
  pub judges : (kept : List Bool → Bool) (checked : Checked) → (p ≡ q) × Concludes kept (row_guards q rows) (kinds p) checked → Judges kept p file (record { prefix = p; checked = checked })
  judges kept checked h =
      let concludes : Concludes kept (row_guards p read.0) (kinds p) checked =
      subst (λ rs. Concludes kept (row_guards p rs) (kinds p) checked) rows_read (subst (λ r. Concludes kept (row_guards r rows) (kinds p) checked) (sym h.0) h.1) in
      let of_alike = verdict_of_alike kept p (row_guards p read.0) checked.verdict concludes.judged in
      let says = subst (λ r. Says file r read.0) (sym (h.0 ∙ same)) read.1 in
      record {
        prefix = refl;
        rows = read.0;
        says = says;
        concludes = concludes;
        of_alike = of_alike;
        of_listed = verdict_of_listed kept p file read.0 checked.verdict says of_alike;
      }

  -- or are of another prefix.
  pub other_prefix : (f : CheckFault) → Refused p q f → OtherPrefix p file f
  other_prefix f h = record { prefix = book.prefix; rows = read.0; says = read.1; refused = subst (λ r. Refused p r f) same h }

-- Rows that a file may have are written into a buffer that is long enough.
pub written_ok : (p : Prefix) (rows : List Row) (r : Result ℕ WriteFault) (before after : List ℕ) → Written p rows r before after → Fit p rows → length before ≡ 12 + 16 * length rows → IsOk r
written_ok p rows (Ok n) before after h fit long = refl
written_ok p rows (Err (write.Row i)) before after h fit long =
    let first = h.1 in
    let inside : length first.front < length rows = omega (arith, ap length first.parts, length-append first.front (first.row ∷ first.rest)) in
    let made : WellMade p first.row =
    subst (WellMade p) (ap (λ (rs : List Row). get_or rs (length first.front) first.row) first.parts ∙ get_or-append_seam first.front first.row first.rest first.row)
    (All-get_or (WellMade p) rows (length first.front) first.row inside fit.made) in
    absurd (⊎_elim (λ many. omega (arith, first.index, inside, fit.few)) (λ bad. bad made) first.unfit)
written_ok p rows (Err write.BufferTooShort) before after h fit long = absurd (omega (arith, h.2, file_few p rows))

module _ (p : Prefix) (g : Guards) (meant : (policy : Policy) × Means (kinds p) g policy) where
  -- A policy's book is listed into a table with a place for each point,
  pub listed_ok : (r : Result ℕ ListFault) (before after : List Row) → MatchResult r (λ n. ListedInto p g before after n) (λ _. TooShort p g before after) → length before ≡ point_count (kinds p) → IsOk r
  listed_ok (Ok n) before after h long = refl
  listed_ok (Err f) before after h long = absurd (omega (arith, h.more, rows_few p g meant.0 meant.1 h.rows h.listed))

  -- as rows that a file may have.
  pub listed_fit : (before after : List Row) (n : ℕ) → ListedInto p g before after n → ListingWellMade p g → Fit p (take n after)
  listed_fit before after n h made =
      let rows : take n after ≡ h.0 = ap (take n) h.2.all ∙ ap (λ (i : ℕ). take i (h.0 ++ drop n before)) h.2.count ∙ take-append_seam h.0 (drop n before) in
      subst (Fit p) (sym rows) (record { made = made h.0 h.1; few = omega (arith, rows_few p g meant.0 meant.1 h.0 h.1, points_few p) })

-- Books with the same guards at every point are listed as the same rows.
alike_listing : (p : Prefix) (g h : Guards) (rows : List Row) → SameGuards (kinds p) g h → Listed p g rows → Listed p h rows
alike_listing p g h rows same listed = record {
  each = λ side k v o e. listed.each side k v o (sym (same side k v o) ∙ e);
  only = All-weaker (λ r. (side : Side) × (k : ℕ) × (v : List Bool) × Point (kinds p) k v × (g side k v ≡ true) × (r ≡ row_of p side k v))
      (λ r. (side : Side) × (k : ℕ) × (v : List Bool) × Point (kinds p) k v × (h side k v ≡ true) × (r ≡ row_of p side k v))
      (λ r t. (t.0, t.1, t.2, t.3, same t.0 t.1 t.2 t.3 ∙ t.4, t.5)) rows listed.only;
  order = listed.order;
}

-- A book that means a policy has that policy's guards.
policy_guards : (ks : List Kind) (g : Guards) (policy : Policy) → Means ks g policy → SameGuards ks g (guards_of policy)
policy_guards ks g policy m On k v o = sym (m.on k v o)
policy_guards ks g policy m Off k v o = sym (m.off k v o)

-- The file of the book that a search found.
pub searched_file : {B : Type 0} (Clears : B → B → Type 0) (Adds : B → Side → ℕ → List Bool → B → Type 0) (kept : List Bool → Bool) (p q : Prefix) (before after : B) (g : Guards) (f : BookFile)
    → Found Clears Adds kept (kinds p) before after g → q ≡ p → ListedFile q g f → SearchedFile kept p f
searched_file Clears Adds kept p q before after g f found e h =
    let l : ListedFile p g f = subst (λ r. ListedFile r g f) e h in
    record {
      rows = l.rows;
      says = l.file.says;
      count = l.file.count;
      winning = record {
        policy = found.policy;
        means = record {
          on = λ k v o. l.same On k v o ∙ found.means.on k v o;
          off = λ k v o. l.same Off k v o ∙ found.means.off k v o;
        };
        wins = found.searched.wins;
      };
      searched = found.searched;
      listed = alike_listing p g (guards_of found.policy) l.rows (policy_guards (kinds p) g found.policy found.means) l.listed;
    }

-- What is written of the sheet that is read is written of that which the text says.
pub written_on : (t : List ℕ) (reading : sheet.Reading) (before after : List Rule) (r : Result BookFile JobFault) → Meant t (Ok reading) before after
    → SheetWritten (rules_kept reading.form reading.prefix.length (take 256 (take reading.rules after))) reading.prefix r → BookWritten t r
written_on t reading before after (Ok f) m h = on_sheet t reading before after (λ kept p. SearchedFile kept p f) m h
written_on t reading before after (Err (fault.Sheet f)) m h = absurd h
written_on t reading before after (Err (fault.Book f)) m h = absurd h
written_on t reading before after (Err (fault.Check f)) m h = absurd h
written_on t reading before after (Err (fault.Search f)) m h = on_sheet t reading before after (λ kept p. NoneFound kept p f) m h
written_on t reading before after (Err fault.Memory) m h = h
