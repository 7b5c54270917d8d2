-- What the fields of a file come to, one after the other.
use Rattle.std.proofs.Common.{◌≡◌, ℕ, zero, suc, ◌^◌, ◌<◌, ◌≤◌, Bool, true, false, List, [], ◌∷◌, length, drop, Ok, Err, Result, IsErrAnd, Decides, MatchResult, sym, ap, ◌∙◌, subst, arith}
use Rattle.std.proofs.lemmas.Bool.{true≢false, false≢true}
use Rattle.std.proofs.lemmas.Result.{err_from_is_err_and}
use Rattle.prefix.specs.Bits.{mask_value}
use Rattle.prefix.specs.Kinds.{is_report, is_reply}
use Rattle.prefix.specs.Prefixes.{kinds}
use Rattle.prefix.specs.declared.prefix.Prefix.{Prefix}
use Rattle.prefix.proofs.Masks.{bit_past}
use Rattle.book.specs.Rows.{WellMade}
use Rattle.book.specs.declared.row.Row.{Row}
use Rattle.book_file.specs.declared.fault.BookFault.{BookFault}
use Rattle.book_file.specs.declared.fault.BookFault.TheVariants.{Value}
use Rattle.book_file.specs.declared.field.Field.{Field}
use Rattle.book_file.specs.declared.reading.Reading.{Reading}
use Rattle.book_file.specs.Fields.{next_in_rows, next, AllowedInRows, Allowed, EachAfter, Begun}
use Rattle.book_file.specs.Refusing.{WrongThere}
use Rattle.book_file.specs.Steps.{Stand, FieldTaken, FollowsInRow, RowTaken, HeaderTaken}
use Rattle.book_file.proofs.Standing.{outside_there, fault_after}

-- A number is taken where a test says that the field may have it.
pub field_taken : (field g : Field) (Allows : ℕ → Type 0) (file : List ℕ) (at to place n : ℕ) (b : Bool) (r : Result ℕ BookFault) → MatchResult r (λ v. (b ≡ true) × (v ≡ n)) (λ f. (b ≡ false) × (f ≡ Value place g))
    → g ≡ field → place ≡ at → Decides b (Allows n) → n < 2 ^ 28 → Stand file (n ∷ []) at to → FieldTaken field Allows file at r to
field_taken field g Allows file at to place n b (Ok v) answer same here test small stand =
    subst (λ (x : ℕ). (x < 2 ^ 28) × Allows x × Stand file (x ∷ []) at to) (sym answer.1) (small, test.0 answer.0, stand)
field_taken field g Allows file at to place n b (Err f) answer same here test small stand =
    outside_there field Allows file at to n f (answer.1 ∙ (λ i. Value (here i) (same i))) small stand (λ ok. true≢false (sym (test.1 ok) ∙ answer.0))

none_on : (k : ℕ) → mask_value 0 k ≡ true → ⊥
none_on zero e = false≢true e
none_on (suc i) e = false≢true (sym (bit_past 0 0 i (omega arith) (omega arith)) ∙ e)

-- A row that wants nothing yet is well made where it looks at reports before it,
pub looks_decides : (p : Prefix) (r : Row) (b : Bool) → is_reply (kinds p) r.position ≡ true → r.wanted_on ≡ 0 → Decides b (WellMade p r)
    → Decides b ((j : ℕ) → mask_value r.looked_at j ≡ true → (is_report (kinds p) j ≡ true) × (j < r.position))
looks_decides p r b reply none test =
    (λ h. (test.0 h).looks, λ looks. test.1 (record { reply = reply; looks = looks; wants = λ k e. absurd (none_on k (ap (λ (m : ℕ). mask_value m k) (sym none) ∙ e)) }))

-- and one that wants something where it looks there too.
pub wants_decides : (p : Prefix) (looks r : Row) (b : Bool) → WellMade p looks → r.position ≡ looks.position → r.looked_at ≡ looks.looked_at → Decides b (WellMade p r)
    → Decides b ((j : ℕ) → mask_value r.wanted_on j ≡ true → mask_value looks.looked_at j ≡ true)
wants_decides p looks r b made at same test = (
  λ h j e. ap (λ (m : ℕ). mask_value m j) (sym same) ∙ (test.0 h).wants j e,
  λ wants. test.1 (record {
    reply = ap (is_reply (kinds p)) at ∙ made.reply;
    looks = λ j e. let l = made.looks j (ap (λ (m : ℕ). mask_value m j) (sym same) ∙ e) in (l.0, omega (arith, l.1, at));
    wants = λ j e. ap (λ (m : ℕ). mask_value m j) same ∙ wants j e;
  }),
)

-- A call that ends by a `?` has the fault of the call before it.
pub fault_is : {A : Type 0} (r : Result A BookFault) (f : BookFault) → IsErrAnd r (λ g. g ≡ f) → r ≡ Err f
fault_is r f h = let err = err_from_is_err_and r h in err.1 ∙ ap Err err.2

-- What is wrong after some numbers of a row.
module _ (p : Prefix) (i : ℕ) (file : List ℕ) (at : ℕ) (r : Result Row BookFault) (f : BookFault) (e : IsErrAnd r (λ g. g ≡ f)) where
  pub row_fails : (ks : List ℕ) (to end : ℕ) (other : List ℕ) → other ≡ file → length ks ≤ 3 → EachAfter (FollowsInRow p.length p.reports) ks → Stand file ks at to
      → WrongThere (next_in_rows 1 i ks) (AllowedInRows p.length p.reports ks) to (drop to other) f → RowTaken p i file at r end
  row_fails ks to end other same part begun stand wrong =
      subst (λ (x : Result Row BookFault). RowTaken p i file at x end) (sym (fault_is r f e)) (record {
        numbers = ks;
        to = to;
        part = part;
        begun = begun;
        stand = stand;
        wrong = subst (λ (l : List ℕ). WrongThere (next_in_rows 1 i ks) (AllowedInRows p.length p.reports ks) to (drop to l) f) same wrong;
      })

-- The same before the rows.
module _ (file : List ℕ) (r : Result Reading BookFault) (f : BookFault) (e : IsErrAnd r (λ g. g ≡ f)) where
  pub header_fails : (ks : List ℕ) (to end : ℕ) (other : List ℕ) → other ≡ file → Begun ks → Stand file ks 0 to
      → WrongThere (next ks) (Allowed ks) to (drop to other) f → HeaderTaken file r end
  header_fails ks to end other same begun stand wrong =
      subst (λ (x : Result Reading BookFault). HeaderTaken file x end) (sym (fault_is r f e))
      (fault_after file ks to f begun stand (subst (λ (l : List ℕ). WrongThere (next ks) (Allowed ks) to (drop to l) f) same wrong))
