-- What every listing of a book's guards keeps, and that there is one alone.
use Rattle.std.proofs.Common.{◌≡◌, ℕ, ◌<◌, ◌≤◌, Bool, true, false, ◌&&◌, eqb, ◌⊎◌, List, ◌++◌, length, drop, sym, refl, ap, ◌∙◌, subst, ⊎_elim, arith}
use Rattle.std.specs.List.{All, Contains, list_any}
use Rattle.std.proofs.lemmas.Bool.{false≢true, and_parts, and_from}
use Rattle.std.proofs.lemmas.Bool.Decides.{Decides-eqb}
use Rattle.std.proofs.lemmas.List.Elements.{All-weaker, All-contains}
use Rattle.std.proofs.lemmas.List.Folds.{Any-from_list_any, list_any-from_Any}
use Rattle.prefix.specs.Kinds.{reports_before}
use Rattle.prefix.specs.Points.{Point}
use Rattle.prefix.specs.Prefixes.{kinds}
use Rattle.prefix.specs.declared.prefix.Prefix.{Prefix}
use Rattle.book.specs.Guards.{Guards, same_side}
use Rattle.book.specs.RowGuards.{row_agrees, well_made, row_guards}
use Rattle.book.specs.Rows.{WellMade}
use Rattle.book.specs.declared.row.Row.{Row}
use Rattle.book.specs.declared.side.Side.{Side}
use Rattle.book.specs.declared.side.Side.TheVariants.{On, Off}
use Rattle.book.proofs.ListsInOrder.{same_list}
use Rattle.book_file.specs.Listing.{row_of, wanted_number, ListedBefore, Listed, ListedInto, OneListing, ListingWellMade, ListingKeepsGuards}
use Rattle.book_file.specs.ListSteps.{AllListed}
use Rattle.book_file.proofs.ExactRows.{row_made, row_made_true, row_agrees_there, row_agrees_alone}
use Rattle.book_file.proofs.TableRows.{table_whole}

on_not_off : On ≡ Off → ⊥
on_not_off e = let a : ◌≡◌ {A = ℕ} 0 1 = cc e in absurd (omega arith)

module _ (p : Prefix) where
  -- At one position.
  abbrev Later : Row → Row → Type 0
  Later x y = (wanted_number p x < wanted_number p y) ⊎ ((wanted_number p x ≡ wanted_number p y) × (x.side ≡ On) × (y.side ≡ Off))

  never_both_later : (a b : Row) → Later a b → Later b a → ⊥
  never_both_later a b h k =
      ⊎_elim
      (λ (l : wanted_number p a < wanted_number p b). ⊎_elim (λ (m : wanted_number p b < wanted_number p a). omega arith)
      (λ (m : (wanted_number p b ≡ wanted_number p a) × (b.side ≡ On) × (a.side ≡ Off)). let e = m.0 in omega arith)
      k)
      (λ (l : (wanted_number p a ≡ wanted_number p b) × (a.side ≡ On) × (b.side ≡ Off)). ⊎_elim (λ (m : wanted_number p b < wanted_number p a). let e = l.0 in omega arith)
      (λ (m : (wanted_number p b ≡ wanted_number p a) × (b.side ≡ On) × (a.side ≡ Off)). on_not_off (sym l.1 ∙ m.2))
      k)
      h

  -- Of two rows only one comes before the other.
  never_both : (a b : Row) → ListedBefore p a b → ListedBefore p b a → ⊥
  never_both a b h k =
      ⊎_elim
      (λ (l : a.position < b.position). ⊎_elim (λ (m : b.position < a.position). omega arith) (λ (m : (b.position ≡ a.position) × Later b a). let e = m.0 in omega arith) k)
      (λ (l : (a.position ≡ b.position) × Later a b). ⊎_elim (λ (m : b.position < a.position). let e = l.0 in omega arith)
      (λ (m : (b.position ≡ a.position) × Later b a). never_both_later a b l.1 m.1)
      k)
      h

same_bool : (a b : Bool) → (a ≡ true → b ≡ true) → (b ≡ true → a ≡ true) → a ≡ b
same_bool true b f g = sym (f refl)
same_bool false true f g = g refl
same_bool false false f g = refl

side_tells : (s t : Side) → same_side s t ≡ true → s ≡ t
side_tells On On h = refl
side_tells On Off h = absurd (false≢true h)
side_tells Off On h = absurd (false≢true h)
side_tells Off Off h = refl

side_itself : (s : Side) → same_side s s ≡ true
side_itself On = refl
side_itself Off = refl

module _ (p : Prefix) (g : Guards) where
  -- What each row of a listing is of.
  abbrev OfGuard : Row → Type 0
  OfGuard r = (side : Side) × (k : ℕ) × (v : List Bool) × Point (kinds p) k v × (g side k v ≡ true) × (r ≡ row_of p side k v)

  within : (xs ys : List Row) → Listed p g xs → Listed p g ys → (r : Row) → Contains xs r → Contains ys r
  within xs ys a b r c = let t = All-contains OfGuard xs r a.only c in subst (Contains ys) (sym t.5) (b.each t.0 t.1 t.2 t.3 t.4)

  pub one_listing : OneListing p g
  one_listing xs ys a b = same_list (ListedBefore p) (never_both p) xs ys a.order b.order (within xs ys a b) (within ys xs b a)

  pub listing_made : ListingWellMade p g
  listing_made rows h = All-weaker OfGuard (WellMade p) (λ r t. subst (WellMade p) (sym t.5) (row_made p t.1 t.2 t.3 t.0)) rows h.only

  pub listing_made_true : (rows : List Row) → Listed p g rows → All (λ r. well_made p r ≡ true) rows
  listing_made_true rows h = All-weaker OfGuard (λ r. well_made p r ≡ true) (λ r t. subst (λ (z : Row). well_made p z ≡ true) (sym t.5) (row_made_true p t.1 t.2 t.3 t.0)) rows h.only

  module _ (side : Side) (k : ℕ) (v : List Bool) (o : Point (kinds p) k v) where
    -- What the guards of rows test of a row.
    abbrev tested : Row → Bool
    tested r = eqb r.position k && same_side r.side side && row_agrees p r v

    guard_of : (s : Side) (j : ℕ) (w : List Bool) → Point (kinds p) j w → g s j w ≡ true → tested (row_of p s j w) ≡ true → g side k v ≡ true
    guard_of s j w q on met =
        let all = and_parts (eqb j k && same_side s side) (row_agrees p (row_of p s j w) v) met in
        let both = and_parts (eqb j k) (same_side s side) all.0 in
        let at : j ≡ k = (Decides-eqb j k).0 both.0 in
        let same : v ≡ w = row_agrees_alone p j w q s v (o.1 ∙ ap (reports_before (kinds p)) (sym at)) all.1 in
        ap (λ (x : Side). g x k v) (sym (side_tells s side both.1)) ∙ ap (λ (i : ℕ). g s i v) (sym at) ∙ ap (g s j) same ∙ on

    keeps_there : (rows : List Row) → Listed p g rows → list_any tested rows ≡ true → g side k v ≡ true
    keeps_there rows h e =
        let found = Any-from_list_any tested rows e in
        let t = All-contains OfGuard rows found.1 h.only (found.0, found.2, found.3) in
        guard_of t.0 t.1 t.2 t.3 t.4 (subst (λ (r : Row). tested r ≡ true) t.5 found.4)

    keeps_back : (rows : List Row) → Listed p g rows → g side k v ≡ true → list_any tested rows ≡ true
    keeps_back rows h on =
        let c = h.each side k v o on in
        let row = row_of p side k v in
        let here = and_from (eqb k k) (same_side side side) ((Decides-eqb k k).1 refl) (side_itself side) in
        list_any-from_Any tested rows (c.0, row, c.1, c.2, and_from (eqb k k && same_side side side) (row_agrees p row v) here (row_agrees_there p k v o side))

  pub listing_keeps : ListingKeepsGuards p g
  listing_keeps rows h side k v o = same_bool (row_guards p rows side k v) (g side k v) (keeps_there side k v o rows h) (keeps_back side k v o rows h)

  -- The rows as they were counted first, and then written.
  module _ (none start counted table : List Row) (n m : ℕ) (a : AllListed p g none counted n) (b : AllListed p g start table m) where
    counts_same : n ≡ m
    counts_same = a.held.counted ∙ ap length (one_listing a.rows b.rows a.lists b.lists) ∙ sym b.held.counted

    pub listed_into : n ≤ length start → ListedInto p g start table n
    listed_into l =
        let few : length b.rows ≤ length start = omega (arith, counts_same, b.held.counted) in (
          b.rows,
          b.lists,
          record {
            count = counts_same ∙ b.held.counted;
            room = l;
            all = table_whole start b.rows table m b.held few ∙ ap (λ (i : ℕ). b.rows ++ drop i start) (sym counts_same);
          },
        )
