-- The rows of guards as they are listed, one guard more at a time.
use Rattle.std.proofs.Common.{◌≡◌, ℕ, ◌+◌, ◌-◌, ◌%◌, ◌^◌, ◌<◌, ◌≤◌, Bool, true, false, cond, ◌⊎◌, List, [], ◌∷◌, ◌++◌, length, get_or, sym, refl, ap, ◌∙◌, subst, inl, inr, ⊎_elim, pow_mono, arith}
use Rattle.std.specs.List.{All, Contains}
use Rattle.std.proofs.lemmas.Bool.{false≢true, cases_lt}
use Rattle.std.proofs.lemmas.List.Elements.{All-nil, All-push, All-weaker, All-get_or, Contains-push, Contains-append_left}
use Rattle.std.proofs.lemmas.List.Quantifiers.{all_pairs_push}
use Rattle.prefix.specs.Kinds.{is_reply, reports_before}
use Rattle.prefix.specs.Lines.{setting_before, SettingMask}
use Rattle.prefix.specs.Points.{Point, points_at}
use Rattle.prefix.specs.Prefixes.{kinds}
use Rattle.prefix.specs.Settings.{number}
use Rattle.prefix.specs.declared.prefix.Prefix.{Prefix}
use Rattle.prefix.proofs.Positions.{before_le, count-whole}
use Rattle.prefix.proofs.Replies.{reply_within, reply_from_one, point_of}
use Rattle.prefix.proofs.Settings.{number-below, number-apart}
use Rattle.book.specs.Guards.{Guards, answer}
use Rattle.book.specs.declared.row.Row.{Row}
use Rattle.book.specs.declared.side.Side.{Side}
use Rattle.book.specs.declared.side.Side.TheVariants.{On, Off}
use Rattle.book.proofs.Copies.{answer_at, number_within}
use Rattle.book_file.specs.Listing.{row_of, wanted_number, ListedBefore}
use Rattle.book_file.specs.ListSteps.{side_place, place, guard_place, ListsTo, ListedTo, AllListed}
use Rattle.book_file.specs.Steps.{InTable}
use Rattle.book_file.proofs.ExactRows.{mask_is, wanted_is}
use Rattle.book_file.proofs.TableRows.{table_first}

side_small : (s : Side) → side_place s < 2
side_small On = omega arith
side_small Off = omega arith

sides_same : (s t : Side) → side_place s ≡ side_place t → s ≡ t
sides_same On On e = refl
sides_same On Off e = absurd (omega arith)
sides_same Off On e = absurd (omega arith)
sides_same Off Off e = refl

sides_before : (s t : Side) → side_place s < side_place t → (s ≡ On) × (t ≡ Off)
sides_before On On l = absurd (omega arith)
sides_before On Off l = (refl, refl)
sides_before Off On l = absurd (omega arith)
sides_before Off Off l = absurd (omega arith)

module _ (p : Prefix) where
  reports_few : (k : ℕ) → reports_before (kinds p) k ≤ 12
  reports_few k = omega (arith, before_le (kinds p) k, count-whole p.length p.reports (omega arith))

  number_few : (k : ℕ) (v : List Bool) → Point (kinds p) k v → number v < 4096
  number_few k v o = omega (arith, number-below v, ap (λ (i : ℕ). 2 ^ i) o.1, pow_mono (reports_few k))

  module _ (s t : Side) (j k : ℕ) (w v : List Bool) (a : Point (kinds p) j w) (b : Point (kinds p) k v) where
    -- Each guard at each point has a place of its own.
    same_place : guard_place s j w ≡ guard_place t k v → (s ≡ t) × (j ≡ k) × (w ≡ v)
    same_place e =
        let c = number_few j w a in
        let d = number_few k v b in
        let x = side_small s in
        let y = side_small t in
        let at : j ≡ k = omega arith in
        let n : number w ≡ number v = omega arith in
        let side : side_place s ≡ side_place t = omega arith in
        (sides_same s t side, at, number-apart w v (a.1 ∙ ap (reports_before (kinds p)) at ∙ sym b.1) n)

    same_row : guard_place s j w ≡ guard_place t k v → row_of p s j w ≡ row_of p t k v
    same_row e =
        let r = same_place e in
        ap (λ (x : Side). row_of p x j w) r.0 ∙ ap (λ (i : ℕ). row_of p t i w) r.1 ∙ ap (row_of p t k) r.2

    -- The rows are in the order of the places.
    row_before : guard_place s j w < guard_place t k v → ListedBefore p (row_of p s j w) (row_of p t k v)
    row_before l =
        let c = number_few j w a in
        let d = number_few k v b in
        let x = side_small s in
        let y = side_small t in
        let m : wanted_number p (row_of p s j w) ≡ number w = ap number (wanted_is p j w a) in
        let n : wanted_number p (row_of p t k v) ≡ number v = ap number (wanted_is p k v b) in
        ⊎_elim (λ (i : j < k). inl i)
        (λ (i : k ≤ j). inr (
          omega arith,
          ⊎_elim (λ (u : number w < number v). inl (omega (arith, m, n)))
              (λ (u : number v ≤ number w).
              let sides = sides_before s t (omega arith) in
              let e : number w ≡ number v = omega arith in
              inr (m ∙ e ∙ sym n, sides.0, sides.1))
              (cases_lt (number w) (number v)),
        ))
        (cases_lt j k)

module _ (p : Prefix) (g : Guards) where
  -- What a row is of that is listed before a place.
  abbrev OfGuard : ℕ → Row → Type 0
  OfGuard end r = (side : Side) × (k : ℕ) × (v : List Bool) × Point (kinds p) k v × (g side k v ≡ true) × (guard_place side k v < end) × (r ≡ row_of p side k v)

  still_before : (a b : ℕ) (rows : List Row) → a ≤ b → All (OfGuard a) rows → All (OfGuard b) rows
  still_before a b rows l h = All-weaker (OfGuard a) (OfGuard b) (λ r t. (t.0, t.1, t.2, t.3, t.4, omega (arith, t.5), t.6)) rows h

  -- Places that no guard has.
  no_guard_between : (a b : ℕ) (rows : List Row) → a ≤ b → ((side : Side) (k : ℕ) (v : List Bool) → Point (kinds p) k v → guard_place side k v < b → guard_place side k v < a) → ListsTo p g a rows → ListsTo p g b rows
  no_guard_between a b rows l none h = record {
    each = λ side k v o y i. h.each side k v o y (none side k v o i);
    only = still_before a b rows l h.only;
    order = h.order;
  }

  module _ (side : Side) (k : ℕ) (v : List Bool) (rows : List Row) (o : Point (kinds p) k v) (h : ListsTo p g (guard_place side k v) rows) where
    -- One guard more that is yes.
    guard_yes : g side k v ≡ true → ListsTo p g (guard_place side k v + 1) (rows ++ row_of p side k v ∷ [])
    guard_yes on = record {
      each = λ s j w q y l. each s j w q y l (cases_lt (guard_place s j w) (guard_place side k v));
      only = All-push (OfGuard (guard_place side k v + 1)) rows (row_of p side k v) (still_before (guard_place side k v) (guard_place side k v + 1) rows (omega arith) h.only)
          (side, k, v, o, on, omega arith, refl);
      order = all_pairs_push (ListedBefore p) rows (row_of p side k v) h.order last;
    }
      where
        each : (s : Side) (j : ℕ) (w : List Bool) → Point (kinds p) j w → g s j w ≡ true → guard_place s j w < guard_place side k v + 1
            → (guard_place s j w < guard_place side k v) ⊎ (guard_place side k v ≤ guard_place s j w) → Contains (rows ++ row_of p side k v ∷ []) (row_of p s j w)
        each s j w q y l c =
            ⊎_elim (λ (e : guard_place s j w < guard_place side k v). Contains-append_left rows (row_of p side k v ∷ []) (row_of p s j w) (h.each s j w q y e))
            (λ (e : guard_place side k v ≤ guard_place s j w).
            let same : guard_place s j w ≡ guard_place side k v = omega arith in
            subst (Contains (rows ++ row_of p side k v ∷ [])) (sym (same_row p s side j k w v q o same)) (Contains-push rows (row_of p side k v)))
            c

        last : (i : ℕ) (d : Row) → i < length rows → ListedBefore p (get_or rows i d) (row_of p side k v)
        last i d l =
            let t = All-get_or (OfGuard (guard_place side k v)) rows i d l h.only in
            subst (λ (r : Row). ListedBefore p r (row_of p side k v)) (sym t.6) (row_before p t.0 side t.1 k t.2 v t.3 o t.5)

    -- One guard more that is no.
    guard_no : g side k v ≡ false → ListsTo p g (guard_place side k v + 1) rows
    guard_no off = record {
      each = λ s j w q y l. each s j w q y l (cases_lt (guard_place s j w) (guard_place side k v));
      only = still_before (guard_place side k v) (guard_place side k v + 1) rows (omega arith) h.only;
      order = h.order;
    }
      where
        each : (s : Side) (j : ℕ) (w : List Bool) → Point (kinds p) j w → g s j w ≡ true → guard_place s j w < guard_place side k v + 1
            → (guard_place s j w < guard_place side k v) ⊎ (guard_place side k v ≤ guard_place s j w) → Contains rows (row_of p s j w)
        each s j w q y l c =
            ⊎_elim (λ (e : guard_place s j w < guard_place side k v). h.each s j w q y e)
            (λ (e : guard_place side k v ≤ guard_place s j w).
            let same : guard_place s j w ≡ guard_place side k v = omega arith in
            let t = same_place p s side j k w v q o same in
            absurd (false≢true (sym off ∙ sym (ap (λ (x : Side). g x j w) t.0 ∙ ap (λ (i : ℕ). g side i w) t.1 ∙ ap (g side k) t.2) ∙ y)))
            c

    guard_listed : (wanted : Bool) → wanted ≡ g side k v → ListsTo p g (guard_place side k v + 1) (cond wanted (rows ++ row_of p side k v ∷ []) rows)
    guard_listed true e = guard_yes (sym e)
    guard_listed false e = guard_no (sym e)

  -- One row of the table more, or none.
  pub side_listed : (q : Prefix) (side : Side) (k s m n n' : ℕ) (wanted : Bool) (row : Row) (start table table' : List Row) → q ≡ p → is_reply (kinds p) k ≡ true → SettingMask p k s m → wanted ≡ answer q g side k m
      → row ≡ record { position = k; side = side; looked_at = p.reports % 2 ^ (k - 1); wanted_on = m }
      → ((start rows : List Row) → InTable start rows table n → InTable start (cond wanted (rows ++ row ∷ []) rows) table' n')
      → ListedTo p g (place k s (side_place side)) start table n → ListedTo p g (place k s (side_place side) + 1) start table' n'
  side_listed q side k s m n n' wanted row start table table' e reply setting answers made writes h =
      let v = setting_before p k m in
      let same : row ≡ row_of p side k v =
      made ∙ ap (λ (i : ℕ). record { position = k; side = side; looked_at = p.reports % 2 ^ (k - 1); wanted_on = i }) (mask_is p k s m setting) in
      let lists = guard_listed side k v h.rows (point_of p k m reply) (subst (λ (i : ℕ). ListsTo p g (place k i (side_place side)) h.rows) (sym setting.setting) h.lists)
      wanted (answers ∙ answer_at q p g side k m e reply) in
      record {
        rows = cond wanted (h.rows ++ row_of p side k v ∷ []) h.rows;
        lists = subst (λ (i : ℕ). ListsTo p g (place k i (side_place side) + 1) (cond wanted (h.rows ++ row_of p side k v ∷ []) h.rows)) setting.setting lists;
        held = subst (λ (r : Row). InTable start (cond wanted (h.rows ++ r ∷ []) h.rows) table' n') same (writes start h.rows h.held);
      }

  pub place_same : (a b n : ℕ) (start table : List Row) → a ≡ b → ListedTo p g a start table n → ListedTo p g b start table n
  place_same a b n start table e h = subst (λ (i : ℕ). ListedTo p g i start table n) e h

  -- Of no guard, nothing.
  pub none_listed : (start : List Row) → ListedTo p g (place 1 0 0) start start 0
  none_listed start = record {
    rows = [];
    lists = record {
      each = λ side k v o y l. absurd (omega (arith, reply_from_one (kinds p) k o.0));
      only = All-nil (OfGuard (place 1 0 0));
      order = λ i j d a b. absurd (omega arith);
    };
    held = table_first start;
  }

  -- All points of a position.
  pub position_listed : (k n : ℕ) (start table : List Row) → points_at (kinds p) k ≤ 4096 → ListedTo p g (place k (points_at (kinds p) k) 0) start table n → ListedTo p g (place (k + 1) 0 0) start table n
  position_listed k n start table few h = record {
    rows = h.rows;
    lists = no_guard_between (place k (points_at (kinds p) k) 0) (place (k + 1) 0 0) h.rows (omega arith) within h.lists;
    held = h.held;
  }
    where
      within : (side : Side) (j : ℕ) (w : List Bool) → Point (kinds p) j w → guard_place side j w < place (k + 1) 0 0 → guard_place side j w < place k (points_at (kinds p) k) 0
      within side j w o l =
          let c = number_few p j w o in
          let x = side_small side in
          ⊎_elim (λ (i : j < k). omega arith)
          (λ (i : k ≤ j).
          let at : j ≡ k = omega arith in
          let m = number_within (kinds p) k j w o at in
          omega arith)
          (cases_lt j k)

  -- All positions.
  pub all_listed : (n : ℕ) (start table : List Row) → ListedTo p g (place (length (kinds p) + 1) 0 0) start table n → AllListed p g start table n
  all_listed n start table h = record {
    rows = h.rows;
    lists = record {
      each = λ side k v o y. h.lists.each side k v o y (inside side k v o);
      only = All-weaker (OfGuard (place (length (kinds p) + 1) 0 0)) (λ r. (side : Side) × (k : ℕ) × (v : List Bool) × Point (kinds p) k v × (g side k v ≡ true) × (r ≡ row_of p side k v)) (λ r t. (t.0, t.1, t.2, t.3, t.4, t.6)) h.rows h.lists.only;
      order = h.lists.order;
    };
    held = h.held;
  }
    where
      inside : (side : Side) (k : ℕ) (v : List Bool) → Point (kinds p) k v → guard_place side k v < place (length (kinds p) + 1) 0 0
      inside side k v o =
          let c = number_few p k v o in
          let x = side_small side in
          omega (arith, reply_within (kinds p) k o.0)
