-- The row of a point agrees at that point alone.
use Rattle.std.proofs.Common.{◌≡◌, ℕ, zero, suc, ◌-◌, ◌%◌, ◌^◌, ◌<◌, Bool, true, ◌&&◌, List, length, sym, ap, ◌∙◌, subst, arith}
use Rattle.std.proofs.lemmas.Bool.{false≢true, and_parts, and_from}
use Rattle.prefix.specs.Bits.{mask_value}
use Rattle.prefix.specs.Kinds.{is_report, is_reply, some_reply, reports_before}
use Rattle.prefix.specs.Lines.{setting_before, SettingMask}
use Rattle.prefix.specs.Points.{Point}
use Rattle.prefix.specs.Prefixes.{kinds}
use Rattle.prefix.specs.declared.prefix.Prefix.{Prefix}
use Rattle.prefix.proofs.Cuts.{before_decides}
use Rattle.book.specs.Rows.{WellMade}
use Rattle.book.specs.RowGuards.{within, well_made, as_wanted, row_agrees}
use Rattle.book.specs.declared.side.Side.{Side}
use Rattle.book.proofs.Rows.{within_decides}
use Rattle.book_file.specs.Listing.{setting_mask, row_of}
use Rattle.book_file.proofs.SettingMasks.{values_of_mask, mask_of_values, mask_on, all_on, values_on, wanted_itself, wanted_same, before_is}

-- The mask that gives a setting and is off elsewhere is the mask of that setting.
pub mask_is : (p : Prefix) (k s m : ℕ) → SettingMask p k s m → m ≡ setting_mask (kinds p) (setting_before p k m)
mask_is p k s m h = mask_of_values (kinds p) (k - 1) m (λ i e. let r = h.alone (suc i) e in let l = r.1 in (r.0, omega arith))

module _ (p : Prefix) (k : ℕ) (v : List Bool) (o : Point (kinds p) k v) where
  -- The setting that the row wants.
  pub wanted_is : setting_before p k (setting_mask (kinds p) v) ≡ v
  wanted_is = values_of_mask (kinds p) (k - 1) v (o.1 ∙ before_is (kinds p) k)

  on_at : (j : ℕ) → mask_value (setting_mask (kinds p) v) j ≡ true → (is_report (kinds p) j ≡ true) × (j < k)
  on_at zero h = absurd (false≢true h)
  on_at (suc i) h = let r = mask_on (kinds p) (k - 1) i v (o.1 ∙ before_is (kinds p) k) h in let l = r.1 in (r.0, omega arith)

  pub row_made : (side : Side) → WellMade p (row_of p side k v)
  row_made side = record {
    reply = ap some_reply o.0;
    looks = λ j h. (before_decides p k j).0 h;
    wants = λ j h. (before_decides p k j).1 (on_at j h);
  }

  pub row_made_true : (side : Side) → well_made p (row_of p side k v) ≡ true
  row_made_true side =
      let looked = p.reports % 2 ^ (k - 1) in
      let wanted = setting_mask (kinds p) v in
      and_from (is_reply (kinds p) k && within looked looked) (within wanted looked)
      (and_from (is_reply (kinds p) k) (within looked looked) (ap some_reply o.0) ((within_decides looked looked).1 (λ j h. h)))
      ((within_decides wanted looked).1 (row_made side).wants)

  looked_is : setting_before p k (p.reports % 2 ^ (k - 1)) ≡ all_on (reports_before (kinds p) k)
  looked_is =
      values_on (kinds p) (k - 1) (p.reports % 2 ^ (k - 1)) (λ i l r. (before_decides p k (suc i)).1 (r, omega arith))
      ∙ ap all_on (sym (before_is (kinds p) k))

  pub row_agrees_there : (side : Side) → row_agrees p (row_of p side k v) v ≡ true
  row_agrees_there side =
      let looked = setting_before p k (p.reports % 2 ^ (k - 1)) in
      and_from (well_made p (row_of p side k v)) (as_wanted looked (setting_before p k (setting_mask (kinds p) v)) v) (row_made_true side)
      (subst (λ (w : List Bool). as_wanted looked w v ≡ true) (sym wanted_is) (wanted_itself looked v))

  pub row_agrees_alone : (side : Side) (w : List Bool) → length w ≡ reports_before (kinds p) k → row_agrees p (row_of p side k v) w ≡ true → w ≡ v
  row_agrees_alone side w e h =
      let looked = setting_before p k (p.reports % 2 ^ (k - 1)) in
      let wanted = setting_before p k (setting_mask (kinds p) v) in
      let met = (and_parts (well_made p (row_of p side k v)) (as_wanted looked wanted w) h).1 in
      wanted_same (reports_before (kinds p) k) v w o.1 e
      (subst (λ (ls : List Bool). as_wanted ls v w ≡ true) looked_is (subst (λ (z : List Bool). as_wanted looked z w ≡ true) wanted_is met))
