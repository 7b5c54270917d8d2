-- A text says one sheet, and that has one prefix and one list of rules.
use Rattle.std.proofs.Common.{◌≡◌, ℕ, suc, ◌<◌, ◌^◌, Bool, true, false, cond, eqb, List, [], ◌∷◌, map, length, Some, None, Option, Ok, Err, Result, refl, sym, ap, ◌∙◌, subst, ⊎_elim, arith}
use Rattle.std.specs.Int.{bit_at}
use Rattle.std.proofs.lemmas.Nat.Bits.{same_from_bits}
use Rattle.std.proofs.lemmas.Bool.{cases_Bool, cond-false, true≢false, false≢true}
use Rattle.prefix.specs.Bits.{bit}
use Rattle.prefix.specs.Kinds.{is_report}
use Rattle.prefix.specs.Prefixes.{kinds}
use Rattle.prefix.specs.declared.kind.Kind.{Kind}
use Rattle.prefix.specs.declared.prefix.Prefix.{Prefix}
use Rattle.prefix.proofs.Equal.{same_prefix}
use Rattle.prefix.proofs.Masks.{bits-apart, four_cases}
use Rattle.prefix.proofs.Positions.{length-kinds, value_report}
use Rattle.sheet.specs.Rules.{rules_kept}
use Rattle.sheet.specs.Literals.{Made}
use Rattle.sheet.specs.declared.literal.Literal.{Literal}
use Rattle.sheet.specs.declared.rule.Rule.{Rule}
use Rattle.sheet.proofs.Collected.{some_not_none}
use Rattle.sheet_text.specs.Reading.{read_text}
use Rattle.sheet_text.specs.Sheets.{Sheet}
use Rattle.sheet_text.specs.Tables.{MadeOf}
use Rattle.sheet_text.specs.Refusing.{HasFault}
use Rattle.sheet_text.proofs.TextReads.{read_exactly}
use Rattle.sheet_text.proofs.Refusals.{refused_exactly}
use Rattle.sheet_text.proofs.Steps.{err_ok}
use Rattle.faults.specs.declared.sheet.SheetFault.{SheetFault}
use Rattle.jobs.specs.OnSheet.{OnSheet}
use Rattle.examples.proofs.Rules.{rule_of}
use Rattle.examples.proofs.Sheets.{text_rules}

same_kinds : (p q : Prefix) → kinds p ≡ kinds q → p ≡ q
same_kinds p q e =
    let long : p.length ≡ q.length = sym (length-kinds p.length p.reports) ∙ ap length e ∙ length-kinds q.length q.reports in
    same_prefix p q long
    (bits-apart p.length p.reports q.reports p.ok.2 (subst (λ (n : ℕ). q.reports < 2 ^ n) (sym long) q.ok.2)
    (λ i lt. value_report p.length p.reports (suc i) p.ok.2 ∙ ap (λ (ks : List Kind). is_report ks (suc i)) e ∙ sym (value_report q.length q.reports (suc i) q.ok.2)))

-- Of two bits that are on together, each is the other.
same_bit : (r s : ℕ) → r < 2 → s < 2 → eqb r 1 ≡ eqb s 1 → r ≡ s
same_bit = four_cases (λ r s. eqb r 1 ≡ eqb s 1 → r ≡ s) (λ _. refl) (λ e. absurd (false≢true e)) (λ e. absurd (true≢false e)) (λ _. refl)

same_mask : (a b : ℕ) → ((i : ℕ) → bit a i ≡ bit b i) → a ≡ b
same_mask a b h = same_from_bits a b (λ i. same_bit (bit_at a i) (bit_at b i) (omega arith) (omega arith) (h i))

abbrev the_value : Option Bool → Bool
the_value None = false
the_value (Some x) = x

-- What is named and wanted, by what is wanted where.
same_wanted : (b c x y : Bool) → ◌≡◌ {A = Option Bool} (cond b (Some x) None) (cond c (Some y) None) → (b ≡ c) × (b ≡ true → x ≡ y)
same_wanted true true x y e = (refl, λ _. ap the_value e)
same_wanted true false x y e = absurd (some_not_none x e)
same_wanted false true x y e = absurd (some_not_none y (sym e))
same_wanted false false x y e = (refl, λ h. absurd (false≢true h))

module _ (ls : List Literal) (r s : Rule) (made : Made ls r) (other : Made ls s) where
  both : (i : ℕ) → (bit r.named i ≡ bit s.named i) × (bit r.named i ≡ true → bit r.wanted i ≡ bit s.wanted i)
  both i = same_wanted (bit r.named i) (bit s.named i) (bit r.wanted i) (bit s.wanted i) (made.wanted (suc i) ∙ sym (other.wanted (suc i)))

  -- Where a rule names nothing it wants nothing on.
  wanted_alike : (i : ℕ) → bit r.wanted i ≡ bit s.wanted i
  wanted_alike i =
      ⊎_elim (λ (named : bit r.named i ≡ true). (both i).1 named)
      (λ (free : bit r.named i ≡ false).
      made.tidy (suc i) (cond-false (bit r.named i) (Some (bit r.wanted i)) None free)
      ∙ sym (other.tidy (suc i) (cond-false (bit s.named i) (Some (bit s.wanted i)) None (sym (both i).0 ∙ free)))) (cases_Bool (bit r.named i))

  same_rule : r ≡ s
  same_rule =
      let named : r.named ≡ s.named = same_mask r.named s.named (λ i. (both i).0) in
      let wanted : r.wanted ≡ s.wanted = same_mask r.wanted s.wanted wanted_alike in
      λ i. record { named = named i; wanted = wanted i }

same_rules : (lss : List (List Literal)) (rs ss : List Rule) → MadeOf lss rs → MadeOf lss ss → rs ≡ ss
same_rules [] [] [] h k = refl
same_rules [] [] (s ∷ ss) h k = absurd k
same_rules [] (r ∷ rs) ss h k = absurd h
same_rules (ls ∷ lss) [] ss h k = absurd h
same_rules (ls ∷ lss) (r ∷ rs) [] h k = absurd k
same_rules (ls ∷ lss) (r ∷ rs) (s ∷ ss) h k =
    let first = same_rule ls r s h.0 k.0 in
    let rest = same_rules lss rs ss h.1 k.1 in
    λ i. first i ∷ rest i

-- The text t is read as the sheet s, whose prefix is p.
module _ (t : List ℕ) (s : Sheet) (p : Prefix) (read : read_text t ≡ Ok s) (same : kinds p ≡ s.kinds) where
  abbrev sheet_in : Result Sheet SheetFault → Sheet
  sheet_in (Ok x) = x
  sheet_in (Err f) = s

  -- What holds on the sheet that the text says holds of this sheet.
  pub on_this : (Claim : (List Bool → Bool) → Prefix → Type 0) → OnSheet t Claim → Claim (rules_kept s.form p.length (map rule_of s.rules)) p
  on_this Claim o =
      let one : o.sheet ≡ s = ap sheet_in (sym ((read_exactly t o.sheet).1 o.says) ∙ read) in
      let prefix : o.prefix ≡ p = same_kinds o.prefix p (o.kinds ∙ ap (λ (x : Sheet). x.kinds) one ∙ sym same) in
      let rules : o.rules ≡ map rule_of s.rules = same_rules s.rules o.rules (map rule_of s.rules) (subst (λ (x : Sheet). MadeOf x.rules o.rules) one o.made) (text_rules t s read) in
      coe 0 1 (i. Claim (rules_kept ((one i).form) ((prefix i).length) (rules i)) (prefix i)) o.holds

  -- It has no fault.
  pub no_fault : (f : SheetFault) → HasFault t f → ⊥
  no_fault f h = err_ok f s (sym ((refused_exactly t f).1 h) ∙ read)
