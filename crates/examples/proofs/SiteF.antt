-- Site F as its text says it: the count, the choices, and the verdicts on four books.
use Rattle.std.proofs.Common.{◌≡◌, ℕ, Bool, true, false, List, [], ◌∷◌, map, take, zero, suc, Ok, codes, refl, arith}
use Rattle.std.proofs.lemmas.Nat.{ones_le_self}
use Rattle.prefix.specs.Points.{Point}
use Rattle.prefix.specs.Policies.{Policy, Winnable}
use Rattle.prefix.specs.Settings.{number}
use Rattle.prefix.specs.declared.kind.Kind.{Kind}
use Rattle.prefix.specs.declared.kind.Kind.TheVariants.{Report, Reply}
use Rattle.prefix.specs.declared.prefix.Prefix.{Prefix}
use Rattle.prefix.proofs.Lines.{none_not_reply}
use Rattle.sheet.specs.Rules.{rules_kept}
use Rattle.sheet.specs.declared.form.Form.TheVariants.{Cnf}
use Rattle.sheet.specs.declared.literal.Literal.{Literal}
use Rattle.sheet_text.specs.Cuts.{cut}
use Rattle.sheet_text.specs.Reading.{read_text, read_through, run}
use Rattle.sheet_text.specs.Sheets.{Sheet}
use Rattle.sheet_text.specs.Words.{numeral_of}
use Rattle.worth.proofs.Policies.{best, yes_means_winnable}
use Rattle.play.specs.Listing.{Lists}
use Rattle.play.proofs.Best.{best_policy, best_wins}
use Rattle.play.proofs.Listing.{lists_none}
use Rattle.book.specs.CopySteps.{comes_before}
use Rattle.jobs.specs.Choices.{choice_of, ListedBefore, SearchedChoices}
use Rattle.jobs.specs.Steps.{ListsTo}
use Rattle.jobs.specs.declared.choice.Choice.{Choice}
use Rattle.jobs.proofs.Listed.{choice_listed, position_listed, all_listed}
use Rattle.std.proofs.lemmas.Bool.Decides.{nat_tests}
use Rattle.examples.proofs.Rules.{rule_of}

abbrev pub on : ℕ → Literal
on k = record { position = k; wanted = true }

abbrev pub off : ℕ → Literal
off k = record { position = k; wanted = false }

abbrev pub kinds_f : List Kind
kinds_f = Report ∷ Reply ∷ Report ∷ Reply ∷ []

abbrev pub site_f : Sheet
site_f = record {
  form = Cnf;
  kinds = kinds_f;
  rules = (on 2 ∷ on 3 ∷ []) ∷ (off 2 ∷ off 3 ∷ on 4 ∷ []) ∷ (off 2 ∷ on 3 ∷ off 1 ∷ off 4 ∷ []) ∷ (off 2 ∷ on 3 ∷ on 1 ∷ on 4 ∷ []) ∷ [];
}

pub read_f : read_text (codes "p cnf 4 4\na 1 0\ne 2 0\na 3 0\ne 4 0\n2 3 0\n-2 -3 4 0\n-2 3 -1 -4 0\n-2 3 1 4 0\n") ≡ Ok site_f
unfolding read_through run cut numeral_of lib.Count.ones
read_f = refl

abbrev pub prefix_f : Prefix
prefix_f = record { length = 4; reports = 5; ok = (omega arith, omega arith, omega arith, omega (arith, ones_le_self 5)) }

abbrev pub kept_f : List Bool → Bool
kept_f = rules_kept Cnf 4 (map rule_of site_f.rules)

pub winnable_f : Winnable kept_f kinds_f []
winnable_f = (yes_means_winnable kept_f kinds_f []).0 refl

abbrev policy_f : Policy
policy_f = best_policy kept_f kinds_f

abbrev pub choices_f : List Choice
choices_f =
    record { position = 2; setting = 0; value = true }
    ∷ record { position = 2; setting = 1; value = true }
    ∷ record { position = 4; setting = 0; value = true }
    ∷ record { position = 4; setting = 1; value = true }
    ∷ record { position = 4; setting = 2; value = false }
    ∷ record { position = 4; setting = 3; value = true }
    ∷ []

abbrev To : ℕ → ℕ → List Choice → Type 0
To k s cs = ListsTo kinds_f policy_f k s cs

listed : Lists (Point kinds_f) (choice_of policy_f) ListedBefore choices_f
unfolding best
listed =
    let none : To 1 0 [] = lists_none (λ k v. Point kinds_f k v × (comes_before 1 0 k (number v) ≡ true)) (choice_of policy_f) ListedBefore first in
    let two : To 2 0 [] = position_listed kinds_f policy_f 1 [] none in
    let two0 = choice_listed kinds_f policy_f 2 0 (false ∷ []) [] (refl, refl) refl two in
    let two1 = choice_listed kinds_f policy_f 2 1 (true ∷ []) (take 1 choices_f) (refl, refl) refl two0 in
    let three = position_listed kinds_f policy_f 2 (take 2 choices_f) two1 in
    let four = position_listed kinds_f policy_f 3 (take 2 choices_f) three in
    let four0 = choice_listed kinds_f policy_f 4 0 (false ∷ false ∷ []) (take 2 choices_f) (refl, refl) refl four in
    let four1 = choice_listed kinds_f policy_f 4 1 (false ∷ true ∷ []) (take 3 choices_f) (refl, refl) refl four0 in
    let four2 = choice_listed kinds_f policy_f 4 2 (true ∷ false ∷ []) (take 4 choices_f) (refl, refl) refl four1 in
    let four3 = choice_listed kinds_f policy_f 4 3 (true ∷ true ∷ []) (take 5 choices_f) (refl, refl) refl four2 in
    all_listed kinds_f policy_f choices_f (position_listed kinds_f policy_f 4 choices_f four3)
  where
    first : (k : ℕ) (v : List Bool) → Point kinds_f k v × (comes_before 1 0 k (number v) ≡ true) → ⊥
    first zero v h = none_not_reply h.0.0
    first (suc i) v h = grind (arith, nat_tests)

pub choices_made : SearchedChoices kept_f kinds_f choices_f
choices_made = record { policy = policy_f; searched = best_wins kept_f kinds_f winnable_f; listed = listed }
