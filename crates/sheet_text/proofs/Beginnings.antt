-- Lines that are as they should be, with a line more.
use Rattle.std.proofs.Common.{All, ◌≡◌, ℕ, suc, ◌<◌, ◌≤◌, ◌⊎◌, List, [], ◌∷◌, ◌++◌, map, length, sym, refl, ap, ◌∙◌, subst, inl, inr, ⊎_elim, arith}
use Rattle.std.proofs.lemmas.List.{append_assoc, append-nil, map_push, length_push}
use Rattle.std.proofs.lemmas.List.Elements.{All-nil, All-cons, All-head, All-tail, All-push, All-weaker}
use Rattle.prefix.specs.declared.kind.Kind.{Kind}
use Rattle.sheet.specs.Literals.{Distinct}
use Rattle.sheet.specs.declared.form.Form.{Form}
use Rattle.sheet_text.specs.Grammar.{placed, Comment, header_line, Quantifier, quantifier_line, Signed, rule_line, Variable, variable, order, Ranges}
use Rattle.sheet_text.specs.Grammar.{Header, Quantified, Ruled, Begun}
use Rattle.sheet_text.proofs.LineReads.{heads, tails, nil_cons}
use Rattle.sheet_text.proofs.Naming.{once_front}
use Rattle.sheet_text.proofs.SheetReads.{SomeVariable, front_reports}

order_push : (quants : List Quantifier) (q : Quantifier) → order (quants ++ q ∷ []) ≡ order quants ++ map (variable q.kind) q.variables
order_push [] q = append-nil (map (variable q.kind) q.variables)
order_push (p ∷ quants) q = ap (λ (vs : List Variable). map (variable p.kind) p.variables ++ vs) (order_push quants q) ∙ sym (append_assoc (map (variable p.kind) p.variables) (order quants) (map (variable q.kind) q.variables))

-- The header's line.
pub begun_header : (lines : List (List (List ℕ))) (words : List (List ℕ)) (f : Form) (n r : ℕ) → All Comment lines → Ranges 24 n → r ≤ 256 → words ≡ header_line f n r
    → Begun (lines ++ words ∷ []) (record { form = f; length = n; rules = r }) [] []
begun_header lines words f n r comments range few is = record {
  comments = lines;
  quantifiers = [];
  spelled = ap (λ (ws : List (List ℕ)). lines ++ ws ∷ []) is;
  commented = comments;
  positions = range;
  few = few;
  ordered = refl;
  some = All-nil SomeVariable;
  quantified = record { range = All-nil (λ q. Ranges n q.name); once = tt; reports = omega arith };
  most = omega arith;
  named = λ z. absurd (omega arith);
  ruled = All-nil (Ruled n []);
}

module _ (lines : List (List (List ℕ))) (words : List (List ℕ)) (h : Header) (qs : List Variable) where
  -- A quantifier line.
  pub begun_variables : (k : Kind) (vs : List ℕ) → Begun lines h qs [] → 1 ≤ length vs → Quantified h.length (qs ++ map (variable k) vs) → words ≡ quantifier_line (record { kind = k; variables = vs })
      → Begun (lines ++ words ∷ []) h (qs ++ map (variable k) vs) []
  begun_variables k vs b some good is =
      let q : Quantifier = record { kind = k; variables = vs } in
      let head = header_line h.form h.length h.rules in
      let quants = map quantifier_line b.quantifiers in
      let before : lines ≡ b.comments ++ head ∷ quants =
      b.spelled ∙ ap (λ ls. b.comments ++ head ∷ ls) (append-nil quants) in
      record {
        comments = b.comments;
        quantifiers = b.quantifiers ++ q ∷ [];
        spelled = (λ i. before i ++ is i ∷ []) ∙ append_assoc b.comments (head ∷ quants) (quantifier_line q ∷ [])
            ∙ ap (λ ls. b.comments ++ head ∷ ls) (sym (map_push quantifier_line b.quantifiers q) ∙ sym (append-nil (map quantifier_line (b.quantifiers ++ q ∷ []))));
        commented = b.commented;
        positions = b.positions;
        few = b.few;
        ordered = ap (λ (qs : List Variable). qs ++ map (variable k) vs) b.ordered ∙ sym (order_push b.quantifiers q);
        some = All-push SomeVariable b.quantifiers q b.some some;
        quantified = good;
        most = omega arith;
        named = λ z. absurd (omega arith);
        ruled = All-nil (Ruled h.length (qs ++ map (variable k) vs));
      }

  -- A rule.
  pub begun_rule : (rs : List (List Signed)) (ss : List Signed) → Begun lines h qs rs → length qs ≡ h.length → length rs < h.rules → Ruled h.length qs ss → words ≡ rule_line ss → Begun (lines ++ words ∷ []) h qs (rs ++ ss ∷ [])
  begun_rule rs ss b named more good is =
      let head = header_line h.form h.length h.rules in
      let quants = map quantifier_line b.quantifiers in
      let done = map rule_line rs in
      record {
        comments = b.comments;
        quantifiers = b.quantifiers;
        spelled = (λ i. b.spelled i ++ is i ∷ []) ∙ append_assoc b.comments (head ∷ (quants ++ done)) (rule_line ss ∷ [])
            ∙ ap (λ ls. b.comments ++ head ∷ ls) (append_assoc quants done (rule_line ss ∷ []) ∙ ap (λ ls. quants ++ ls) (sym (map_push rule_line rs ss)));
        commented = b.commented;
        positions = b.positions;
        few = b.few;
        ordered = b.ordered;
        some = b.some;
        quantified = b.quantified;
        most = omega (arith, length_push rs ss);
        named = λ _. named;
        ruled = All-push (Ruled h.length qs) rs ss b.ruled good;
      }

-- A list is empty or has a last element.
last_of : {A : Type 0} (xs : List A) → (xs ≡ []) ⊎ ((front : List A) × (x : A) × (xs ≡ front ++ x ∷ []))
last_of [] = inl refl
last_of (x ∷ xs) = ⊎_elim (λ (e : xs ≡ []). inr ([], x, ap (λ xs. x ∷ xs) e)) (λ l. inr (x ∷ l.0, l.1, ap (λ xs. x ∷ xs) l.2)) (last_of xs)

some_more : {A : Type 0} (ys : List A) (y : A) → [] ≡ ys ++ y ∷ [] → ⊥
some_more [] y e = nil_cons e
some_more (b ∷ ys) y e = nil_cons e

same_last : {A : Type 0} (xs ys : List A) (x y : A) → xs ++ x ∷ [] ≡ ys ++ y ∷ [] → (xs ≡ ys) × (x ≡ y)
same_last [] [] x y e = (refl, heads e)
same_last [] (b ∷ ys) x y e = absurd (some_more ys y (tails e))
same_last (a ∷ xs) [] x y e = absurd (some_more xs x (sym (tails e)))
same_last (a ∷ xs) (b ∷ ys) x y e = let go = same_last xs ys x y (tails e) in ((λ i. heads e i ∷ go.0 i), go.1)

pub all_front : {A : Type 0} (P : A → Type 0) (xs ys : List A) → All P (xs ++ ys) → All P xs × All P ys
all_front P [] ys h = (All-nil P, h)
all_front P (x ∷ xs) ys h = let go = all_front P xs ys (All-tail P x (xs ++ ys) h) in (All-cons P x xs (All-head P x (xs ++ ys) h) go.0, go.1)

-- The last of such lines is the header, a quantifier line, or a rule, and those before it are as they should be too.
pub record HeaderLast (lines : List (List (List ℕ))) (words : List (List ℕ)) (h : Header) (qs : List Variable) (rs : List (List Signed)) : Type 0 where
  pub comments : All Comment lines
  pub is : words ≡ header_line h.form h.length h.rules
  pub positions : Ranges 24 h.length
  pub few : h.rules ≤ 256
  pub none : qs ≡ []
  pub no_rules : rs ≡ []

pub record VariablesLast (lines : List (List (List ℕ))) (words : List (List ℕ)) (h : Header) (qs : List Variable) (rs : List (List Signed)) : Type 0 where
  pub earlier : List Variable
  pub kind : Kind
  pub variables : List ℕ
  pub before : Begun lines h earlier []
  pub is : words ≡ quantifier_line (record { kind = kind; variables = variables })
  pub some : 1 ≤ length variables
  pub named : qs ≡ earlier ++ map (variable kind) variables
  pub quantified : Quantified h.length qs
  pub no_rules : rs ≡ []

pub record RuleLast (lines : List (List (List ℕ))) (words : List (List ℕ)) (h : Header) (qs : List Variable) (rs : List (List Signed)) : Type 0 where
  pub earlier : List (List Signed)
  pub literals : List Signed
  pub before : Begun lines h qs earlier
  pub is : words ≡ rule_line literals
  pub named : length qs ≡ h.length
  pub more : length earlier < h.rules
  pub ruled : Ruled h.length qs literals
  pub rules : rs ≡ earlier ++ literals ∷ []

pub last_line : (lines : List (List (List ℕ))) (words : List (List ℕ)) (h : Header) (qs : List Variable) (rs : List (List Signed)) → Begun (lines ++ words ∷ []) h qs rs
    → HeaderLast lines words h qs rs ⊎ (VariablesLast lines words h qs rs ⊎ RuleLast lines words h qs rs)
last_line lines words h qs rs b =
    ⊎_elim (λ (r : rs ≡ []). ⊎_elim (λ (q : b.quantifiers ≡ []). inl (header_last r q)) (λ q. inr (inl (variables_last r q.0 q.1 q.2))) (last_of b.quantifiers))
    (λ r. inr (inr (rule_last r.0 r.1 r.2)))
    (last_of rs)
  where
    head : List (List ℕ)
    head = header_line h.form h.length h.rules

    header_last : rs ≡ [] → b.quantifiers ≡ [] → HeaderLast lines words h qs rs
    header_last r q =
        let same = same_last lines b.comments words head (b.spelled ∙ (λ i. b.comments ++ head ∷ (map quantifier_line (q i) ++ map rule_line (r i)))) in
        record { comments = subst (All Comment) (sym same.0) b.commented; is = same.1; positions = b.positions; few = b.few; none = b.ordered ∙ ap order q; no_rules = r }

    variables_last : rs ≡ [] → (quants : List Quantifier) (q : Quantifier) → b.quantifiers ≡ quants ++ q ∷ [] → VariablesLast lines words h qs rs
    variables_last r quants q e =
        let named : qs ≡ order quants ++ map (variable q.kind) q.variables = b.ordered ∙ ap order e ∙ order_push quants q in
        let good = subst (Quantified h.length) named b.quantified in
        let some = all_front SomeVariable quants (q ∷ []) (subst (All SomeVariable) e b.some) in
        let same = same_last lines (b.comments ++ head ∷ map quantifier_line quants) words (quantifier_line q)
        (b.spelled ∙ (λ i. b.comments ++ head ∷ (map quantifier_line (e i) ++ map rule_line (r i))) ∙ ap (λ ls. b.comments ++ head ∷ ls) (append-nil (map quantifier_line (quants ++ q ∷ [])) ∙ map_push quantifier_line quants q)
        ∙ sym (append_assoc b.comments (head ∷ map quantifier_line quants) (quantifier_line q ∷ []))) in
        record {
          earlier = order quants;
          kind = q.kind;
          variables = q.variables;
          before = record {
            comments = b.comments;
            quantifiers = quants;
            spelled = same.0 ∙ ap (λ ls. b.comments ++ head ∷ ls) (sym (append-nil (map quantifier_line quants)));
            commented = b.commented;
            positions = b.positions;
            few = b.few;
            ordered = refl;
            some = some.0;
            quantified = record {
              range = (all_front (λ (q : Variable). Ranges h.length q.name) (order quants) (map (variable q.kind) q.variables) good.range).0;
              once = once_front (order quants) (map (variable q.kind) q.variables) good.once;
              reports = front_reports (order quants) (map (variable q.kind) q.variables) good.reports;
            };
            most = omega arith;
            named = λ z. absurd (omega arith);
            ruled = All-nil (Ruled h.length (order quants));
          };
          is = same.1;
          some = All-head SomeVariable q [] some.1;
          named = named;
          quantified = b.quantified;
          no_rules = r;
        }

    rule_last : (earlier : List (List Signed)) (ss : List Signed) → rs ≡ earlier ++ ss ∷ [] → RuleLast lines words h qs rs
    rule_last earlier ss e =
        let ruled = all_front (Ruled h.length qs) earlier (ss ∷ []) (subst (All (Ruled h.length qs)) e b.ruled) in
        let many : length rs ≡ suc (length earlier) = ap length e ∙ (let z : length (earlier ++ ss ∷ []) ≡ suc (length earlier) = omega (arith, length_push earlier ss) in z) in
        let quants = map quantifier_line b.quantifiers in
        let same = same_last lines (b.comments ++ head ∷ (quants ++ map rule_line earlier)) words (rule_line ss)
        (b.spelled ∙ ap (λ (rs : List (List Signed)). b.comments ++ head ∷ (quants ++ map rule_line rs)) e
        ∙ ap (λ ls. b.comments ++ head ∷ (quants ++ ls)) (map_push rule_line earlier ss) ∙ ap (λ ls. b.comments ++ head ∷ ls) (sym (append_assoc quants (map rule_line earlier) (rule_line ss ∷ [])))
        ∙ sym (append_assoc b.comments (head ∷ (quants ++ map rule_line earlier)) (rule_line ss ∷ []))) in
        record {
          earlier = earlier;
          literals = ss;
          before = record {
            comments = b.comments;
            quantifiers = b.quantifiers;
            spelled = same.0;
            commented = b.commented;
            positions = b.positions;
            few = b.few;
            ordered = b.ordered;
            some = b.some;
            quantified = b.quantified;
            most = omega (arith, many, b.most);
            named = λ _. b.named (omega (arith, many));
            ruled = ruled.0;
          };
          is = same.1;
          named = b.named (omega (arith, many));
          more = omega (arith, many, b.most);
          ruled = All-head (Ruled h.length qs) ss [] ruled.1;
          rules = e;
        }

-- What rules keep to, one by one, and of all of them.
pub all_known : (n : ℕ) (qs : List Variable) (rs : List (List Signed)) → All (Ruled n qs) rs → All (All (λ l. Ranges n l.variable)) rs
all_known n qs rs h = All-weaker (Ruled n qs) (All (λ l. Ranges n l.variable)) (λ ss r. r.known) rs h

pub all_distinct : (n : ℕ) (qs : List Variable) (rs : List (List Signed)) → All (Ruled n qs) rs → All Distinct (map (map (placed qs)) rs)
all_distinct n qs [] h = All-nil Distinct
all_distinct n qs (ss ∷ rs) h = All-cons Distinct (map (placed qs) ss) (map (map (placed qs)) rs) (All-head (Ruled n qs) ss rs h).distinct (all_distinct n qs rs (All-tail (Ruled n qs) ss rs h))

pub all_ruled : (n : ℕ) (qs : List Variable) (rs : List (List Signed)) → All (All (λ l. Ranges n l.variable)) rs → All Distinct (map (map (placed qs)) rs) → All (Ruled n qs) rs
all_ruled n qs [] k d = All-nil (Ruled n qs)
all_ruled n qs (ss ∷ rs) k d =
    let Known : List Signed → Type 0 = All (λ l. Ranges n l.variable) in
    let later = map (map (placed qs)) rs in
    All-cons (Ruled n qs) ss rs (record { known = All-head Known ss rs k; distinct = All-head Distinct (map (placed qs) ss) later d }) (all_ruled n qs rs (All-tail Known ss rs k) (All-tail Distinct (map (placed qs) ss) later d))
