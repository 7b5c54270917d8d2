-- Where a search puts records rises with its order.
use Rattle.std.proofs.Common.{◌≡◌, ℕ, zero, suc, ◌+◌, ◌-◌, ◌*◌, ◌/◌, ◌^◌, ◌<◌, ◌≤◌, Bool, true, false, cond, ◌⊎◌, inl, inr, nat_lt, List, length, sym, ap, ◌∙◌, subst, ⊎_elim, arith}
use Rattle.std.proofs.Math.Nat.{add-mul, mul-div_left, mul-lt-mul_of_pos_right, lt_of_mul-lt-mul_right}
use Rattle.std.proofs.lemmas.Bool.{cases_lt, lt-ltb, le-ltb}
use Rattle.std.proofs.lemmas.Grind.{div_ceil_times}
use Rattle.std.proofs.lemmas.Nat.{pow-add, pow_pos}
use Rattle.std.specs.Int.{div_ceil}
use Rattle.prefix.specs.Kinds.{kind_at, is_reply, report_count, reports_before}
use Rattle.prefix.specs.Points.{points_at, sum_to, point_count}
use Rattle.prefix.specs.declared.kind.Kind.{Kind}
use Rattle.prefix.proofs.Positions.{before_le}
use Rattle.prefix.proofs.Replies.{reply_kind, reply_within, reply_from_one}
use Rattle.book.specs.RecordPlaces.{later_settings, met_below, met_before, place_of}
use Rattle.book.proofs.RecordPlaces.{some_later}

-- A sum is at most another where each term is, and below it where one term also is below.
sum_le : (f g : ℕ → ℕ) (n : ℕ) → ((i : ℕ) → f i ≤ g i) → sum_to f n ≤ sum_to g n
sum_le f g zero h = omega arith
sum_le f g (suc n) h = omega (arith, sum_le f g n h, h (suc n))

sum_lt : (f g : ℕ → ℕ) (n j : ℕ) → ((i : ℕ) → f i ≤ g i) → 1 ≤ j → j ≤ n → f j < g j → sum_to f n < sum_to g n
sum_lt f g zero j h a b l = absurd (omega arith)
sum_lt f g (suc n) j h a b l =
    ⊎_elim (λ (q : j < suc n). omega (arith, sum_lt f g n j h a (omega arith) l, h (suc n)))
    (λ (q : suc n ≤ j). let e : j ≡ suc n = omega arith in omega (arith, sum_le f g n h, subst (λ (i : ℕ). f i < g i) e l))
    (cases_lt j (suc n))

-- Division rounded up, as the least factor that reaches the number.
ceil_reaches : (a d : ℕ) → 1 ≤ d → a ≤ div_ceil a d * d
ceil_reaches a d h = (div_ceil_times a d h).0

ceil_least : (a d n : ℕ) → 1 ≤ d → a ≤ n * d → div_ceil a d ≤ n
ceil_least a d n h l =
    let next : div_ceil a d * d < (n + 1) * d = omega (arith, (div_ceil_times a d h).1, add-mul n 1 d) in
    let less : div_ceil a d < n + 1 = lt_of_mul-lt-mul_right d next in
    omega (arith, less)

ceil_more : (a d s : ℕ) → 1 ≤ d → s * d < a → s < div_ceil a d
ceil_more a d s h l =
    let more : s * d < div_ceil a d * d = omega (arith, ceil_reaches a d h) in
    lt_of_mul-lt-mul_right d more

ceil_grows : (a b d : ℕ) → 1 ≤ d → a ≤ b → div_ceil a d ≤ div_ceil b d
ceil_grows a b d h l = ceil_least a d (div_ceil b d) h (omega (arith, ceil_reaches b d h))

-- Before the point of position j and setting f a search also meets, in setting f itself, those of earlier positions.
asked : (i j f : ℕ) → ((i < j) × (cond (nat_lt i j) (f + 1) f ≡ f + 1)) ⊎ ((j ≤ i) × (cond (nat_lt i j) (f + 1) f ≡ f))
asked i j f =
    ⊎_elim (λ (l : i < j). inl (l, ap (λ (b : Bool). cond b (f + 1) f) (lt-ltb i j l)))
    (λ (l : j ≤ i). inr (l, ap (λ (b : Bool). cond b (f + 1) f) (le-ltb i j l)))
    (cases_lt i j)

asked_grows : (i j k f g : ℕ) → (f < g) ⊎ ((f ≡ g) × (j < k)) → cond (nat_lt i j) (f + 1) f ≤ cond (nat_lt i k) (g + 1) g
asked_grows i j k f g o = omega (arith, asked i j f, asked i k g, o)

asked_more : (j k f g : ℕ) → (f < g) ⊎ ((f ≡ g) × (j < k)) → f < cond (nat_lt j k) (g + 1) g
asked_more j k f g o = omega (arith, asked j k g, o)

asked_own : (k f : ℕ) → cond (nat_lt k k) (f + 1) f ≡ f
asked_own k f = omega (arith, asked k k f)

asked_most : (i k n m : ℕ) → n < m → cond (nat_lt i k) (n + 1) n ≤ m
asked_most i k n m h = omega (arith, asked i k n)

cond_le : (b : Bool) (x y : ℕ) → x ≤ y → cond b x 0 ≤ cond b y 0
cond_le true x y h = h
cond_le false x y h = omega arith

cond_yes : (b : Bool) (x : ℕ) → b ≡ true → cond b x 0 ≡ x
cond_yes b x e = ap (λ (b : Bool). cond b x 0) e

module _ (ks : List Kind) where
  pub later_is : (k : ℕ) → later_settings ks k ≡ 2 ^ (report_count ks - reports_before ks k)
  later_is k =
      let u : ℕ = reports_before ks k in
      let r : report_count ks ≡ (report_count ks - u) + u = omega (arith, before_le ks k) in
      ap (λ (i : ℕ). 2 ^ i / 2 ^ u) r ∙ ap (λ (i : ℕ). i / 2 ^ u) (pow-add 2 (report_count ks - u) u) ∙ mul-div_left (2 ^ (report_count ks - u)) (pow_pos u)

  -- The settings before a position times those of the reports from it on are all the settings.
  whole : (k : ℕ) → 2 ^ reports_before ks k * later_settings ks k ≡ 2 ^ report_count ks
  whole k =
      let u : ℕ = reports_before ks k in
      let r : u + (report_count ks - u) ≡ report_count ks = omega (arith, before_le ks k) in
      ap (λ (i : ℕ). 2 ^ u * i) (later_is k) ∙ sym (pow-add 2 u (report_count ks - u)) ∙ ap (λ (i : ℕ). 2 ^ i) r

  met_grows : (i a b : ℕ) → a ≤ b → met_below ks a i ≤ met_below ks b i
  met_grows i a b h = cond_le (is_reply ks i) _ _ (ceil_grows a b (later_settings ks i) (some_later ks i) h)

  -- Of its own position a search has met the points of smaller setting numbers.
  met_own : (k s : ℕ) → is_reply ks k ≡ true → met_before ks k (s * later_settings ks k) k ≤ s
  met_own k s r =
      let n : ℕ = s * later_settings ks k in
      let met : ℕ = cond (nat_lt k k) (n + 1) n in
      let few : div_ceil met (later_settings ks k) ≤ s = ceil_least met (later_settings ks k) s (some_later ks k) (omega (arith, asked_own k n)) in
      omega (arith, few, cond_yes (is_reply ks k) (div_ceil met (later_settings ks k)) r)

  met_more : (j s n : ℕ) → is_reply ks j ≡ true → s * later_settings ks j < n → s < met_below ks n j
  met_more j s n r l =
      omega (arith, cond_yes (is_reply ks j) (div_ceil n (later_settings ks j)) r, ceil_more n (later_settings ks j) s (some_later ks j) l)

  met_most : (i n : ℕ) → n ≤ 2 ^ report_count ks → met_below ks n i ≤ points_at ks i
  met_most i n h =
      cond_le (is_reply ks i) _ _ (ceil_least n (later_settings ks i) (2 ^ reports_before ks i) (some_later ks i) (omega (arith, whole i)))

  from_one : (k : ℕ) → is_reply ks k ≡ true → 1 ≤ k
  from_one k r = reply_from_one ks k (reply_kind (kind_at ks k) r)

  within : (k : ℕ) → is_reply ks k ≡ true → k ≤ length ks
  within k r = reply_within ks k (reply_kind (kind_at ks k) r)

  -- A point that a search comes to later has a later place: it comes in the order of settings, and in one setting in that of positions.
  pub place_rises : (j k s t : ℕ) → is_reply ks j ≡ true → (s * later_settings ks j < t * later_settings ks k) ⊎ ((s * later_settings ks j ≡ t * later_settings ks k) × (j < k)) → place_of ks j s < place_of ks k t
  place_rises j k s t r o =
      let f : ℕ = s * later_settings ks j in
      let g : ℕ = t * later_settings ks k in
      let more : s < met_before ks k g j = met_more j s (cond (nat_lt j k) (g + 1) g) r (asked_more j k f g o) in
      sum_lt (met_before ks j f) (met_before ks k g) (length ks) j (λ i. met_grows i _ _ (asked_grows i j k f g o)) (from_one j r) (within j r) (omega (arith, met_own j s r, more))

  -- The place of a point is below the number of points.
  pub place_inside : (k s : ℕ) → is_reply ks k ≡ true → s < 2 ^ reports_before ks k → place_of ks k s < point_count ks
  place_inside k s r h =
      let n : ℕ = s * later_settings ks k in
      let small : n < 2 ^ report_count ks = omega (arith, mul-lt-mul_of_pos_right {k = later_settings ks k} h (some_later ks k), whole k) in
      let own : met_before ks k n k < points_at ks k = omega (arith, met_own k s r, cond_yes (is_reply ks k) (2 ^ reports_before ks k) r) in
      sum_lt (met_before ks k n) (points_at ks) (length ks) k (λ i. met_most i _ (asked_most i k n (2 ^ report_count ks) small)) (from_one k r) (within k r) own
