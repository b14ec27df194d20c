-- The prices that a text states.
use Rattle.std.proofs.Common.{◌≡◌, ℕ, zero, suc, ◌+◌, ◌-◌, ◌^◌, ◌<◌, ◌≤◌, Bool, true, false, cond, List, [], ◌∷◌, length, refl, sym, ◌∙◌, ap, subst, inl, inr, arith, Option, Some, None, get_or}
use Rattle.std.specs.Prelude.{◌&&◌, ◌==◌, All, map, filter_map, nat_lt}
use Rattle.std.specs.List.{AllByRecursion, cons_option, range_with_len, sum_by}
use Rattle.std.proofs.lemmas.Bool.{cases_eq, cases_lt, eq-eqb, lt-ltb, ne_eqb, both_ways}
use Rattle.std.proofs.lemmas.List.Elements.{All-from_recursion}
use Rattle.std.proofs.lemmas.List.Sums.{sum_by-cons}
use Rattle.std.proofs.lemmas.List.FromFn.{get_or-map-range_with_len, length-map-range_with_len}
use Rattle.std.specs.Option.{option_map}
use Rattle.pb_records.proofs.Lists.{sum-mapped}
use Rattle.pb_records.proofs.Each.{all-every, all-map}
use Rattle.pb_election.specs.Instance.{Instance, IsProject, IsSet, IsVoter, all_voters, projects, voters}
use Rattle.pb_records.specs.Records.{Field, Rec}
use Rattle.pb_election.proofs.Sets.{set-lower}
use Rattle.pb_certificate.specs.Prices.{ArePrices, IsPaymentMap, Prices, numerator_in, payment}
use Rattle.pb_certificate.specs.Fields.{fields, whole_within}
use Rattle.pb_certificate.specs.Prices.Text.{IsPriceText, Payment, above_0, payment_by, payment_of, payments_stated, stated}

-- the pairs of a range of projects with their numerators, where these aren't 0
abbrev pub pairs : (ℕ → ℕ) → ℕ → ℕ → List (ℕ × ℕ)
pairs f a n = filter_map (λ j. above_0 j (f j)) (range_with_len a n)

abbrev pub paid_projects : List (ℕ × ℕ) → List ℕ
paid_projects qs = map (λ q. q.0) qs

pairs-rise : (f : ℕ → ℕ) (n a high : ℕ) → a + n ≤ high + 1 → IsSet a high (paid_projects (pairs f a n))
pairs-rise f zero a high b = tt
pairs-rise f (suc n) a high b = grind (arith, set-lower, pairs-rise f n (a + 1) high)

pairs-all : (P : ℕ × ℕ → Type 0) (f : ℕ → ℕ) (n a : ℕ) → ((j : ℕ) → 0 < f j → P (j, f j))
    → AllByRecursion P (pairs f a n)
pairs-all P f zero a h = tt
pairs-all P f (suc n) a h = grind (arith, pairs-all P f n (a + 1) h)

-- a project before a range isn't among those that are paid for
numerator-past : (f : ℕ → ℕ) (n a j : ℕ) → j < a → numerator_in (pairs f a n) j ≡ 0
numerator-past f zero a j h = refl
numerator-past f (suc n) a j h = grind (arith, numerator-past f n (a + 1) j)

numerator-at : (f : ℕ → ℕ) (n a j : ℕ) → a ≤ j → j < a + n → numerator_in (pairs f a n) j ≡ f j
numerator-at f zero a j low high = absurd (omega arith)
numerator-at f (suc n) a j low high = elim (cases_eq a j) [
  | inl e ↦ here e (nat_lt 0 (f a)) refl
  | inr e ↦ later e (nat_lt 0 (f a)) (numerator-at f n (a + 1) j (omega arith) (omega arith))
]
  where
    here : a ≡ j → (r : Bool) → nat_lt 0 (f a) ≡ r
        → numerator_in (cons_option (cond r (Some (a, f a)) None) (pairs f (a + 1) n)) j ≡ f j
    here e true k = rw (eq-eqb a j e) (ap f e)
    here e false k = numerator-past f n (a + 1) j (omega arith)
        ∙ (let none : f a ≤ 0 = elim (cases_lt 0 (f a))
        [ inl some ↦ absurd (both_ways (nat_lt 0 (f a)) k (lt-ltb 0 (f a) some)) | inr none ↦ none ] in let same : f a
        ≡ f j = ap f e in omega arith)

    later : (a ≡ j → ⊥) → (r : Bool) → numerator_in (pairs f (a + 1) n) j ≡ f j
        → numerator_in (cons_option (cond r (Some (a, f a)) None) (pairs f (a + 1) n)) j ≡ f j
    later e true rest = rw (ne_eqb a j e) rest
    later e false rest = rest

pub within-some : (least most : ℕ) (f : Field) (n : ℕ) → whole_within least most f ≡ Some n → (least ≤ n) × (n ≤ most)
within-some least most f n h = grind arith

pub map-some : {A B : Type 0} (g : A → B) (o : Option A) (b : B) → option_map g o ≡ Some b
    → (a : A) × (o ≡ Some a) × (g a ≡ b)
map-some g None b h = cc
map-some g (Some a) b h = (a, refl, cc)

payment-bounded : (e : Instance) (fs : List Field) (q : Payment) → payment_by e fs ≡ Some q → q.numerator ≤ 10 ^ 21
payment-bounded e fs q h = grind arith

rows-bounded : (e : Instance) (rows : List Rec) (qs : List Payment) → map (payment_of e) rows ≡ map Some qs
    → AllByRecursion (λ q. q.numerator ≤ 10 ^ 21) qs
rows-bounded e [] [] h = tt
rows-bounded e [] (q ∷ qs) h = cc
rows-bounded e (r ∷ rs) [] h = cc
rows-bounded e (r ∷ rs) (q ∷ qs) h =
    let first : payment_by e (fields r) ≡ Some q = cc in
    let rest : map (payment_of e) rs ≡ map Some qs = cc in
    (payment-bounded e (fields r) q first, rows-bounded e rs qs rest)

stated-bounded : (qs : List Payment) (i j : ℕ) → AllByRecursion (λ q. q.numerator ≤ 10 ^ 21) qs
    → stated qs i j ≤ 10 ^ 21
stated-bounded [] i j h = omega arith
stated-bounded (q ∷ qs) i j h = go ((q.voter == i) && (q.project == j)) h.0 (stated-bounded qs i j h.1)
  where
    go : (b : Bool) → q.numerator ≤ 10 ^ 21 → stated qs i j ≤ 10 ^ 21 → cond b q.numerator (stated qs i j) ≤ 10 ^ 21
    go true here rest = here
    go false here rest = rest

-- what one voter is stated to pay is a map
pub map-stated : (m : ℕ) (qs : List Payment) (i : ℕ) → AllByRecursion (λ q. q.numerator ≤ 10 ^ 21) qs
    → IsPaymentMap m (pairs (stated qs i) 1 m)
map-stated m qs i bounded = record {
  projects_rise = pairs-rise (stated qs i) m 1 m (omega arith);
  none_zero = All-from_recursion (λ q. 0 < q.1) (pairs (stated qs i) 1 m)
      (pairs-all (λ q. 0 < q.1) (stated qs i) m 1 (λ j some. some));
  none_large = All-from_recursion (λ q. q.1 ≤ 10 ^ 21) (pairs (stated qs i) 1 m)
      (pairs-all (λ q. q.1 ≤ 10 ^ 21) (stated qs i) m 1 (λ j some. stated-bounded qs i j bounded));
}

-- a row raises the number of payments by one at most

-- where two functions differ at one project alone, the pairs of the one are at most one more
pairs-same : (f g : ℕ → ℕ) (k : ℕ) → ((j : ℕ) → (j ≡ k → ⊥) → f j ≡ g j) → (n a : ℕ) → k < a → pairs f a n ≡ pairs g a n
pairs-same f g k same zero a past = refl
pairs-same f g k same (suc n) a past = grind (arith, pairs-same f g k same n (a + 1))

pairs-most-one : (f g : ℕ → ℕ) (k : ℕ) → ((j : ℕ) → (j ≡ k → ⊥) → f j ≡ g j) → (n a : ℕ)
    → length (pairs f a n) ≤ length (pairs g a n) + 1
pairs-most-one f g k same zero a = omega arith
pairs-most-one f g k same (suc n) a = grind (arith, cases_eq, pairs-same, pairs-most-one f g k same n (a + 1))

-- likewise a sum over voters of counts that differ by one at one voter
sum-same : (f g : ℕ → ℕ) (k : ℕ) → ((i : ℕ) → (i ≡ k → ⊥) → f i ≡ g i) → (n a : ℕ) → k < a
    → sum_by f (range_with_len a n) ≡ sum_by g (range_with_len a n)
sum-same f g k same zero a past = refl
sum-same f g k same (suc n) a past = grind (arith, sum_by-cons, sum-same f g k same n (a + 1))

sum-most-one : (f g : ℕ → ℕ) (k : ℕ) → ((i : ℕ) → (i ≡ k → ⊥) → f i ≡ g i) → f k ≤ g k + 1 → (n a : ℕ)
    → sum_by f (range_with_len a n) ≤ sum_by g (range_with_len a n) + 1
sum-most-one f g k same one zero a = omega arith
sum-most-one f g k same one (suc n) a =
    grind (arith, sum_by-cons, cases_eq, sum-same, sum-most-one f g k same one n (a + 1))

-- how many payments are stated for a voter
count_of : Instance → List Payment → ℕ → ℕ
count_of e qs i = length (payments_stated e qs i)

pairs-none : (n a : ℕ) → pairs (λ j. 0) a n ≡ []
pairs-none zero a = refl
pairs-none (suc n) a = pairs-none n (a + 1)

sum-none : (f : ℕ → ℕ) → ((i : ℕ) → f i ≡ 0) → (n a : ℕ) → sum_by f (range_with_len a n) ≡ 0
sum-none f none zero a = refl
sum-none f none (suc n) a = sum_by-cons f a (range_with_len (a + 1) n) ∙ rw (none a, sum-none f none n (a + 1)) refl

stated-past : (q : Payment) (qs : List Payment) (i j : ℕ) → (j ≡ q.project → ⊥) → stated (q ∷ qs) i j ≡ stated qs i j
stated-past q qs i j other = grind arith

count-other : (e : Instance) (q : Payment) (qs : List Payment) (i : ℕ) → (i ≡ q.voter → ⊥)
    → count_of e (q ∷ qs) i ≡ count_of e qs i
unfolding count_of
count-other e q qs i other = grind arith

few-stated : (e : Instance) (qs : List Payment) → sum_by (count_of e qs) (all_voters e) ≤ length qs
unfolding count_of
few-stated e [] = let none = sum-none (count_of e []) (λ i. ap length (pairs-none (projects e) 1)) (voters e) 1 in
    omega arith
few-stated e (q ∷ qs) =
    let more = sum-most-one (count_of e (q ∷ qs)) (count_of e qs) q.voter (count-other e q qs)
    (pairs-most-one (stated (q ∷ qs) q.voter) (stated qs q.voter) q.project
    (λ j other. stated-past q qs q.voter j other) (projects e) 1) (voters e) 1 in
    let rest = few-stated e qs in
    omega arith

pub stated-length : {A : Type 0} (f : Rec → Option A) (rows : List Rec) (xs : List A) → map f rows ≡ map Some xs
    → length xs ≡ length rows
stated-length f [] [] h = refl
stated-length f [] (x ∷ xs) h = cc
stated-length f (r ∷ rs) [] h = cc
stated-length f (r ∷ rs) (x ∷ xs) h = let rest : map f rs ≡ map Some xs = cc in let same = stated-length f rs xs rest in
    omega arith

pub states-prices : (recs : List Rec) (e : Instance) (p : Prices) → IsPriceText recs e p → ArePrices e p
unfolding count_of
states-prices recs e p t =
    let bounded : AllByRecursion (λ q. q.numerator ≤ 10 ^ 21) t.payments =
    rows-bounded e t.rows t.payments t.each_row in
    let maps_stated : All (IsPaymentMap (projects e)) (map (payments_stated e t.payments) (all_voters e)) =
    All-from_recursion (IsPaymentMap (projects e)) (map (payments_stated e t.payments) (all_voters e))
    (all-map (IsPaymentMap (projects e)) (payments_stated e t.payments) (all_voters e)
    (all-every _ (all_voters e) (λ i. map-stated (projects e) t.payments i bounded))) in
    let count : sum_by length p.payments ≡ sum_by (count_of e t.payments) (all_voters e) =
    ap (sum_by length) t.same_payments ∙ sum-mapped length (payments_stated e t.payments) (all_voters e) in
    let rows : length t.payments ≡ length t.rows = stated-length (payment_of e) t.rows t.payments t.each_row in
    let few = few-stated e t.payments in
    record {
      system = record {
        denominator = within-some 1 (10 ^ 9) t.is_denominator.0 p.denominator t.is_denominator.2;
        budget = (within-some 0 (10 ^ 21) t.is_budget.0 p.budget t.is_budget.2).1;
        maps = subst (λ m. All (IsPaymentMap m) p.payments) (sym t.each_project)
            (subst (All (IsPaymentMap (projects e))) (sym t.same_payments) maps_stated);
        few = omega arith;
      };
      fits = record {
        each_voter = ap length t.same_payments ∙ length-map-range_with_len (payments_stated e t.payments) 1 (voters e);
        each_project = t.each_project;
      };
    }

pub stated-payment : (recs : List Rec) (e : Instance) (p : Prices) (t : IsPriceText recs e p) (i j : ℕ) → IsVoter e i
    → IsProject e j → payment p i j ≡ stated t.payments i j
stated-payment recs e p t i j v project =
    let row : get_or (map (payments_stated e t.payments) (range_with_len 1 (voters e))) (i - 1) []
    ≡ payments_stated e t.payments i =
    get_or-map-range_with_len (payments_stated e t.payments) 1 (voters e) (i - 1) i [] (omega arith)
    (omega arith) in
    ap (λ (rows : List (List (ℕ × ℕ))). numerator_in (get_or rows (i - 1) []) j) t.same_payments
    ∙ ap (λ qs. numerator_in qs j) row ∙ numerator-at (stated t.payments i) (projects e) 1 j project.0 (omega arith)
