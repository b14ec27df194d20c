-- The first failure is that of the first condition that is false, of those that the mode asks for.
use Rattle.std.proofs.Common.{◌≡◌, ℕ, zero, suc, ◌+◌, ◌*◌, ◌<◌, ◌≤◌, Bool, true, false, cond, List, [], ◌∷◌, ◌++◌, eqb, get_or, refl, sym, ◌∙◌, ap, subst, inl, inr, arith}
use Rattle.std.specs.Prelude.{ℤ, pos, ◌↔◌, ◌≢◌, ◌⊎◌, ◌<ℤ◌, ◌≤ℤ◌, ◌&&◌, if◌then◌else◌, Option, Some, None, filter, int_lt, map, nat_le, nat_lt, not, slice_get}
use Rattle.std.specs.Bool.{IsFalse}
use Rattle.std.proofs.lemmas.Bool.{and_cases, and_left, and_parts, and_right, cases_Bool, cases_lt, eqb-false, false≢true, le-leb, leb-false, leb-true, lt-leb, lt-ltb, ltb-false, ltb-true, ne_eqb, not-true}
use Rattle.std.proofs.lemmas.Int.{ints}
use Rattle.std.proofs.lemmas.List.{append_assoc, append-nil as append-none}
use Rattle.pb_election.specs.Instance.{Instance, IsProject, IsVoter, all_projects, approves, cost_of, projects, supporters, voters}
use Rattle.pb_certificate.specs.Prices.{Prices, payment}
use Rattle.pb_cohesion.specs.Amounts.{beta, budget_limit, cost, left, paid, spent}
use Rattle.pb_cohesion.specs.Conditions.{Cover, culprits_of_C1, culprits_of_C2, culprits_of_C3, culprits_of_C4, culprits_of_C5, culprits_of_Exhaustive, culprits_of_S5, most_of, sum_ℤ}
use Rattle.pb_cohesion.specs.Outcome.{total}
use Rattle.pb_cohesion.proofs.Amounts.{int_lt-true}
use Rattle.pb_cohesion.proofs.Culprits.{C1-iff, C2-iff, C3-iff, C4-iff, C5-iff, Exhaustive-iff, S5-iff, append-nil, filter-nil, first-none, if-nil, map-nil, when-nil, wrong}
use Rattle.pb_price.specs.declared.Failure.{Failure}
use Rattle.pb_price.specs.declared.Failure.TheVariants as failure
use Rattle.pb_cohesion.specs.declared.Mode.{Mode}
use Rattle.pb_price.specs.First.{First, failures_of, failures_of_budgets, failures_of_supporters}
use Rattle.pb_price.specs.Supports.{Supports}
use Rattle.pb_price.specs.FirstFalse.{AsksFor, FirstHold, IsFalseAt, IsFirstFalse, IsLowestPair, order}
use Rattle.pb_price.proofs.Lowest.{first-of-lists, first-of-mapped, first-of-two, lowest-funded, lowest-of, lowest-pair-same, lowest-same, lowest-unfunded, lowest-voter}

-- tests and what they say
is-le : (a b : ℕ) → (nat_le a b ≡ true) ↔ (a ≤ b)
is-le a b = (leb-true a b, le-leb a b)

is-lt : (a b : ℕ) → (nat_lt a b ≡ true) ↔ (a < b)
is-lt a b = (ltb-true a b, lt-ltb a b)

pub is-less : (a b : ℤ) → (int_lt a b ≡ true) ↔ (a <ℤ b)
is-less a b = (int_lt-true a b, λ h. grind (arith, ints))

is-other : (a b : ℕ) → (not (eqb a b) ≡ true) ↔ (a ≢ b)
is-other a b = (λ h. eqb-false a b (not-true _ h), λ h. ap not (ne_eqb a b h))

is-some : (a : ℕ) → (not (eqb a 0) ≡ true) ↔ (0 < a)
is-some a = grind arith

abbrev joined : List (List Failure) → List Failure
joined [] = []
joined (xs ∷ xss) = xs ++ joined xss

one-more : (xs : List Failure) (xss : List (List Failure)) (j : ℕ) → xs ≡ []
    → ((k : ℕ) → k < j → get_or xss k [] ≡ []) → (k : ℕ) → k < suc j → get_or (xs ∷ xss) k [] ≡ []
one-more xs xss j h none zero low = h
one-more xs xss j h none (suc k) low = none k (omega arith)

-- the first element of all lists is that of one of them, and those before it are empty
first-of-joined : (xss : List (List Failure)) (f : Failure) → slice_get (joined xss) 0 ≡ Some f
    → (j : ℕ) × (slice_get (get_or xss j []) 0 ≡ Some f) × ((k : ℕ) → k < j → get_or xss k [] ≡ [])
first-of-joined [] f is = cc
first-of-joined (xs ∷ xss) f is = elim (first-of-two xs (joined xss) f is) [
  | inl here ↦ (0, here, λ k low. absurd (omega arith))
  | inr later ↦
      let found = first-of-joined xss f later.1 in
      (suc found.0, found.1, one-more xs xss found.0 later.0 found.2)
]

joined-nil : (xss : List (List Failure)) → joined xss ≡ [] → (k : ℕ) → get_or xss k [] ≡ []
joined-nil (xs ∷ xss) h zero = (append-nil xs (joined xss) h).0
joined-nil (xs ∷ xss) h (suc k) = joined-nil xss (append-nil xs (joined xss) h).1 k
joined-nil [] h _ = refl

-- the first element of a list that a test chooses
of-one : (b : Bool) (x f : Failure) → slice_get (cond b (x ∷ []) []) 0 ≡ Some f → (b ≡ true) × (x ≡ f)
of-one true x f h = (refl, cc)
of-one false x f h = cc

of-chosen : (b : Bool) (xs : List Failure) (f : Failure) → slice_get (cond b xs []) 0 ≡ Some f
    → (b ≡ true) × (slice_get xs 0 ≡ Some f)
of-chosen true xs f h = (refl, h)
of-chosen false xs f h = cc

-- one of two lists is empty where the chosen one is
choice-nil : {A : Type 0} (b : Bool) (xs ys : List A)
    → (cond b xs ys ≡ []) ↔ ((b ≡ true → xs ≡ []) × (b ≡ false → ys ≡ []))
choice-nil true xs ys = (λ h. (λ e. h, λ e. cc), λ h. h.0 refl)
choice-nil false xs ys = (λ h. (λ e. cc, λ e. h), λ h. h.1 refl)

-- voter i pays for project c and doesn't approve it
abbrev PaysWrongly : Instance → Prices → ℕ → ℕ → Type 0
PaysWrongly e p i c = IsVoter e i × IsProject e c × (0 < payment p i c) × IsFalse (approves e i c)

wrong-so : (e : Instance) (p : Prices) (i c : ℕ) → (wrong e p i c ≡ true)
    ↔ ((0 < payment p i c) × IsFalse (approves e i c))
wrong-so e p i c = grind arith

lowest-pair : (e : Instance) (p : Prices) (i c : ℕ) → slice_get (culprits_of_C1 e p) 0 ≡ Some (i, c)
    → IsLowestPair (PaysWrongly e p) i c
lowest-pair e p i c h =
    let found =
    first-of-lists (λ j. map (λ k. (j, k)) (filter (wrong e p j) (all_projects e))) (voters e) 1 (i, c) h in
    let row = first-of-mapped (λ k. (found.0, k)) (filter (wrong e p found.0) (all_projects e)) (i, c) found.3 in
    let voter : IsVoter e found.0 = (found.1, omega arith) in
    subst (λ (q : ℕ × ℕ). IsLowestPair (PaysWrongly e p) q.0 q.1) row.2 (
      lowest-of (wrong e p found.0) (projects e) (PaysWrongly e p found.0)
          (λ k. (
            λ t. let so = (wrong-so e p found.0 k).0 t.2 in (voter, (t.0, t.1), so.0, so.1),
            λ t. (t.1.0, t.1.1, (wrong-so e p found.0 k).1 (t.2, t.3)),
          )) row.0 row.1,
      λ j d low t.
          absurd (false≢true (sym (filter-nil (wrong e p j) (projects e) 1
          (map-nil (λ k. (j, k)) (filter (wrong e p j) (all_projects e)) (found.4 j t.0.0 low))
          d t.1.0 (omega arith)) ∙ (wrong-so e p j d).1 (t.2, t.3))),
    )

less-or-not : (a b : ℤ) → a <ℤ b → b ≤ℤ a → ⊥
less-or-not a b h k = omega (arith, ints, h, k)

order-most : (f : Failure) → order f ≤ 7
order-most failure.Feasible = omega arith
order-most f = omega arith

module _ (m : Mode) (e : Instance) (w : List Bool) (p : Prices) where
  -- the failures of each condition, in the order of the conditions
  abbrev lists_of : List (List Failure)
  lists_of =
      (if nat_lt e.limit (total e w) then failure.Feasible ∷ [] else [])
      ∷ (if m.exhaustive then map failure.Exhaustive (culprits_of_Exhaustive e w) else [])
      ∷ failures_of_budgets m e p
      ∷ map (λ q. failure.C1 q.0 q.1) (culprits_of_C1 e p)
      ∷ map failure.C2 (culprits_of_C2 e p)
      ∷ map failure.C3 (culprits_of_C3 e w p)
      ∷ map failure.C4 (culprits_of_C4 e w p)
      ∷ failures_of_supporters m e w p
      ∷ []

  joined-is : failures_of m e w p ≡ joined lists_of
  joined-is = simp (append_assoc, append-none) refl

  -- a failure of the condition of order n, which the mode asks for and which is false there
  record IsOf (n : ℕ) (f : Failure) : Type 0 where
    here : order f ≡ n
    asked : AsksFor m f
    false_there : IsFalseAt e w p f

  row : {n : ℕ} {f : Failure} → order f ≡ n → AsksFor m f → IsFalseAt e w p f → IsOf n f
  row here asked false_there = record { here = here; asked = asked; false_there = false_there }

  of-mapped : {A : Type 0} (n : ℕ) (g : A → Failure) (xs : List A)
      → ((a : A) → slice_get xs 0 ≡ Some a → IsOf n (g a)) → (f : Failure) → slice_get (map g xs) 0 ≡ Some f → IsOf n f
  of-mapped n g xs each f h =
      let found = first-of-mapped g xs f h in subst (λ x. IsOf n x) found.2 (each found.0 found.1)

  -- so much of their money the supporters have for project k that it is more than its cost
  abbrev offers_more : (ℕ → ℤ) → ℕ → Type 0
  offers_more amount k = pos (cost e p k) <ℤ sum_ℤ amount (supporters e k)

  of-supporters : (f : Failure) (b : Bool) → m.stable ≡ b
      → slice_get (cond b (map failure.S5 (culprits_of_S5 e w p)) (map failure.C5 (culprits_of_C5 e w p))) 0 ≡ Some f
      → IsOf 7 f
  of-supporters f true is h = of-mapped 7 failure.S5 (culprits_of_S5 e w p)
      (λ c first. row refl is (lowest-unfunded e w _ (offers_more (most_of e p)) (λ k. is-less _ _) c first)) f h
  of-supporters f false is h = of-mapped 7 failure.C5 (culprits_of_C5 e w p)
      (λ c first. row refl is (lowest-unfunded e w _ (offers_more (left e p)) (λ k. is-less _ _) c first)) f h

  -- the first element of each list is such a failure
  of-list : (n : ℕ) (f : Failure) → slice_get (get_or lists_of n []) 0 ≡ Some f → IsOf n f
  of-list zero f h =
      let found = of-one (nat_lt e.limit (total e w)) failure.Feasible f h in
      subst (λ x. IsOf 0 x) found.1 (row refl tt (ltb-true e.limit (total e w) found.0))
  of-list (suc zero) f h =
      let chosen = of-chosen m.exhaustive (map failure.Exhaustive (culprits_of_Exhaustive e w)) f h in
      of-mapped 1 failure.Exhaustive (culprits_of_Exhaustive e w) (λ c first. row refl chosen.0
      (lowest-unfunded e w _ (λ k. total e w + cost_of e k ≤ e.limit) (λ k. is-le _ _) c first)) f chosen.1
  of-list (suc (suc zero)) f h =
      let found = of-one (m.cover && nat_le (voters e * beta p) (budget_limit e p)) failure.Cover f h in
      let both = and_parts m.cover (nat_le (voters e * beta p) (budget_limit e p)) found.0 in
      subst (λ x. IsOf 2 x) found.1 (row refl both.0 (leb-true (voters e * beta p) (budget_limit e p) both.1))
  of-list (suc (suc (suc zero))) f h = of-mapped 3 (λ q. failure.C1 q.0 q.1) (culprits_of_C1 e p)
      (λ q first. row refl tt (lowest-pair e p q.0 q.1 first)) f h
  of-list (suc (suc (suc (suc zero)))) f h = of-mapped 4 failure.C2 (culprits_of_C2 e p)
      (λ i first. row refl tt (lowest-voter e _ (λ j. beta p < spent e p j) (λ j. is-lt _ _) i first)) f h
  of-list (suc (suc (suc (suc (suc zero))))) f h = of-mapped 5 failure.C3 (culprits_of_C3 e w p)
      (λ c first. row refl tt (lowest-funded e w _ (λ k. paid e p k ≢ cost e p k) (λ k. is-other _ _) c first)) f h
  of-list (suc (suc (suc (suc (suc (suc zero)))))) f h = of-mapped 6 failure.C4 (culprits_of_C4 e w p)
      (λ c first. row refl tt (lowest-unfunded e w _ (λ k. 0 < paid e p k) (λ k. is-some _) c first)) f h
  of-list (suc (suc (suc (suc (suc (suc (suc zero))))))) f h = of-supporters f m.stable refl h
  of-list _ f h = cc

  -- Cover has no failure exactly where it holds, if the mode asks for it
  cover-nil : (failures_of_budgets m e p ≡ []) ↔ (m.cover ≡ true → Cover e p)
  cover-nil = (
    λ h asked. elim (and_cases m.cover (nat_le (voters e * beta p) (budget_limit e p))
        ((if-nil (m.cover && nat_le (voters e * beta p) (budget_limit e p)) failure.Cover).0 h)) [
          | inl none ↦ absurd (false≢true (sym none ∙ asked))
          | inr less ↦ leb-false (voters e * beta p) (budget_limit e p) less
        ],
    λ h. (if-nil (m.cover && nat_le (voters e * beta p) (budget_limit e p)) failure.Cover).1 (elim (cases_Bool m.cover) [
      | inl asked ↦ and_right m.cover _ (lt-leb (voters e * beta p) (budget_limit e p) (h asked))
      | inr none ↦ and_left m.cover _ none
    ]),
  )

  -- the conditions hold that have no failures
  first-hold : (n : ℕ) → ((k : ℕ) → k < n → get_or lists_of k [] ≡ []) → FirstHold n m e w p
  first-hold n none = record {
    feasible = λ low. ltb-false e.limit (total e w)
        ((if-nil (nat_lt e.limit (total e w)) failure.Feasible).0 (none 0 low));
    exhausts = λ low asked. (Exhaustive-iff e w).0 (map-nil failure.Exhaustive (culprits_of_Exhaustive e w)
        ((when-nil m.exhaustive (map failure.Exhaustive (culprits_of_Exhaustive e w))).0 (none 1 low) asked));
    covers = λ low. cover-nil.0 (none 2 low);
    approved = λ low. (C1-iff e p).0 (map-nil _ _ (none 3 low));
    within_budget = λ low. (C2-iff e p).0 (map-nil _ _ (none 4 low));
    paid_for = λ low. (C3-iff e w p).0 (map-nil _ _ (none 5 low));
    none_wasted = λ low. (C4-iff e w p).0 (map-nil _ _ (none 6 low));
  }

  pub first-false : (f : Failure) → First m e w p ≡ Some f → IsFirstFalse m e w p f
  first-false f h =
      let found = first-of-joined lists_of f (ap (λ xs. slice_get xs 0) (sym joined-is) ∙ h) in
      let of = of-list found.0 f found.1 in
      let is = of.here in
      record {
        asked = of.asked;
        false_there = of.false_there;
        earlier_hold = first-hold (order f) (λ k low. found.2 k (omega (arith, is, low)));
      }

  -- where a condition is false it does not hold
  not-held : (n : ℕ) (f : Failure) → FirstHold n m e w p → n ≤ 7 → order f < n → AsksFor m f
      → IsFalseAt e w p f → ⊥
  not-held n failure.Feasible h most low asked there = let held = h.feasible low in omega (arith, held, there)
  not-held n (failure.Exhaustive c) h most low asked there =
      let held = h.exhausts low asked c there.0.0 in let more = there.0.1 in omega (arith, held, more)
  not-held n failure.Cover h most low asked there = let held = h.covers low asked in omega (arith, held, there)
  not-held n (failure.C1 i c) h most low asked there =
      false≢true (sym there.0.0.3 ∙ h.approved low i c there.0.0.0 there.0.0.1 there.0.0.2)
  not-held n (failure.C2 i) h most low asked there =
      let held = h.within_budget low i there.0.0 in let more = there.0.1 in omega (arith, held, more)
  not-held n (failure.C3 c) h most low asked there = there.0.1 (h.paid_for low c there.0.0)
  not-held n (failure.C4 c) h most low asked there =
      let held = h.none_wasted low c there.0.0 in let more = there.0.1 in omega (arith, held, more)
  not-held n (failure.C5 c) h most low asked there = omega (arith, most, low)
  not-held n (failure.S5 c) h most low asked there = omega (arith, most, low)

  not-supported : (f : Failure) → Supports m e w p → AsksFor m f → IsFalseAt e w p f → ⊥
  not-supported f s asked there = go f asked there (cases_lt (order f) 7)
    where
      go : (f : Failure) → AsksFor m f → IsFalseAt e w p f → (order f < 7) ⊎ (7 ≤ order f) → ⊥
      go (failure.C5 c) asked there _ = less-or-not _ _ there.0.1 (s.plain asked c there.0.0)
      go (failure.S5 c) asked there _ = less-or-not _ _ there.0.1 (s.stable_form asked c there.0.0)
      go f asked there (inl low) = not-held 7 f (record {
        feasible = λ k. s.feasible;
        exhausts = λ k. s.exhausts;
        covers = λ k. s.covers;
        approved = λ k. s.approved;
        within_budget = λ k. s.within_budget;
        paid_for = λ k. s.paid_for;
        none_wasted = λ k. s.none_wasted;
      }) (omega arith) low asked there
      go f asked there (inr high) = omega (arith, high)

  -- of one condition there is one first failure
  same-failure : (f g : Failure) → order f ≡ order g → AsksFor m f → AsksFor m g → IsFalseAt e w p f
      → IsFalseAt e w p g → f ≡ g
  same-failure failure.Feasible failure.Feasible is a b h k = refl
  same-failure (failure.Exhaustive c) (failure.Exhaustive d) is a b h k = ap failure.Exhaustive (lowest-same _ c d h k)
  same-failure failure.Cover failure.Cover is a b h k = refl
  same-failure (failure.C1 i c) (failure.C1 j d) is a b h k =
      let same = lowest-pair-same _ i j c d h k in
      let voter : i ≡ j = same.0 in
      let project : c ≡ d = same.1 in
      cc
  same-failure (failure.C2 i) (failure.C2 j) is a b h k = ap failure.C2 (lowest-same _ i j h k)
  same-failure (failure.C3 c) (failure.C3 d) is a b h k = ap failure.C3 (lowest-same _ c d h k)
  same-failure (failure.C4 c) (failure.C4 d) is a b h k = ap failure.C4 (lowest-same _ c d h k)
  same-failure (failure.C5 c) (failure.C5 d) is a b h k = ap failure.C5 (lowest-same _ c d h k)
  same-failure (failure.S5 c) (failure.S5 d) is a b h k = ap failure.S5 (lowest-same _ c d h k)
  same-failure (failure.C5 c) (failure.S5 d) is a b h k = absurd (false≢true (sym a ∙ b))
  same-failure (failure.S5 c) (failure.C5 d) is a b h k = absurd (false≢true (sym b ∙ a))
  same-failure f g is a b h k = absurd (omega (arith, is))

  -- no condition fails exactly where the prices support the outcome
  supports : First m e w p ≡ None → Supports m e w p
  supports h =
      let none = joined-nil lists_of (sym joined-is ∙ (first-none (failures_of m e w p)).0 h) in
      let hold = first-hold 7 (λ k low. none k) in
      let last = (choice-nil m.stable (map failure.S5 (culprits_of_S5 e w p)) (map failure.C5 (culprits_of_C5 e w p))).0
      (none 7) in
      record {
        feasible = hold.feasible (omega arith);
        exhausts = hold.exhausts (omega arith);
        covers = hold.covers (omega arith);
        approved = hold.approved (omega arith);
        within_budget = hold.within_budget (omega arith);
        paid_for = hold.paid_for (omega arith);
        none_wasted = hold.none_wasted (omega arith);
        plain = λ k. (C5-iff e w p).0 (map-nil failure.C5 (culprits_of_C5 e w p) (last.1 k));
        stable_form = λ k. (S5-iff e w p).0 (map-nil failure.S5 (culprits_of_S5 e w p) (last.0 k));
      }

  pub supports-iff : (First m e w p ≡ None) ↔ Supports m e w p
  supports-iff = (supports, λ s. go (First m e w p) refl s)
    where
      go : (o : Option Failure) → First m e w p ≡ o → Supports m e w p → First m e w p ≡ None
      go None is s = is
      go (Some f) is s =
          let k = first-false f is in absurd (not-supported f s k.asked k.false_there)

  -- the first failure is such a one, and there is no other
  pub first-false-iff : (f : Failure) → (First m e w p ≡ Some f) ↔ IsFirstFalse m e w p f
  first-false-iff f = (first-false f, λ h. go h (First m e w p) refl)
    where
      go : IsFirstFalse m e w p f → (o : Option Failure) → First m e w p ≡ o → First m e w p ≡ Some f
      go h None is = absurd (not-supported f (supports-iff.0 is) h.asked h.false_there)
      go h (Some g) is =
          let k = first-false g is in
          elim (cases_lt (order f) (order g)) [
            | inl low ↦ absurd (not-held (order g) f k.earlier_hold (order-most g) low h.asked h.false_there)
            | inr from ↦ elim (cases_lt (order g) (order f)) [
              | inl low ↦ absurd (not-held (order f) g h.earlier_hold (order-most f) low k.asked k.false_there)
              | inr to ↦ is ∙ ap Some (same-failure g f (omega arith) k.asked h.asked k.false_there h.false_there)
            ]
          ]
