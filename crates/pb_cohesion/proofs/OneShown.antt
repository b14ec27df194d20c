-- For each unfunded project with a supporter there is a group that is shown, and only one.
use Rattle.std.proofs.Common.{◌≡◌, ℕ, ◌*◌, ◌<◌, ◌≤◌, Bool, true, false, List, [], ◌∷◌, length, map, refl, sym, ◌∙◌, ap, ap₂, subst, inl, inr, ◌⊎◌, arith}
use Rattle.std.specs.Prelude.{◌≢◌, ◌↔◌, ◌&&◌, ⊤, All, Contains, IsTrue, filter, nat_le, nat_lt, not, sum_by}
use Rattle.std.specs.List.{AllByRecursion}
use Rattle.std.proofs.lemmas.Bool.{and_from, cases_Bool, cases_eq, cases_lt, false≢true, le-leb, leb-true, ltb-true}
use Rattle.std.proofs.lemmas.List.Elements.{All-from_recursion, recursion_from_All}
use Rattle.std.proofs.Math.Nat.{mul-le-mul_left, mul-le-mul_right}
use Rattle.pb_election.specs.Instance.{Instance, IsProject, IsVoter, all_projects, all_voters, approves, projects, supporters, voters}
use Rattle.pb_election.specs.Outcome.{has}
use Rattle.pb_certificate.proofs.Unique.{filter-set}
use Rattle.pb_certificate.specs.declared.violations.measure.Measure.{Measure}
use Rattle.pb_records.proofs.Each.{all-both, all-every, all-filter}
use Rattle.pb_cohesion.specs.Closest.{AreAllFigures, AreFiguresOf, IsClosest, IsShown, NoneFallsShort, WantUnfunded, group_need, most_got, up_to, wanted}
use Rattle.pb_cohesion.specs.Groups.{IsGroupWithin}
use Rattle.pb_cohesion.specs.Outcome.{IsUnfunded, unfunded}
use Rattle.pb_cohesion.specs.Short.{FallsShort, IsLargestShort, got, need}
use Rattle.pb_cohesion.specs.declared.GroupFigures.{GroupFigures}
use Rattle.pb_cohesion.proofs.Members.{one-largest, same-sets}
use Rattle.pb_cohesion.proofs.Sets.{filter-all, set-all, set-le-filter}
use Rattle.pb_cohesion.proofs.Supported.{filter-has, largest-all, largest-le, largest-some, need-rises, range-has, up_to-all, up_to-group, up_to-has, up_to-is}
use Rattle.pb_cohesion.proofs.Standing.{cover-trans}
use Rattle.pb_cohesion.proofs.Sums.{sum-const}

-- ---- of some numbers, the best

-- the largest that passes, or none does
abbrev LargestPassing : (ℕ → Bool) → (ℕ → ℕ) → (ℕ → Type 0) → List ℕ → Type 0
LargestPassing passes f P t =
    (i : ℕ) × P i × (passes (f i) ≡ true) × AllByRecursion (λ j. passes (f j) ≡ true → f j ≤ f i) t

largest-passing : (passes : ℕ → Bool) (f : ℕ → ℕ) (P : ℕ → Type 0) (t : List ℕ) → AllByRecursion P t
    → LargestPassing passes f P t ⊎ AllByRecursion (λ j. passes (f j) ≡ false) t
largest-passing passes f P [] each = inr tt
largest-passing passes f P (x ∷ xs) each =
    elim (cases_Bool (passes (f x))) [
      | inl yes' ↦ inl (with_first yes' (largest-passing passes f P xs each.1))
      | inr no' ↦ without_first no' (largest-passing passes f P xs each.1)
    ]
  where
    le-self : (n : ℕ) → n ≤ n
    le-self n = omega arith

    weaker : (i : ℕ) → f i < f x → (t : List ℕ) → AllByRecursion (λ j. passes (f j) ≡ true → f j ≤ f i) t
        → AllByRecursion (λ j. passes (f j) ≡ true → f j ≤ f x) t
    weaker i below [] all = tt
    weaker i below (y ∷ ys) all = (
      λ p. (let here : f y ≤ f i = all.0 p in omega arith),
      weaker i below ys all.1,
    )

    none : (t : List ℕ) → AllByRecursion (λ j. passes (f j) ≡ false) t
        → AllByRecursion (λ j. passes (f j) ≡ true → f j ≤ f x) t
    none [] all = tt
    none (y ∷ ys) all = (λ p. absurd (false≢true (sym all.0 ∙ p)), none ys all.1)

    with_first : passes (f x) ≡ true
        → LargestPassing passes f P xs ⊎ AllByRecursion (λ j. passes (f j) ≡ false) xs
        → LargestPassing passes f P (x ∷ xs)
    with_first yes' (inl best) = elim (cases_lt (f best.0) (f x)) [
      | inr le ↦ (best.0, best.1, best.2, ((λ p. le), best.3))
      | inl gt ↦ (x, each.0, yes', ((λ p. le-self (f x)), weaker best.0 (omega arith) xs best.3))
    ]
    with_first yes' (inr all) = (x, each.0, yes', ((λ p. le-self (f x)), none xs all))

    without_first : passes (f x) ≡ false
        → LargestPassing passes f P xs ⊎ AllByRecursion (λ j. passes (f j) ≡ false) xs
        → LargestPassing passes f P (x ∷ xs) ⊎ AllByRecursion (λ j. passes (f j) ≡ false) (x ∷ xs)
    without_first no' (inl best) =
        inl (best.0, best.1, best.2, ((λ p. absurd (false≢true (sym no' ∙ p))), best.3))
    without_first no' (inr all) = inr (no', all)

-- the share of the group at g covers no less than that at h, and where it covers as much, h is no more than g
abbrev IsBest : (ℕ → ℕ) → (ℕ → ℕ) → ℕ → ℕ → Type 0
IsBest size cost g h = (size h * cost g ≤ size g * cost h) × (size h * cost g ≡ size g * cost h → h ≤ g)

abbrev BestOf : (ℕ → ℕ) → (ℕ → ℕ) → (ℕ → ℕ) → (ℕ → Type 0) → List ℕ → Type 0
BestOf size cost f P t = (i : ℕ) × P i × AllByRecursion (λ j. IsBest size cost (f i) (f j)) t

best-self : (size cost : ℕ → ℕ) (g : ℕ) → IsBest size cost g g
best-self size cost g = (omega arith, λ e. omega arith)

-- where g is strictly better than b, or as good and larger, and b is best, g is
better-best : (size cost : ℕ → ℕ) (g b h : ℕ) → 0 < size b → 0 < size h → 0 < size g → size b * cost g ≤ size g * cost b
    → (size b * cost g ≡ size g * cost b → b ≤ g) → IsBest size cost b h → IsBest size cost g h
better-best size cost g b h some other own better tie best =
    let below : size h * cost g ≤ size g * cost h =
    cover-trans (size h) (cost h) (size b) (cost b) (size g) (cost g) some best.0 better in (
      below,
      λ e. (
          let back : size g * cost b ≤ size b * cost g =
          cover-trans (size g) (cost g) (size h) (cost h) (size b) (cost b) other (omega arith) best.0 in
          let as_good : size b * cost g ≡ size g * cost b = omega arith in
          let forth : size b * cost h ≤ size h * cost b =
          cover-trans (size b) (cost b) (size g) (cost g) (size h) (cost h) own (omega arith) (omega arith) in
          let b_le : b ≤ g = tie as_good in
          let h_le : h ≤ b = best.1 (omega (arith, forth, best.0)) in
          omega arith
          ),
    )

best-of : (size cost f : ℕ → ℕ) (P : ℕ → Type 0) (t : List ℕ) → t ≢ [] → AllByRecursion P t
    → ((i : ℕ) → P i → 0 < size (f i)) → BestOf size cost f P t
best-of size cost f P [] some each positive = absurd (some refl)
best-of size cost f P (x ∷ []) some each positive = (x, each.0, (best-self size cost (f x), tt))
best-of size cost f P (x ∷ y ∷ ys) some each positive =
    with_first (best-of size cost f P (y ∷ ys) (λ e. cc) each.1 positive)
  where
    all-better : (i : ℕ) → P i → size (f i) * cost (f x) ≤ size (f x) * cost (f i)
        → (size (f i) * cost (f x) ≡ size (f x) * cost (f i) → f i ≤ f x) → (t : List ℕ) → AllByRecursion P t
        → AllByRecursion (λ j. IsBest size cost (f i) (f j)) t → AllByRecursion (λ j. IsBest size cost (f x) (f j)) t
    all-better i p better tie [] own all = tt
    all-better i p better tie (z ∷ zs) own all = (
      better-best size cost (f x) (f i) (f z) (positive i p) (positive z own.0) (positive x each.0) better tie all.0,
      all-better i p better tie zs own.1 all.1,
    )

    with_first : BestOf size cost f P (y ∷ ys) → BestOf size cost f P (x ∷ y ∷ ys)
    with_first best =
        let i = best.0 in
        elim (cases_lt (size (f i) * cost (f x)) (size (f x) * cost (f i))) [
          | inr no_better ↦
              elim (cases_eq (size (f x) * cost (f i)) (size (f i) * cost (f x))) [
                | inl same ↦
                    elim (cases_lt (f i) (f x)) [
                      | inr le ↦ (i, best.1, ((no_better, λ e. le), best.2))
                      | inl gt ↦ (
                        x,
                        each.0,
                        (
                          best-self size cost (f x),
                          all-better i best.1 (omega arith) (λ e. omega arith) (y ∷ ys) each.1 best.2,
                        ),
                      )
                    ]
                | inr worse ↦ (i, best.1, ((no_better, λ e. absurd (worse e)), best.2))
              ]
          | inl better ↦ (
            x,
            each.0,
            (
              best-self size cost (f x),
              all-better i best.1 (omega arith) (λ e. absurd (omega arith)) (y ∷ ys) each.1 best.2,
            ),
          )
        ]

-- ---- groups of supporters, by the most that a member got

pub record Supports (e : Instance) (c i : ℕ) : Type 0 where
  pub voter : IsVoter e i
  pub approves_it : approves e i c ≡ true

pub supporters-support : (e : Instance) (c : ℕ) → AllByRecursion (Supports e c) (supporters e c)
supporters-support e c =
    all-both (IsVoter e) (λ i. approves e i c ≡ true) (Supports e c) (supporters e c)
    (λ i v a. record { voter = v; approves_it = a })
    (set-all (IsVoter e) 1 (voters e) (supporters e c)
    (filter-set (λ i. approves e i c) (voters e) 1 (voters e) (omega arith)) (λ i low high. (low, high)))
    (filter-all (λ i. approves e i c) (all_voters e))

pub group-supports : (e : Instance) (t : List ℕ) (c : ℕ) → IsGroupWithin e t c → AllByRecursion (Supports e c) t
group-supports e t c group =
    all-both (IsVoter e) (λ i. approves e i c ≡ true) (Supports e c) t (λ i v a. record { voter = v; approves_it = a })
    (set-all (IsVoter e) 1 (voters e) t group.0 (λ i low high. (low, high)))
    (recursion_from_All (λ i. approves e i c ≡ true) t group.1)

-- what holds of all supporters holds of one
pub at-supporter : (Q : ℕ → Type 0) (e : Instance) (c : ℕ) → AllByRecursion Q (supporters e c) → (i : ℕ) → Supports e c i
    → Q i
at-supporter Q e c all i s =
    let in_range = range-has (voters e) 1 i s.voter.0 (omega (arith, s.voter.1)) in
    let at = filter-has (λ j. approves e j c) (all_voters e) in_range.0 i in_range.1 in_range.2 s.approves_it in
    subst Q at.2 (All-from_recursion Q (supporters e c) all at.0 i at.1)

-- what holds of what each supporter got holds of the most that a member of a group got
of-most : (Q : ℕ → Type 0) (m : Measure) (e : Instance) (w : List Bool) (c : ℕ) (t : List ℕ)
    → AllByRecursion (λ i. Q (got m e w i)) (supporters e c) → t ≢ [] → IsGroupWithin e t c → Q (most_got m e w t)
of-most Q m e w c t all some group =
    largest-some Q (got m e w) t some (go t (group-supports e t c group))
  where
    go : (s : List ℕ) → AllByRecursion (Supports e c) s → AllByRecursion (λ i. Q (got m e w i)) s
    go [] each = tt
    go (i ∷ is) each = (at-supporter (λ i. Q (got m e w i)) e c all i each.0, go is each.1)

-- the members of a group are among the supporters that got at most so much as the most that a member got
part-of-most : (m : Measure) (e : Instance) (w : List Bool) (c g : ℕ) (t : List ℕ) → IsGroupWithin e t c
    → most_got m e w t ≤ g → All (λ i. Contains (up_to m e w c g) i) t
part-of-most m e w c g t group le =
    All-from_recursion (λ i. Contains (up_to m e w c g) i) t
    (all-both (Supports e c) (λ i. got m e w i ≤ most_got m e w t) (λ i. Contains (up_to m e w c g) i) t
    (λ i s at. up_to-has m e w c g i s.voter s.approves_it (omega arith)) (group-supports e t c group)
    (largest-all (got m e w) t))

length-is : (t : List ℕ) → length t ≡ sum_by (λ i. 1) t
length-is t = omega (arith, sum-const 1 t)

-- so it has no more members
few-members : (m : Measure) (e : Instance) (w : List Bool) (c : ℕ) (t : List ℕ) → IsGroupWithin e t c
    → length t ≤ length (up_to m e w c (most_got m e w t))
few-members m e w c t group =
    let g = most_got m e w t in
    let pass : AllByRecursion (λ i. (approves e i c && nat_le (got m e w i) g) ≡ true) t =
    all-both (Supports e c) (λ i. got m e w i ≤ g) (λ i. (approves e i c && nat_le (got m e w i) g) ≡ true) t
    (λ i s at. and_from (approves e i c) (nat_le (got m e w i) g) s.approves_it (le-leb (got m e w i) g at))
    (group-supports e t c group) (largest-all (got m e w) t) in
    let sums : sum_by (λ i. 1) t
    ≤ sum_by (λ i. 1) (filter (λ i. approves e i c && nat_le (got m e w i) g) (all_voters e)) =
    set-le-filter (λ i. 1) (λ i. approves e i c && nat_le (got m e w i) g) (voters e) t group.0 pass in
    omega (arith, length-is t, length-is (up_to m e w c g), ap (λ s. sum_by (λ i. 1) s) (up_to-is m e w c g), sums)

-- a supporter is among those that got at most what it got
some-members : (m : Measure) (e : Instance) (w : List Bool) (c i : ℕ) → Supports e c i
    → 0 < length (up_to m e w c (got m e w i))
some-members m e w c i s =
    let at = up_to-has m e w c (got m e w i) i s.voter s.approves_it (omega arith) in omega (arith, at.1)

pub some-not-empty : (t : List ℕ) → 0 < length t → t ≢ []
some-not-empty [] h e = absurd (omega arith)
some-not-empty (x ∷ xs) h e = cc

-- what such a group got at most
most-of-up_to : (m : Measure) (e : Instance) (w : List Bool) (c i : ℕ) → Supports e c i
    → most_got m e w (up_to m e w c (got m e w i)) ≡ got m e w i
most-of-up_to m e w c i s =
    let g = got m e w i in
    let u = up_to m e w c g in
    let low : most_got m e w u ≤ g = largest-le (got m e w) u g (up_to-all m e w c g) in
    let at = up_to-has m e w c g i s.voter s.approves_it (omega arith) in
    let high : g ≤ most_got m e w u =
    subst (λ j. got m e w j ≤ most_got m e w u) at.2
    (All-from_recursion (λ j. got m e w j ≤ most_got m e w u) u (largest-all (got m e w) u) at.0 i at.1) in
    omega arith

-- ---- the group that is shown

-- the share of the supporters that got at most g would have been enough
abbrev is_short : Measure → Instance → List Bool → ℕ → ℕ → Bool
is_short m e w c g = nat_le (voters e * need m e c g) (length (up_to m e w c g) * e.limit)

-- a group that falls short
short-most : (m : Measure) (e : Instance) (w : List Bool) (c : ℕ) (t : List ℕ) → FallsShort m e w t c
    → is_short m e w c (most_got m e w t) ≡ true
short-most m e w c t h =
    let g = most_got m e w t in
    let enough : voters e * need m e c g ≤ length t * e.limit =
    largest-some (λ n. voters e * need m e c n ≤ length t * e.limit) (got m e w) t h.not_empty
    (recursion_from_All (λ i. voters e * need m e c (got m e w i) ≤ length t * e.limit) t h.enough) in
    let more : length t * e.limit ≤ length (up_to m e w c g) * e.limit =
    mul-le-mul_right e.limit (few-members m e w c t h.group) in
    le-leb (voters e * need m e c g) (length (up_to m e w c g) * e.limit) (omega arith)

short-group : (m : Measure) (e : Instance) (w : List Bool) (c i : ℕ) → IsUnfunded e w c → Supports e c i
    → is_short m e w c (got m e w i) ≡ true → FallsShort m e w (up_to m e w c (got m e w i)) c
short-group m e w c i un s short =
    let g = got m e w i in
    let u = up_to m e w c g in
    let whole : voters e * need m e c g ≤ length u * e.limit =
    leb-true (voters e * need m e c g) (length u * e.limit) short in
    record {
      not_empty = some-not-empty u (some-members m e w c i s);
      unfunded = un;
      group = up_to-group m e w c g;
      enough = All-from_recursion (λ j. voters e * need m e c (got m e w j) ≤ length u * e.limit) u
          (all-both (λ j. got m e w j ≤ g) (λ j. ⊤) (λ j. voters e * need m e c (got m e w j) ≤ length u * e.limit) u
          (λ j le any. below j le whole) (up_to-all m e w c g) (all-every (λ j. ⊤) u (λ j. tt)));
    }
  where
    below : (j : ℕ) → got m e w j ≤ got m e w i
        → voters e * need m e c (got m e w i) ≤ length (up_to m e w c (got m e w i)) * e.limit
        → voters e * need m e c (got m e w j) ≤ length (up_to m e w c (got m e w i)) * e.limit
    below j le whole =
        let rises : voters e * need m e c (got m e w j) ≤ voters e * need m e c (got m e w i) =
        mul-le-mul_left (voters e) (need-rises m e c (got m e w j) (got m e w i) le) in omega arith

wants-up_to : (m : Measure) (e : Instance) (w : List Bool) (c i : ℕ) → IsUnfunded e w c → Supports e c i
    → WantUnfunded e w (up_to m e w c (got m e w i)) c
wants-up_to m e w c i un s =
    (some-not-empty _ (some-members m e w c i s), un, up_to-group m e w c (got m e w i))

largest-shown : (m : Measure) (e : Instance) (w : List Bool) (c i : ℕ) → IsUnfunded e w c → Supports e c i
    → is_short m e w c (got m e w i) ≡ true
    → AllByRecursion (λ j. is_short m e w c (got m e w j) ≡ true → got m e w j ≤ got m e w i) (supporters e c)
    → IsLargestShort m e w (up_to m e w c (got m e w i)) c
largest-shown m e w c i un s short all = record {
  short = short-group m e w c i un s short;
  largest = λ t h. part-of-most m e w c (got m e w i) t h.group
      (of-most (λ n. is_short m e w c n ≡ true → n ≤ got m e w i) m e w c t all h.not_empty h.group
      (short-most m e w c t h));
}

none-short : (m : Measure) (e : Instance) (w : List Bool) (c : ℕ)
    → AllByRecursion (λ j. is_short m e w c (got m e w j) ≡ false) (supporters e c) → NoneFallsShort m e w c
none-short m e w c all t h =
    false≢true (sym (of-most (λ n. is_short m e w c n ≡ false) m e w c t all h.not_empty h.group)
    ∙ short-most m e w c t h)

closest-shown : (m : Measure) (e : Instance) (w : List Bool) (c i : ℕ) → IsUnfunded e w c → Supports e c i
    → AllByRecursion (λ j. IsBest (λ g. length (up_to m e w c g)) (need m e c) (got m e w i) (got m e w j)) (supporters e c)
    → IsClosest m e w (up_to m e w c (got m e w i)) c
closest-shown m e w c i un s all = record {
  wants = wants-up_to m e w c i un s;
  closest = λ t h. subst (λ n. length t * n ≤ length (up_to m e w c (got m e w i)) * group_need m e w t c)
      (sym needs) (covers t h);
  largest = λ t h same. part-of-most m e w c (got m e w i) t h.2
      (tie t h (subst (λ n. length t * n ≡ length (up_to m e w c (got m e w i)) * group_need m e w t c) needs same));
}
  where
    needs : group_need m e w (up_to m e w c (got m e w i)) c ≡ need m e c (got m e w i)
    needs = ap (need m e c) (most-of-up_to m e w c i s)

    best : (t : List ℕ) → WantUnfunded e w t c
        → IsBest (λ g. length (up_to m e w c g)) (need m e c) (got m e w i) (most_got m e w t)
    best t h = of-most (λ n. IsBest (λ g. length (up_to m e w c g)) (need m e c) (got m e w i) n) m e w c t all h.0 h.2

    fewer : (t : List ℕ) → WantUnfunded e w t c
        → length t * need m e c (got m e w i) ≤ length (up_to m e w c (most_got m e w t)) * need m e c (got m e w i)
    fewer t h = mul-le-mul_right (need m e c (got m e w i)) (few-members m e w c t h.2)

    covers : (t : List ℕ) → WantUnfunded e w t c
        → length t * need m e c (got m e w i) ≤ length (up_to m e w c (got m e w i)) * group_need m e w t c
    covers t h = let first = fewer t h in let second = (best t h).0 in omega (arith, first, second)

    tie : (t : List ℕ) → WantUnfunded e w t c
        → length t * need m e c (got m e w i) ≡ length (up_to m e w c (got m e w i)) * group_need m e w t c
        → most_got m e w t ≤ got m e w i
    tie t h same =
        let first = fewer t h in let second = (best t h).0 in (best t h).1 (omega (arith, first, second, same))

-- a group is shown for each unfunded project with a supporter, and it is known whether one falls short
abbrev Told : Measure → Instance → List Bool → ℕ → Type 0
Told m e w c = (s : List ℕ) × IsShown m e w s c
    × ((b : Bool) × (IsTrue b ↔ ((t : List ℕ) × FallsShort m e w t c)))

shown-some : (m : Measure) (e : Instance) (w : List Bool) (c : ℕ) → IsUnfunded e w c → supporters e c ≢ []
    → Told m e w c
shown-some m e w c un some =
    by (largest-passing (is_short m e w c) (got m e w) (Supports e c) (supporters e c) (supporters-support e c))
  where
    by : LargestPassing (is_short m e w c) (got m e w) (Supports e c) (supporters e c)
        ⊎ AllByRecursion (λ j. is_short m e w c (got m e w j) ≡ false) (supporters e c) → Told m e w c
    by (inl best) =
        let largest = largest-shown m e w c best.0 un best.1 best.2 best.3 in (
          up_to m e w c (got m e w best.0),
          inl largest,
          (true, (λ yes'. (up_to m e w c (got m e w best.0), largest.short), λ h. refl)),
        )
    by (inr all) =
        let none = none-short m e w c all in
        let best = best-of (λ g. length (up_to m e w c g)) (need m e c) (got m e w) (Supports e c) (supporters e c) some
        (supporters-support e c) (some-members m e w c) in (
          up_to m e w c (got m e w best.0),
          inr (none, closest-shown m e w c best.0 un best.1 best.2),
          (false, (λ no'. absurd (false≢true no'), λ h. absurd (none h.0 h.1))),
        )

-- ---- the figures of all projects are there

record IsWanted (e : Instance) (w : List Bool) (c : ℕ) : Type 0 where
  unfunded : IsUnfunded e w c
  supported : supporters e c ≢ []

figure-of : (m : Measure) (e : Instance) (w : List Bool) (c : ℕ) → IsWanted e w c
    → (x : GroupFigures) × (x.project ≡ c) × AreFiguresOf m e w x
figure-of m e w c wants =
    let told = shown-some m e w c wants.unfunded wants.supported in (
      record {
        project = c;
        supporters = length (supporters e c);
        voters = length told.0;
        most = most_got m e w told.0;
        need = group_need m e w told.0 c;
        falls_short = told.2.0;
      },
      refl,
      record {
        supporters = refl;
        falls_short = told.2.1;
        shown = (told.0, told.1, refl, refl, refl);
      },
    )

figures-of : (m : Measure) (e : Instance) (w : List Bool) (cs : List ℕ) → AllByRecursion (IsWanted e w) cs
    → (xs : List GroupFigures) × (map (λ (x : GroupFigures). x.project) xs ≡ cs) × AllByRecursion (AreFiguresOf m e w) xs
figures-of m e w [] each = ([], refl, tt)
figures-of m e w (c ∷ cs) each =
    let first = figure-of m e w c each.0 in
    let rest = figures-of m e w cs each.1 in
    (first.0 ∷ rest.0, ap₂ (λ y ys. y ∷ ys) first.1 rest.1, (first.2, rest.2))

unfunded-all : (e : Instance) (w : List Bool) → AllByRecursion (IsUnfunded e w) (unfunded e w)
unfunded-all e w =
    all-both (IsProject e) (λ c. not (has w c) ≡ true) (IsUnfunded e w) (unfunded e w)
    (λ c p n. (p, off (has w c) n))
    (set-all (IsProject e) 1 (projects e) (unfunded e w)
    (filter-set (λ c. not (has w c)) (projects e) 1 (projects e) (omega arith)) (λ c low high. (low, high)))
    (filter-all (λ c. not (has w c)) (all_projects e))
  where
    off : (b : Bool) → not b ≡ true → b ≡ false
    off true h = cc
    off false h = refl

all-wanted : (e : Instance) (w : List Bool) → AllByRecursion (IsWanted e w) (wanted e w)
all-wanted e w =
    all-both (IsUnfunded e w) (λ c. nat_lt 0 (length (supporters e c)) ≡ true) (IsWanted e w) (wanted e w)
    (λ c u s. record {
      unfunded = u;
      supported = some-not-empty (supporters e c) (ltb-true 0 (length (supporters e c)) s);
    })
    (all-filter (IsUnfunded e w) (λ c. nat_lt 0 (length (supporters e c))) (unfunded e w) (unfunded-all e w))
    (filter-all (λ c. nat_lt 0 (length (supporters e c))) (unfunded e w))

pub figures_exist : (m : Measure) (e : Instance) (w : List Bool) → (xs : List GroupFigures) × AreAllFigures m e w xs
figures_exist m e w =
    let found = figures-of m e w (wanted e w) (all-wanted e w) in (
      found.0,
      record { projects = found.1; each = All-from_recursion (AreFiguresOf m e w) found.0 found.2 },
    )

-- they are of projects
pub all-projects : (e : Instance) (w : List Bool) → AllByRecursion (IsProject e) (wanted e w)
all-projects e w =
    all-both (IsWanted e w) (λ c. ⊤) (IsProject e) (wanted e w) (λ c h any. h.unfunded.0) (all-wanted e w)
    (all-every (λ c. ⊤) (wanted e w) (λ c. tt))

-- ---- and only once

groups-same : (e : Instance) (s t : List ℕ) (c : ℕ) → IsGroupWithin e s c → IsGroupWithin e t c
    → All (λ i. Contains t i) s → All (λ i. Contains s i) t → s ≡ t
groups-same e s t c a b to from = same-sets (voters e) s t a.0 b.0 from to

pub shown_is_one : (m : Measure) (e : Instance) (w : List Bool) (c : ℕ) (s t : List ℕ) → IsShown m e w s c
    → IsShown m e w t c → s ≡ t
shown_is_one m e w c s t (inl a) (inl b) = one-largest m e w s t c a b
shown_is_one m e w c s t (inl a) (inr b) = absurd (b.0 s a.short)
shown_is_one m e w c s t (inr a) (inl b) = absurd (a.0 t b.short)
shown_is_one m e w c s t (inr a) (inr b) =
    let p = a.1 in
    let q = b.1 in
    let one = p.closest t q.wants in
    let other = q.closest s p.wants in
    groups-same e s t c p.wants.2 q.wants.2 (q.largest s p.wants (omega (arith, one, other)))
    (p.largest t q.wants (omega (arith, one, other)))

bools-same : (a b : Bool) (P : Type 0) → (IsTrue a ↔ P) → (IsTrue b ↔ P) → a ≡ b
bools-same true true P f g = refl
bools-same false false P f g = refl
bools-same true false P f g = absurd (false≢true (g.1 (f.0 refl)))
bools-same false true P f g = absurd (false≢true (f.1 (g.0 refl)))

abbrev figures_with : ℕ → ℕ → ℕ → ℕ → ℕ → Bool → GroupFigures
figures_with p s v m k f =
    record { project = p; supporters = s; voters = v; most = m; need = k; falls_short = f }

same-fields : (p q s t v u m n k l : ℕ) (f g : Bool) → p ≡ q → s ≡ t → v ≡ u → m ≡ n → k ≡ l → f ≡ g
    → figures_with p s v m k f ≡ figures_with q t u n l g
same-fields p q s t v u m n k l f g a b c d h i = cc

figures-same : (m : Measure) (e : Instance) (w : List Bool) (x y : GroupFigures) → x.project ≡ y.project
    → AreFiguresOf m e w x → AreFiguresOf m e w y → x ≡ y
figures-same m e w x y same a b =
    let shown : a.shown.0 ≡ b.shown.0 =
    shown_is_one m e w y.project a.shown.0 b.shown.0 (subst (IsShown m e w a.shown.0) same a.shown.1) b.shown.1 in
    same-fields x.project y.project x.supporters y.supporters x.voters y.voters x.most y.most x.need y.need
    x.falls_short y.falls_short same
    (a.supporters ∙ ap (λ c. length (supporters e c)) same ∙ sym b.supporters)
    (a.shown.2 ∙ ap length shown ∙ sym b.shown.2)
    (a.shown.3 ∙ ap (most_got m e w) shown ∙ sym b.shown.3)
    (a.shown.4 ∙ ap₂ (group_need m e w) shown same ∙ sym b.shown.4)
    (bools-same x.falls_short y.falls_short ((t : List ℕ) × FallsShort m e w t y.project)
    (subst (λ c. IsTrue x.falls_short ↔ ((t : List ℕ) × FallsShort m e w t c)) same a.falls_short) b.falls_short)

pub figures_are_one : (m : Measure) (e : Instance) (w : List Bool) (xs ys : List GroupFigures)
    → AreAllFigures m e w xs → AreAllFigures m e w ys → xs ≡ ys
figures_are_one m e w xs ys a b =
    go xs ys (a.projects ∙ sym b.projects) (recursion_from_All (AreFiguresOf m e w) xs a.each)
    (recursion_from_All (AreFiguresOf m e w) ys b.each)
  where
    go : (xs ys : List GroupFigures) → map (λ (x : GroupFigures). x.project) xs ≡ map (λ (x : GroupFigures). x.project) ys
        → AllByRecursion (AreFiguresOf m e w) xs → AllByRecursion (AreFiguresOf m e w) ys → xs ≡ ys
    go [] [] same f g = refl
    go [] (y ∷ ys) same f g = cc
    go (x ∷ xs) [] same f g = cc
    go (x ∷ xs) (y ∷ ys) same f g =
        let first : x.project ≡ y.project = cc in
        let rest : map (λ (x : GroupFigures). x.project) xs ≡ map (λ (x : GroupFigures). x.project) ys = cc in
        ap₂ (λ z zs. z ∷ zs) (figures-same m e w x y first f.0 g.0) (go xs ys rest f.1 g.1)
