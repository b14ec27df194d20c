-- The figures after all voters.
use Rattle.std.proofs.Common.{◌≡◌, ℕ, zero, suc, ◌+◌, ◌<◌, ◌≤◌, Bool, true, false, not, List, [], ◌∷◌, length, get_or, map, take, refl, sym, ◌∙◌, ap, subst, inl, inr, arith}
use Rattle.std.specs.Prelude.{◌&&◌, All, filter, nat_lt, sum_by}
use Rattle.std.specs.List.{AllByRecursion, range_with_len}
use Rattle.std.proofs.lemmas.Bool.{cases_Bool, false≢true, ltb-true}
use Rattle.std.proofs.lemmas.List.Elements.{All-from_recursion, All-weaker, recursion_from_All}
use Rattle.std.proofs.lemmas.List.FromFn.{length-range_with_len}
use Rattle.std.proofs.lemmas.List.Sorted.{All-permutation, length_permutation}
use Rattle.pb_election.specs.Instance.{Instance, IsProject, IsVoter, all_projects, all_voters, most_voters, projects, supporters, voters}
use Rattle.pb_election.specs.Outcome.{has}
use Rattle.pb_election.specs.Text.{IsElection}
use Rattle.pb_certificate.specs.declared.violations.measure.Measure.{Measure}
use Rattle.pb_records.proofs.Each.{all-map, all-range}
use Rattle.pb_cohesion.specs.Closest.{AreAllFigures, AreFiguresOf, most_need}
use Rattle.pb_cohesion.specs.Inside.Counting.{AllStand, AreByGot, CanTake, NeedsAreSmall, Stand, gots, with_got}
use Rattle.pb_cohesion.specs.Short.{got, need}
use Rattle.pb_cohesion.specs.Shown.{AreSmall}
use Rattle.pb_cohesion.specs.declared.GroupFigures.{GroupFigures}
use Rattle.pb_cohesion.proofs.Culprits.{filter-filter}
use Rattle.pb_cohesion.proofs.Order.{funded-gots, gots-few, supporters-sum}
use Rattle.pb_cohesion.proofs.Shown.{figures-are}
use Rattle.pb_cohesion.proofs.Small.{need-small}
use Rattle.pb_cohesion.proofs.Sums.{sum-const}

-- each in the order is a voter behind what it got
pub order-all : (m : Measure) (e : Instance) (w : List Bool) (order : List (ℕ × ℕ)) → AreByGot m e w order
    → All (λ one. IsVoter e one.1 × (one.0 ≡ got m e w one.1)) order
order-all m e w order by =
    All-permutation (λ (one : ℕ × ℕ). IsVoter e one.1 × (one.0 ≡ got m e w one.1)) (with_got m e w (all_voters e)) order by.all
    (All-from_recursion (λ (one : ℕ × ℕ). IsVoter e one.1 × (one.0 ≡ got m e w one.1)) (with_got m e w (all_voters e))
    (all-map (λ (one : ℕ × ℕ). IsVoter e one.1 × (one.0 ≡ got m e w one.1)) (λ i. (got m e w i, i)) (all_voters e)
    (all-range (λ i. IsVoter e i × (got m e w i ≡ got m e w i)) 1 (voters e)
    (λ i low high. ((low, omega arith), refl)))))

-- the figures of a project can take one more supporter
pub can-take : (m : Measure) (e : Instance) (w : List Bool) (before : List (ℕ × ℕ)) (xs : List GroupFigures)
    → AllStand m e w before xs → length before ≤ most_voters
    → (k : ℕ) (d : GroupFigures) → k < projects e → CanTake k (get_or xs k d)
can-take m e w before xs stand few k d within =
    let s = stand.each k d within in
    let less : length (gots e w (k + 1) before) ≤ length before = gots-few e w (k + 1) before in
    record {
      project = s.project;
      few = omega (arith, s.supporters, less, few);
      few_voters = omega (arith, s.within, less, few);
      small = s.small;
    }

-- those of the figures that have supporters, as a list and each of them
kept-projects : (q : ℕ → Bool) (a n : ℕ) (xs : List GroupFigures) → length xs ≡ n
    → ((k : ℕ) (d : GroupFigures) → k < n
    → ((get_or xs k d).project ≡ a + k) × (nat_lt 0 (get_or xs k d).supporters ≡ q (a + k)))
    → map (λ x. x.project) (filter (λ x. nat_lt 0 x.supporters) xs) ≡ filter q (range_with_len a n)
kept-projects q a zero [] long each = refl
kept-projects q a (suc n) [] long each = absurd (omega arith)
kept-projects q a zero (x ∷ xs) long each = absurd (omega arith)
kept-projects q a (suc n) (x ∷ xs) long each =
    let first = each 0 x (omega arith) in
    let number : x.project ≡ a = omega (arith, first.0) in
    let here : nat_lt 0 x.supporters ≡ q a = first.1 ∙ ap q (plain a) in
    let rest : map (λ y. y.project) (filter (λ y. nat_lt 0 y.supporters) xs) ≡ filter q (range_with_len (a + 1) n) =
    kept-projects q (a + 1) n xs (omega arith) (λ k d within.
    let next = each (suc k) d (omega arith) in (omega (arith, next.0), next.1 ∙ ap q (shifted k))) in
    elim (cases_Bool (q a)) [
      | inl yes' ↦ rw (here, yes', rest) (ap (λ c. c ∷ filter q (range_with_len (a + 1) n)) number)
      | inr no' ↦ rw (here, no') rest
    ]
  where
    plain : (b : ℕ) → b + 0 ≡ b
    plain b = omega arith

    shifted : (k : ℕ) → a + suc k ≡ a + 1 + k
    shifted k = omega arith

all-kept : (P : GroupFigures → Type 0) (q : GroupFigures → Bool) (xs : List GroupFigures)
    → AllByRecursion (λ x. q x ≡ true → P x) xs
    → AllByRecursion P (filter q xs)
all-kept P q [] each = tt
all-kept P q (x ∷ xs) each = elim (cases_Bool (q x)) [
  | inl yes' ↦ rw yes' (each.0 yes', all-kept P q xs each.1)
  | inr no' ↦ rw no' (all-kept P q xs each.1)
]

-- after all voters, a project has as many supporters by the figures as by its ballots where it is unfunded, and else none
supported : (m : Measure) (e : Instance) (w : List Bool) (order : List (ℕ × ℕ)) (c : ℕ) (x : GroupFigures)
    → AreByGot m e w order → Stand m e c (gots e w c order) x
    → nat_lt 0 x.supporters ≡ (not (has w c) && nat_lt 0 (length (supporters e c)))
supported m e w order c x by s = elim (cases_Bool (has w c)) [
  | inl funded ↦
      let none : x.supporters ≡ 0 = s.supporters ∙ ap length (funded-gots e w c order funded) in
      rw (funded, none) refl
  | inr unfunded ↦
      let count : x.supporters ≡ length (supporters e c) =
      s.supporters ∙ one-each (gots e w c order) ∙ supporters-sum (λ n. 1) m e w c order by unfunded
      ∙ sym (one-each (supporters e c)) in
      rw (unfunded, count) refl
]
  where
    one-each : (xs : List ℕ) → length xs ≡ sum_by (λ n. 1) xs
    one-each xs = omega (arith, sum-const 1 xs)

pub all-figures : (m : Measure) (e : Instance) (w : List Bool) (order : List (ℕ × ℕ)) (xs : List GroupFigures)
    → AreByGot m e w order → AllStand m e w order xs
    → AreAllFigures m e w (filter (λ x. nat_lt 0 x.supporters) xs)
all-figures m e w order xs by stand =
    record {
      projects =
          kept-projects (λ c. not (has w c) && nat_lt 0 (length (supporters e c))) 1 (projects e) xs stand.as_many
          (λ k d within.
          let s = stand.each k d within in (
            omega (arith, s.project),
            supported m e w order (k + 1) (get_or xs k d) by s
                ∙ ap (λ c. not (has w c) && nat_lt 0 (length (supporters e c))) (turned k),
          ))
          ∙ sym (filter-filter (λ c. nat_lt 0 (length (supporters e c))) (λ c. not (has w c)) (all_projects e));
      each = All-from_recursion (AreFiguresOf m e w) (filter (λ x. nat_lt 0 x.supporters) xs)
          (all-kept (AreFiguresOf m e w) (λ x. nat_lt 0 x.supporters) xs
          (recursion_from_All (λ x. nat_lt 0 x.supporters ≡ true → AreFiguresOf m e w x) xs (λ k d long some.
          let within : k < projects e = omega (arith, long, stand.as_many) in
          let s = stand.each k d within in
          figures-are m e w (k + 1) order (get_or xs k d) by (
            (omega arith, omega arith),
            free (k + 1) (get_or xs k d) (sym (supported m e w order (k + 1) (get_or xs k d) by s) ∙ some),
          ) s
          (ltb-true 0 (get_or xs k d).supporters some))));
    }
  where
    turned : (k : ℕ) → k + 1 ≡ 1 + k
    turned k = omega arith

    free : (c : ℕ) (x : GroupFigures) → (not (has w c) && nat_lt 0 (length (supporters e c))) ≡ true → has w c ≡ false
    free c x h = elim (cases_Bool (has w c)) [
      | inl funded ↦ absurd (false≢true (sym (rw funded refl) ∙ h))
      | inr unfunded ↦ unfunded
    ]

pub small-needs : (m : Measure) (e : Instance) (w : List Bool) (before : List (ℕ × ℕ)) (xs : List GroupFigures)
    → AllStand m e w before xs → length before ≤ most_voters
    → All AreSmall (filter (λ x. nat_lt 0 x.supporters) xs)
small-needs m e w before xs stand few =
    All-from_recursion AreSmall (filter (λ x. nat_lt 0 x.supporters) xs)
    (all-kept AreSmall (λ x. nat_lt 0 x.supporters) xs
    (recursion_from_All (λ x. nat_lt 0 x.supporters ≡ true → AreSmall x) xs
    (λ k d long some. small k d (can-take m e w before xs stand few k d (omega (arith, long, stand.as_many))))))
  where
    small : (k : ℕ) (d : GroupFigures) → CanTake k (get_or xs k d) → AreSmall (get_or xs k d)
    small k d can = (can.few_voters, can.small)

-- how many there are in the order, and what is needed on top of what each got
pub order-few : (m : Measure) (e : Instance) (w : List Bool) (order : List (ℕ × ℕ)) → AreByGot m e w order
    → IsElection e
    → length order ≤ most_voters
order-few m e w order by sound =
    let long : length order ≡ length (with_got m e w (all_voters e)) =
    length_permutation (with_got m e w (all_voters e)) order by.all in
    let mapped : length (with_got m e w (all_voters e)) ≡ length (all_voters e) = map-long (all_voters e) in
    omega (arith, long, mapped, length-range_with_len 1 (voters e), sound.few_voters)
  where
    map-long : (is : List ℕ) → length (with_got m e w is) ≡ length is
    map-long [] = refl
    map-long (i ∷ is) = omega (arith, map-long is)

pub order-small : (m : Measure) (e : Instance) (w : List Bool) (order : List (ℕ × ℕ)) → AreByGot m e w order
    → IsElection e
    → NeedsAreSmall m e order
order-small m e w order by sound =
    All-weaker (λ (one : ℕ × ℕ). IsVoter e one.1 × (one.0 ≡ got m e w one.1))
    (λ (one : ℕ × ℕ). (c : ℕ) → IsProject e c → need m e c one.0 ≤ most_need)
    (λ one is c project. subst (λ g. need m e c g ≤ most_need) (sym is.1) (need-small m e w one.1 c sound)) order
    (order-all m e w order by)

-- the front of the order has no more
pub take-few : (n : ℕ) (xs order : List (ℕ × ℕ)) → xs ≡ order → length order ≤ most_voters
    → length (take n xs) ≤ most_voters
take-few n xs order is few =
    let less : length (take n xs) ≤ length xs = go n xs in let same : length xs ≡ length order = ap length is in
    omega (arith, less, same, few)
  where
    go : (k : ℕ) (ys : List (ℕ × ℕ)) → length (take k ys) ≤ length ys
    go zero ys = omega arith
    go (suc k) [] = omega arith
    go (suc k) (y ∷ ys) = omega (arith, go k ys)
