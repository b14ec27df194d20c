use Rattle.std.proofs.Common.{◌<◌, ◌≤◌, ℕ, List, [], ◌∷◌, refl, arith}
use Rattle.std.specs.Prelude.{All, ◌≢◌}
use Rattle.std.proofs.lemmas.List.Elements.{All-from_recursion}
use Rattle.pb_election.specs.Instance.{Approves}
use Rattle.pb_definition_tests.specs.Samples.{sample_outcome}
use Rattle.pb_cohesion.specs.Groups.{Cohesive, IsGroup, IsGroupWithin}
use Rattle.pb_cohesion.specs.Outcome.{IsUnfunded}
use Rattle.pb_definition_tests.specs.Prices.{none_funded, pool_of_two}
use Rattle.pb_definition_tests.proofs.price.shares_of_groups.Goals as goal

some : (i : ℕ) (s : List ℕ) → (i ∷ s) ≢ []
some i s h = cc

-- voters 2 and 3
is_group : IsGroup pool_of_two (2 ∷ 3 ∷ [])
is_group = (omega arith, omega arith, (omega arith, omega arith, tt))

within : IsGroupWithin pool_of_two (2 ∷ 3 ∷ []) 3
within = (is_group, All-from_recursion (λ i. Approves pool_of_two i 3) (2 ∷ 3 ∷ []) (refl, (refl, tt)))

-- They approve the park and the pool, and have a share of what both cost.
cohesive : Cohesive pool_of_two (2 ∷ 3 ∷ []) (1 ∷ 3 ∷ [])
cohesive = record {
  not_empty = some 2 (3 ∷ []);
  approve = All-from_recursion (λ i. All (λ j. Approves pool_of_two i j) (1 ∷ 3 ∷ [])) (2 ∷ 3 ∷ [])
      (both 2 refl refl, (both 3 refl refl, tt));
  large = omega arith;
}
  where
    both : (i : ℕ) → Approves pool_of_two i 1 → Approves pool_of_two i 3
        → All (λ j. Approves pool_of_two i j) (1 ∷ 3 ∷ [])
    both i park pool = All-from_recursion (λ j. Approves pool_of_two i j) (1 ∷ 3 ∷ []) (park, (pool, tt))

unfunded : IsUnfunded pool_of_two sample_outcome 3
unfunded = ((omega arith, omega arith), refl)

pool_unfunded : IsUnfunded pool_of_two none_funded 3
pool_unfunded = ((omega arith, omega arith), refl)

pub returns-clause-group_passed_over : goal.returns-clause-group_passed_over
returns-clause-group_passed_over c none =
    none (2 ∷ 3 ∷ []) 3
    (record { not_empty = some 2 (3 ∷ []); unfunded = unfunded; group = within; large = omega arith })

pub returns-clause-demand_passed_over : goal.returns-clause-demand_passed_over
returns-clause-demand_passed_over c none =
    let less : 8000000 < 8000000 = none (2 ∷ 3 ∷ []) (1 ∷ 3 ∷ []) is_group cohesive 1 0 (omega arith) unfunded in
    absurd (omega arith)

pub returns-clause-poor_share : goal.returns-clause-poor_share
returns-clause-poor_share c shares =
    let at_most : 24000000 ≤ 18000000 = shares (2 ∷ 3 ∷ []) 3 pool_unfunded within in absurd (omega arith)

pub returns-clause-poor_demand : goal.returns-clause-poor_demand
returns-clause-poor_demand c demands =
    let at_most : 8000000 ≤ 6000000 =
    demands (2 ∷ 3 ∷ []) (1 ∷ 3 ∷ []) is_group cohesive 1 0 (omega arith) pool_unfunded in
    absurd (omega arith)
