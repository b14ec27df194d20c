use Rattle.std.proofs.Common.{◌≤◌, ℕ, [], ◌∷◌, refl, arith, inr}
use Rattle.std.proofs.lemmas.List.Elements.{All-from_recursion}
use Rattle.pb_election.specs.Instance.{Approves}
use Rattle.pb_cohesion.specs.Amounts.{pays}
use Rattle.pb_definition_tests.specs.Samples.{sample_outcome, sample_with_costs}
use Rattle.pb_cohesion.specs.Groups.{Blocks, IsGroupWithin, Offer}
use Rattle.pb_cohesion.specs.Outcome.{IsFunded, IsUnfunded}
use Rattle.pb_definition_tests.specs.Prices.{moved_prices}
use Rattle.pb_definition_tests.proofs.price.left_and_offered.Goals as goal

pub returns-clause-not_added : goal.returns-clause-not_added
returns-clause-not_added c block = grind arith

pub returns-clause-not_left_alone : goal.returns-clause-not_left_alone
returns-clause-not_left_alone c none =
    let offers : ℕ → ℕ = λ i. 4000000 in
    let funded : IsFunded (sample_with_costs 6 4 2) sample_outcome 2 = ((omega arith, omega arith), refl) in
    let paid : 4000000 ≤ pays moved_prices 3 2 = omega arith in
    let offer : Offer (sample_with_costs 6 4 2) sample_outcome moved_prices 3 4000000 = inr (2, funded, paid) in
    let unfunded : IsUnfunded (sample_with_costs 6 4 2) sample_outcome 3 = ((omega arith, omega arith), refl) in
    let group : IsGroupWithin (sample_with_costs 6 4 2) (3 ∷ []) 3 = (
      (omega arith, omega arith, tt),
      All-from_recursion (λ i. Approves (sample_with_costs 6 4 2) i 3) (3 ∷ []) (refl, tt),
    ) in
    let blocks : Blocks (sample_with_costs 6 4 2) sample_outcome moved_prices (3 ∷ []) 3 (λ i. 4000000) = record {
      unfunded = unfunded;
      group = group;
      offers = All-from_recursion (λ i. Offer (sample_with_costs 6 4 2) sample_outcome moved_prices i 4000000) (3 ∷ [])
          (offer, tt);
      more = omega arith;
    } in
    none (3 ∷ []) 3 (λ i. 4000000) blocks
