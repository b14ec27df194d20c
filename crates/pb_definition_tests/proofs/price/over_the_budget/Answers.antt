use Rattle.std.proofs.Common.{[], ◌∷◌, refl, arith}
use Rattle.std.specs.Prelude.{pos, ◌≤ℤ◌}
use Rattle.std.proofs.lemmas.Int.{ints}
use Rattle.std.proofs.lemmas.List.Elements.{All-from_recursion}
use Rattle.pb_election.specs.Instance.{Approves}
use Rattle.pb_definition_tests.specs.Samples.{sample_outcome}
use Rattle.pb_cohesion.specs.Groups.{IsGroupWithin}
use Rattle.pb_cohesion.specs.Outcome.{IsUnfunded}
use Rattle.pb_definition_tests.specs.Prices.{overpaying_election}
use Rattle.pb_definition_tests.proofs.price.over_the_budget.Goals as goal

pub returns-clause-verdict : goal.returns-clause-verdict
returns-clause-verdict c = refl

pub returns-clause-not_supported : goal.returns-clause-not_supported
returns-clause-not_supported c none =
    let unfunded : IsUnfunded overpaying_election sample_outcome 3 = ((omega arith, omega arith), refl) in
    let group : IsGroupWithin overpaying_election (3 ∷ []) 3 = (
      (omega arith, omega arith, tt),
      All-from_recursion (λ i. Approves overpaying_election i 3) (3 ∷ []) (refl, tt),
    ) in
    let at_most : pos 2000000 ≤ℤ pos 1000000 = none (3 ∷ []) 3 unfunded group in
    absurd (omega (arith, ints))
