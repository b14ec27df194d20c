use Rattle.std.proofs.Common.{◌≤◌, ◌*◌, ℕ, List, ◌∷◌, [], length, refl, arith}
use Rattle.std.proofs.lemmas.Bool.{false≢true, le-leb, leb-true}
use Rattle.std.proofs.lemmas.List.Elements.{All-from_recursion}
use Rattle.pb_election.specs.Instance.{Approves, voters}
use Rattle.pb_certificate.specs.declared.violations.measure.Measure.TheVariants.{ByCost, ByCount}
use Rattle.pb_definition_tests.specs.Weights.{wanting_y, x_outcome}
use Rattle.pb_cohesion.specs.Short.{got, need}
use Rattle.pb_definition_tests.proofs.cohesion.short_groups.Goals as goal

-- the two voters, and one of them
abbrev both : List ℕ
both = 1 ∷ 2 ∷ []

abbrev one : List ℕ
one = 1 ∷ []

pub returns-clause-as_much : goal.returns-clause-as_much
returns-clause-as_much c =
    record {
      not_empty = λ e. cc;
      unfunded = ((omega arith, omega arith), refl);
      group = ((omega arith, omega arith, (omega arith, omega arith, tt)), All-from_recursion (λ i. Approves (wanting_y 8) i 2) both (refl, (refl, tt)));
      enough = All-from_recursion (λ i. voters (wanting_y 8) * need ByCost (wanting_y 8) 2 (got ByCost (wanting_y 8) x_outcome i)
          ≤ length both * (wanting_y 8).limit) both (leb-true _ _ refl, (leb-true _ _ refl, tt));
    }

pub returns-clause-dearer : goal.returns-clause-dearer
returns-clause-dearer c short = false≢true (le-leb _ _ (short.enough 0 0 (omega arith)))

pub returns-clause-half : goal.returns-clause-half
returns-clause-half c =
    record {
      not_empty = λ e. cc;
      unfunded = ((omega arith, omega arith), refl);
      group = ((omega arith, omega arith, (omega arith, omega arith, tt)), All-from_recursion (λ i. Approves (wanting_y 5) i 2) both (refl, (refl, tt)));
      enough = All-from_recursion (λ i. voters (wanting_y 5) * need ByCount (wanting_y 5) 2 (got ByCount (wanting_y 5) x_outcome i)
          ≤ length both * (wanting_y 5).limit) both (leb-true _ _ refl, (leb-true _ _ refl, tt));
    }

pub returns-clause-over_half : goal.returns-clause-over_half
returns-clause-over_half c short = false≢true (le-leb _ _ (short.enough 0 0 (omega arith)))

pub returns-clause-alone : goal.returns-clause-alone
returns-clause-alone c =
    record {
      not_empty = λ e. cc;
      unfunded = ((omega arith, omega arith), refl);
      group = ((omega arith, omega arith, tt), All-from_recursion (λ i. Approves (wanting_y 3) i 2) one (refl, tt));
      enough = All-from_recursion (λ i. voters (wanting_y 3) * need ByCost (wanting_y 3) 2 (got ByCost (wanting_y 3) x_outcome i)
          ≤ length one * (wanting_y 3).limit) one (leb-true _ _ refl, tt);
    }

pub returns-clause-too_few : goal.returns-clause-too_few
returns-clause-too_few c short = false≢true (le-leb _ _ (short.enough 0 0 (omega arith)))
