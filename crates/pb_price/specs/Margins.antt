-- The figures of the projects by a price system, in grains.
use Rattle.std.specs.Prelude.{◌≡◌, ◌*◌, ◌^◌, ℕ, Bool, List, length, map}
use Rattle.pb_election.specs.Instance.{Instance, all_projects, supporters}
use Rattle.pb_election.specs.Outcome.{has}
use Rattle.pb_certificate.specs.Prices.{Prices}
use Rattle.pb_cohesion.specs.Amounts.{cost, left, paid}
use Rattle.pb_cohesion.specs.Conditions.{most_of, sum_ℤ}
use Rattle.pb_price.specs.declared.Margins.{Margins}
use Rattle.pb_price.specs.declared.ProjectMargins.{ProjectMargins}

-- those of project c: what C3 and C4 compare, and what C5 and S5 do
abbrev pub margins_of_project : Instance → List Bool → Prices → ℕ → ProjectMargins
margins_of_project e w p c = record {
  funded = has w c;
  supporters = length (supporters e c);
  cost = cost e p c;
  paid = paid e p c;
  left = sum_ℤ (left e p) (supporters e c);
  offer = sum_ℤ (most_of e p) (supporters e c);
}

-- those of all projects in their order, and how many grains one unit of the currency has
pub record AreMargins (e : Instance) (w : List Bool) (p : Prices) (m : Margins) : Type 0 where
  pub grains_per_unit : m.grains_per_unit ≡ 10 ^ 6 * p.denominator
  pub projects : m.projects.items ≡ map (margins_of_project e w p) (all_projects e)
