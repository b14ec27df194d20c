-- Which unfunded project's supporters come nearest to being passed over.
use Rattle.std.specs.Prelude.{◌*◌, ◌+◌, ◌-ℤ◌, ◌==◌, if◌then◌else◌, ℕ, ℤ, pos, Bool, List, Option, None, length, option_map}
use Rattle.pb_election.specs.Instance.{Instance, cost_of, supporters, voters}
use Rattle.pb_cohesion.specs.Groups.{funded_for}
use Rattle.pb_cohesion.specs.Outcome.{unfunded}
use Rattle.pb_price.specs.Findings.{closest}
use Rattle.pb_price.specs.declared.OnGroups.{OnGroups}
use Rattle.pb_price.specs.declared.OnGroups.TheVariants.{Strict, Weak, Little}
use Rattle.pb_price.specs.declared.nearest.NearestGroup.{NearestGroup}

-- The share of a project's supporters in the limit, and what it costs and was funded for them together. Each is taken as
-- many times as there are voters, so that it is a whole number of millionths.
abbrev pub share_of : Instance → ℕ → ℕ
share_of e c = length (supporters e c) * e.limit

abbrev pub bound_of : Instance → List Bool → ℕ → ℕ
bound_of e w c = voters e * (cost_of e c + funded_for e w (supporters e c))

-- the figures of a project
abbrev pub group_of : Instance → List Bool → ℕ → NearestGroup
group_of e w c = record {
  project = c;
  supporters = length (supporters e c);
  funded_for = funded_for e w (supporters e c);
}

-- by how much their share is above that, which is negative where it is below
abbrev pub surplus : Instance → List Bool → ℕ → ℤ
surplus e w c = pos (share_of e c) -ℤ pos (bound_of e w c)

-- the unfunded project at which that is most: of several the first
abbrev pub nearest_group : Instance → List Bool → Option NearestGroup
nearest_group e w = option_map (group_of e w) (closest (unfunded e w) (surplus e w))

-- Which comes nearest to what a yes says of groups. Where it says little there is nothing to come near to, and without
-- voters there are no shares.
abbrev pub nearest_to : OnGroups → Instance → List Bool → Option NearestGroup
nearest_to Strict e w = if voters e == 0 then None else nearest_group e w
nearest_to Weak e w = if voters e == 0 then None else nearest_group e w
nearest_to Little e w = None
