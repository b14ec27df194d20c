-- What a violation certificate claims against extended justified representation, as Peters, Pierczyński and Skowron
-- (2021) define it: a group of voters, the projects that it demands, and by what both are measured.
-- The certificate's form is this project's own.
pub mod Text
pub mod Kind
use Rattle.std.specs.Prelude.{◌≡◌, ℕ, List}
use Rattle.pb_election.specs.Instance.{Instance, IsSet, projects, voters}
use Rattle.pb_certificate.specs.declared.violations.measure.Measure.{Measure}

-- The sets are the lists of their members, rising.
pub record Claim : Type 0 where
  pub voters : ℕ  -- how many voters there are to form a group
  pub projects : ℕ  -- and how many projects to be demanded
  pub measure : Measure
  pub group : List ℕ
  pub demand : List ℕ

-- what holds of each claim, whatever the election
pub record IsClaim (c : Claim) : Type 0 where
  pub group : IsSet 1 c.voters c.group
  pub demand : IsSet 1 c.projects c.demand

-- the claim speaks of as many voters and projects as the election has
pub record ClaimFits (c : Claim) (e : Instance) : Type 0 where
  pub each_voter : c.voters ≡ voters e
  pub each_project : c.projects ≡ projects e
