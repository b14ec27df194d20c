-- Groups that fall short, by a measure of what voters got: extended justified representation up to any project (EJR+),
-- after Brill and Peters (2023), for projects with costs. An election and an outcome decide it.
use Rattle.std.specs.Prelude.{◌≢◌, ◌≤◌, ◌+◌, ◌*◌, ℕ, All, Bool, Contains, List, [], length}
use Rattle.pb_election.specs.Instance.{Instance, cost_of, voters}
use Rattle.pb_certificate.specs.declared.violations.measure.Measure.{Measure}
use Rattle.pb_certificate.specs.declared.violations.measure.Measure.TheVariants.{ByCount, ByCost}
use Rattle.pb_cohesion.specs.Groups.{IsGroupWithin, gets, sat}
use Rattle.pb_cohesion.specs.Outcome.{IsUnfunded}
use Rattle.pb_cohesion.specs.Satisfactions.{worth_by}

-- what voter i got: the worth of the funded projects of its ballot
abbrev pub got : Measure → Instance → List Bool → ℕ → ℕ
got m e w i = sat (worth_by m e) (gets e w i)

-- What a share of the limit has to come to for project c on top of what one member got: the cost of the project and of
-- what it got, or by counting, the cost of the project for each project that it got, and once more.
abbrev pub need : Measure → Instance → ℕ → ℕ → ℕ
need ByCost e c has_got = cost_of e c + has_got
need ByCount e c has_got = cost_of e c * (has_got + 1)

-- A group falls short: it is not empty, all its members approve an unfunded project c, and its share of the limit would
-- have been enough for c on top of what any one of them got.
pub record FallsShort (m : Measure) (e : Instance) (w : List Bool) (s : List ℕ) (c : ℕ) : Type 0 where
  pub not_empty : s ≢ []
  pub unfunded : IsUnfunded e w c
  pub group : IsGroupWithin e s c
  pub enough : All (λ i. voters e * need m e c (got m e w i) ≤ length s * e.limit) s

-- EJR+ up to any project: no group falls short for any project
abbrev pub SatisfiesEjrPlus : Measure → Instance → List Bool → Type 0
SatisfiesEjrPlus m e w = (s : List ℕ) (c : ℕ) → FallsShort m e w s c → ⊥

-- s is the largest group that falls short for c: each of the others is a part of it
pub record IsLargestShort (m : Measure) (e : Instance) (w : List Bool) (s : List ℕ) (c : ℕ) : Type 0 where
  pub short : FallsShort m e w s c
  pub largest : (t : List ℕ) → FallsShort m e w t c → All (λ i. Contains s i) t

-- c is the lowest project for which a group falls short, and s is the largest such group
pub record IsFirstShort (m : Measure) (e : Instance) (w : List Bool) (s : List ℕ) (c : ℕ) : Type 0 where
  pub largest : IsLargestShort m e w s c
  pub lowest : (t : List ℕ) (d : ℕ) → FallsShort m e w t d → c ≤ d
