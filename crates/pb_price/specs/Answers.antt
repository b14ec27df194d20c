-- What a verdict on prices says.
use Rattle.std.specs.Prelude.{◌≡◌, ◌↔◌, ◌≤◌, ◌+◌, ◌*◌, ℕ, Bool, List, drop, length}
use Rattle.pb_election.specs.Instance.{Instance, approvals, projects, voters}
use Rattle.pb_records.specs.Cells.{nonblank}
use Rattle.pb_certificate.specs.Faults.{certificate_records}
use Rattle.pb_certificate.specs.Prices.{Prices}
use Rattle.pb_cohesion.specs.EveryGroup.{SupportersBlock, SupportersHaveMoreLeft}
use Rattle.pb_price.specs.First.{First, verdict_of}
use Rattle.pb_price.specs.Promises.{YesPromises}
use Rattle.pb_price.specs.Supports.{Supports}
use Rattle.pb_price.specs.declared.Failure.TheVariants as failure
use Rattle.pb_cohesion.specs.declared.Mode.{Mode}
use Rattle.pb_price.specs.declared.Verdict.{Verdict}
use Rattle.pb_price.specs.declared.Verdict.TheVariants as verdict

-- the verdict is the one for these prices, with what it says of every group and of every refutation
pub record IsVerdictOn (m : Mode) (e : Instance) (w : List Bool) (p : Prices) (v : Verdict) : Type 0 where
  pub first : v ≡ verdict_of (First m e w p)
  pub supported : (v ≡ verdict.Supported) ↔ Supports m e w p
  pub yes : v ≡ verdict.Supported → YesPromises m e w p
  -- what a no by the last condition says of the supporters of the project that it names
  pub plain_no : (c : ℕ) → v ≡ verdict.Failed (failure.C5 c) → SupportersHaveMoreLeft e p c
  pub stable_no : (c : ℕ) → v ≡ verdict.Failed (failure.S5 c) → SupportersBlock e w p c

-- how many rows of payments a certificate has: its records that are not blank, but for the four of the head
abbrev pub row_count : List ℕ → ℕ
row_count bytes = length (drop 4 (nonblank (certificate_records bytes)))

-- at least a step for each row and each voter; at most one for each row, two for each approval, one for each voter, and
-- two for each project
pub record AreStepsOf (e : Instance) (rows steps : ℕ) : Type 0 where
  pub fewest : rows + voters e ≤ steps
  pub most : steps ≤ rows + 2 * approvals e.ballots + voters e + 2 * projects e
