-- How a condition or a test that fails is told: its number and its name, and the voter and the project at which it does.
use Rattle.std.specs.Prelude.{ℕ, IfSome, Option, Some, None, codes}
use Rattle.pb_records.specs.Records.{Text}
use Rattle.pb_election.specs.Instance.{Instance, IsProject}
use Rattle.pb_cohesion.specs.declared.RefutationFailure.{RefutationFailure}
use Rattle.pb_cohesion.specs.declared.RefutationFailure.TheVariants.{U1, U2, U3}
use Rattle.pb_cohesion.specs.declared.RefutationVerdict.{RefutationVerdict}
use Rattle.pb_cohesion.specs.declared.RefutationVerdict.TheVariants as refutation_verdict
use Rattle.pb_cohesion.specs.declared.ViolationFailure.{ViolationFailure}
use Rattle.pb_cohesion.specs.declared.ViolationFailure.TheVariants.{V1, V2, V3, V4}
use Rattle.pb_cohesion.specs.declared.ViolationVerdict.{ViolationVerdict}
use Rattle.pb_cohesion.specs.declared.ViolationVerdict.TheVariants as violation_verdict

pub record Failed : Type 0 where
  pub number : ℕ
  pub name : Text
  pub voter : Option ℕ
  pub project : Option ℕ

abbrev pub failed : ℕ → Text → Option ℕ → Option ℕ → Failed
failed number name voter project = record { number = number; name = name; voter = voter; project = project }

-- a test of a violation certificate; of a refutation
abbrev pub violation_failed : ViolationFailure → Failed
violation_failed V1 = failed 11 (codes "V1") None None
violation_failed (V2 i j) = failed 12 (codes "V2") (Some i) (Some j)
violation_failed V3 = failed 13 (codes "V3") None None
violation_failed (V4 i) = failed 14 (codes "V4") (Some i) None

abbrev pub refutation_failed : RefutationFailure → Failed
refutation_failed (U1 j) = failed 21 (codes "U1") None (Some j)
refutation_failed U2 = failed 22 (codes "U2") None None
refutation_failed U3 = failed 23 (codes "U3") None None

-- a group falls short, for this project
abbrev pub short_failed : ℕ → Failed
short_failed j = failed 31 (codes "EJR+") None (Some j)

-- The project that it names is one of the election; and that of the test by which a verdict is no.
abbrev pub NamesProject : Instance → Failed → Type 0
NamesProject e f = IfSome f.project (IsProject e)

abbrev pub ViolationNamesProject : Instance → ViolationVerdict → Type 0
ViolationNamesProject e violation_verdict.Violation = Unit {0}
ViolationNamesProject e (violation_verdict.Failed f) = NamesProject e (violation_failed f)

abbrev pub RefutationNamesProject : Instance → RefutationVerdict → Type 0
RefutationNamesProject e refutation_verdict.Unpriceable = Unit {0}
RefutationNamesProject e refutation_verdict.UnpriceableUnderCover = Unit {0}
RefutationNamesProject e refutation_verdict.UnpriceableStable = Unit {0}
RefutationNamesProject e refutation_verdict.UnpriceableStableUnderCover = Unit {0}
RefutationNamesProject e (refutation_verdict.Failed f) = NamesProject e (refutation_failed f)
