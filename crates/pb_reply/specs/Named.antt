-- The project that a verdict on groups names is one of the election.
use Rattle.pb_election.specs.Instance.{Instance, IsProject}
use Rattle.pb_cohesion.specs.declared.GroupsVerdict.{GroupsVerdict}
use Rattle.pb_cohesion.specs.declared.GroupsVerdict.TheVariants as groups_verdict

abbrev pub GroupsNameProject : Instance → GroupsVerdict → Type 0
GroupsNameProject e groups_verdict.Satisfied = Unit {0}
GroupsNameProject e (groups_verdict.Failed c k) = IsProject e c
