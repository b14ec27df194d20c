-- The projects that a finding names are those of the election, as it is told.
use Rattle.std.specs.Prelude.{IfSome, Option, Some, None}
use Rattle.pb_election.specs.Instance.{Instance}
use Rattle.pb_price.specs.Condition as price
use Rattle.pb_price.specs.declared.Finding.{Finding}
use Rattle.pb_json.specs.Prices.{FindingCanBeTold}
use Rattle.pb_json.specs.declared.places.At.TheVariants.{Voter, Project}

if-any : {A : Type 0} (P : A → Type 0) (o : Option A) → ((x : A) → P x) → IfSome o P
if-any P None each = tt
if-any P (Some x) each = each x

-- a finding on voters names none
pub voters_name_none : (e : Instance) (f : Finding) → FindingCanBeTold e Voter f
voters_name_none e f = record { first = if-any _ f.first (λ x. tt); shown = if-any _ f.shown (λ m. tt) }

pub projects_named : (e : Instance) (f : Finding) → price.FindingNamesProjects e f → FindingCanBeTold e Project f
projects_named e f named = record { first = named.first; shown = named.shown }
