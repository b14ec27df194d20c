-- Where a condition or a test is false: at a voter, at a project, or at a voter and a project.
use Rattle.std.specs.Prelude.{ℕ, [], ◌∷◌, IfSome, Option, Some, None, codes}
use Rattle.serde_json.specs.Data.{Data}
use Rattle.pb_election.specs.Instance.{Instance, IsProject, id_of}
use Rattle.pb_cohesion.specs.Failed.{Failed}
use Rattle.pb_json.specs.Members.{count, fields, or_null, text}
use Rattle.pb_json.specs.declared.places.At.{At}
use Rattle.pb_json.specs.declared.places.At.TheVariants.{Voter, Project}
use Rattle.pb_json.specs.declared.places.Place.{Place}

abbrev pub nowhere : Place
nowhere = record { voter = None; project = None }

abbrev pub at_voter : ℕ → Place
at_voter i = record { voter = Some i; project = None }

abbrev pub at_project : ℕ → Place
at_project j = record { voter = None; project = Some j }

abbrev pub at_both : ℕ × ℕ → Place
at_both q = record { voter = Some q.0; project = Some q.1 }

-- the place of this number among voters, or among projects
abbrev pub place_at : At → ℕ → Place
place_at Voter i = at_voter i
place_at Project j = at_project j

-- its project is one of the election
abbrev pub NamesProject : Instance → Place → Type 0
NamesProject e p = IfSome p.project (IsProject e)

-- voters are told by their numbers, from 1, and projects by their ids
abbrev pub voter_json : Option ℕ → Data
voter_json voter = or_null count voter

abbrev pub project_json : Instance → Option ℕ → Data
project_json e project = or_null (λ j. text (id_of e j)) project

abbrev pub place_json : Instance → Place → Data
place_json e p = fields (
    (codes "project", project_json e p.project)
    ∷ (codes "voter", voter_json p.voter)
    ∷ [])

abbrev pub place_or_null : Instance → Option Place → Data
place_or_null e place = or_null (place_json e) place

abbrev pub pair_or_null : Instance → Option (ℕ × ℕ) → Data
pair_or_null e pair = or_null (λ q. place_json e (at_both q)) pair

-- a condition or a test that fails, by its name, and where it does
abbrev pub failed_json : Instance → Failed → Data
failed_json e f = fields (
    (codes "name", text f.name)
    ∷ (codes "project", project_json e f.project)
    ∷ (codes "voter", voter_json f.voter)
    ∷ [])
