-- The answer with the figures of each project by prices, in grains, and the one with the figures of each group.
use Rattle.std.specs.Prelude.{true, ℕ, Bool, List, [], ◌∷◌, Some, codes, map}
use Rattle.std.specs.List.{zip}
use Rattle.serde_json.specs.Data.{Data}
use Rattle.pb_election.specs.Instance.{Instance, all_projects}
use Rattle.pb_certificate.specs.declared.violations.measure.Measure.{Measure}
use Rattle.pb_cohesion.specs.declared.GroupFigures.{GroupFigures}
use Rattle.pb_price.specs.declared.ProjectMargins.{ProjectMargins}
use Rattle.pb_json.specs.Elections.{election_json, outcome_json}
use Rattle.pb_json.specs.Groups.{group_json}
use Rattle.pb_json.specs.Members.{amount, answer, balance, count, fields, flag, list, text}
use Rattle.pb_json.specs.Places.{project_json}
use Rattle.pb_json.specs.Violations.{measure_word}

-- a project, by its id and its number, with its figures
abbrev pub margin_json : Instance → ℕ × ProjectMargins → Data
margin_json e (c, m) = fields (
    (codes "cost", amount m.cost)
    ∷ (codes "funded", flag m.funded)
    ∷ (codes "left", balance m.left)
    ∷ (codes "number", count c)
    ∷ (codes "offer", balance m.offer)
    ∷ (codes "paid", amount m.paid)
    ∷ (codes "project", project_json e (Some c))
    ∷ (codes "supporters", count m.supporters)
    ∷ [])

-- the projects in the order of the election, each with the figures that stand in its place
abbrev pub projects_json : Instance → List ProjectMargins → Data
projects_json e ms = list (map (margin_json e) (zip (all_projects e) ms))

-- where one unit of the currency has so many grains
abbrev pub margins_json : Instance → List Bool → ℕ → List ProjectMargins → Data
margins_json e w grains_per_unit ms = fields (
    (codes "answer", text (answer true))
    ∷ (codes "election", election_json e)
    ∷ (codes "grains_per_unit", count grains_per_unit)
    ∷ (codes "kind", text (codes "margins"))
    ∷ (codes "outcome", outcome_json e w)
    ∷ (codes "projects", projects_json e ms)
    ∷ (codes "version", count 1)
    ∷ [])

-- the groups in the order of these figures, each as in the answer on groups that fall short
abbrev pub each_group_json : Instance → List GroupFigures → Data
each_group_json e xs = list (map (group_json e) xs)

abbrev pub group_margins_json : Measure → Instance → List Bool → List GroupFigures → Data
group_margins_json measure e w xs = fields (
    (codes "answer", text (answer true))
    ∷ (codes "election", election_json e)
    ∷ (codes "groups", each_group_json e xs)
    ∷ (codes "kind", text (codes "group_margins"))
    ∷ (codes "measure", text (measure_word measure))
    ∷ (codes "outcome", outcome_json e w)
    ∷ (codes "version", count 1)
    ∷ [])
