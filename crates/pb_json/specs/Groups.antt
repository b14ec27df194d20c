-- The answer on groups that fall short, with the figures of one group; and the group that comes nearest to what a yes to
-- prices says. Amounts are in millionths of the currency.
use Rattle.std.specs.Prelude.{◌*◌, ◌-ℤ◌, Bool, true, false, pos, List, [], ◌∷◌, Option, Some, None, codes}
use Rattle.serde_json.specs.Data.{Data}
use Rattle.pb_election.specs.Instance.{Instance, IsProject, cost_of, voters}
use Rattle.pb_certificate.specs.declared.violations.measure.Measure.{Measure}
use Rattle.pb_cohesion.specs.Failed.{short_failed}
use Rattle.pb_cohesion.specs.Shown.{AreSmall, first_short, shown}
use Rattle.pb_cohesion.specs.declared.GroupFigures.{GroupFigures}
use Rattle.pb_price.specs.declared.nearest.NearestGroup.{NearestGroup}
use Rattle.pb_json.specs.Elections.{election_json, outcome_json}
use Rattle.pb_json.specs.Members.{amount, answer, balance, count, fields, or_null, text}
use Rattle.pb_json.specs.Places.{failed_json, project_json}
use Rattle.pb_json.specs.Violations.{measure_word}

-- a sum as a numerator over the number of all voters
abbrev pub over_voters : Instance → Data → Data
over_voters e numerator = fields (
    (codes "denominator", count (voters e))
    ∷ (codes "numerator", numerator)
    ∷ [])

-- what the project of a group costs, the group's share of the limit, and what is missing of what that has to come to,
-- which is at most 0 where the group falls short
abbrev pub cost_json : Instance → GroupFigures → Data
cost_json e x = amount (cost_of e x.project)

abbrev pub share_json : Instance → GroupFigures → Data
share_json e x = over_voters e (amount (x.voters * e.limit))

abbrev pub missing_json : Instance → GroupFigures → Data
missing_json e x = over_voters e (balance (pos (voters e * x.need) -ℤ pos (x.voters * e.limit)))

-- a group for a project, by its id and its number
abbrev pub group_json : Instance → GroupFigures → Data
group_json e x = fields (
    (codes "cost", cost_json e x)
    ∷ (codes "missing", missing_json e x)
    ∷ (codes "most", amount x.most)
    ∷ (codes "need", amount x.need)
    ∷ (codes "number", count x.project)
    ∷ (codes "project", project_json e (Some x.project))
    ∷ (codes "share", share_json e x)
    ∷ (codes "supporters", count x.supporters)
    ∷ (codes "voters", count x.voters)
    ∷ [])

-- the supporters of a project who come nearest to what a yes to prices says of groups: what it costs, what was funded for
-- them, and their share of the limit
abbrev pub nearest_json : Instance → NearestGroup → Data
nearest_json e g = fields (
    (codes "cost", amount (cost_of e g.project))
    ∷ (codes "funded_for", amount g.funded_for)
    ∷ (codes "number", count g.project)
    ∷ (codes "project", project_json e (Some g.project))
    ∷ (codes "share", over_voters e (amount (g.supporters * e.limit)))
    ∷ (codes "supporters", count g.supporters)
    ∷ [])

abbrev pub failed_groups : Instance → Option GroupFigures → Data
failed_groups e x = or_null (λ x. failed_json e (short_failed x.project)) x

abbrev pub is_yes : Option GroupFigures → Bool
is_yes None = true
is_yes (Some x) = false

abbrev pub groups_json : Measure → Instance → List Bool → List GroupFigures → Data
groups_json measure e w xs = fields (
    (codes "answer", text (answer (is_yes (first_short xs))))
    ∷ (codes "election", election_json e)
    ∷ (codes "failed", failed_groups e (first_short xs))
    ∷ (codes "group", or_null (group_json e) (shown xs))
    ∷ (codes "kind", text (codes "groups"))
    ∷ (codes "measure", text (measure_word measure))
    ∷ (codes "outcome", outcome_json e w)
    ∷ (codes "version", count 1)
    ∷ [])

-- the figures are of a project of the election, and small enough for the sums
abbrev pub CanBeTold : Instance → GroupFigures → Type 0
CanBeTold e x = IsProject e x.project × AreSmall x
