-- The table of margins of groups: for each unfunded project with a supporter the group that is shown.
use Rattle.std.specs.Prelude.{◌==◌, ◌-ℤ◌, if◌then◌else◌, ℕ, ℤ, pos, List, [], ◌∷◌, ◌++◌, map, codes, decimal}
use Rattle.std.specs.Fmt.{signed_decimal}
use Rattle.pb_election.specs.Instance.{Instance, id_of, voters}
use Rattle.pb_certificate.specs.declared.violations.measure.Measure.{Measure}
use Rattle.pb_certificate.specs.declared.violations.measure.Measure.TheVariants.{ByCount, ByCost}
use Rattle.pb_cohesion.specs.declared.GroupFigures.{GroupFigures}
use Rattle.pb_records.specs.Records.{Field, Rec}
use Rattle.pb_explain.specs.ShownGroup.{need_of, share_of}

abbrev pub measure_name : Measure → Field
measure_name ByCount = codes "count"
measure_name ByCost = codes "cost"

-- needs, shares and what is missing are numerators over the number of all voters, or over 1 where there are none
abbrev pub denominator : ℕ → ℕ
denominator of_all = if of_all == 0 then 1 else of_all

-- the head: the name of the format and its version, the measure, the denominator, and the columns
abbrev pub group_margin_head : Measure → ℕ → List Rec
group_margin_head m parts =
    (codes "pb-groups" ∷ codes "1" ∷ [])
    ∷ (codes "satisfaction" ∷ measure_name m ∷ [])
    ∷ (codes "denominator" ∷ decimal parts ∷ [])
    ∷ (codes "project" ∷ codes "voters" ∷ codes "most" ∷ codes "need" ∷ codes "share" ∷ codes "missing" ∷ [])
    ∷ []

-- what is missing of the need, which is at most 0 where the group falls short
abbrev pub missing_of : Instance → GroupFigures → ℤ
missing_of e x = pos (need_of e x) -ℤ pos (share_of e x)

-- the row of a project, by its id
abbrev pub group_row : Instance → GroupFigures → Rec
group_row e x =
    id_of e x.project ∷ decimal x.voters ∷ decimal x.most ∷ decimal (need_of e x) ∷ decimal (share_of e x)
    ∷ signed_decimal (missing_of e x) ∷ []

-- the table: the head, and then a row for each of these figures, in their order
abbrev pub group_margin_table : Measure → Instance → List GroupFigures → List Rec
group_margin_table m e xs = group_margin_head m (denominator (voters e)) ++ map (group_row e) xs
