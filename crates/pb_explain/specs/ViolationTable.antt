-- The table of the tests of a violation, by what each of them comes to.
use Rattle.std.specs.Prelude.{◌==◌, ◌*◌, ◌^◌, if◌then◌else◌, nat_le, nat_lt, ℕ, List, [], ◌∷◌, ◌++◌, Option, Some, None, codes, decimal}
use Rattle.pb_election.specs.Instance.{Instance, id_of, voters}
use Rattle.pb_certificate.specs.declared.violations.measure.Measure.{Measure}
use Rattle.pb_certificate.specs.declared.violations.measure.Measure.TheVariants.{ByCount, ByCost}
use Rattle.pb_cohesion.specs.declared.MissingApprovals.{MissingApprovals}
use Rattle.pb_cohesion.specs.declared.ViolationFindings.{ViolationFindings}
use Rattle.pb_records.specs.Records.{Text}
use Rattle.pb_explain.specs.Amounts.{amount}
use Rattle.pb_explain.specs.Rows.{how_many, opening, voter}

-- V1
unfoldable pub members : ℕ → ℕ → Text
members count of_all = decimal count ++ codes " of " ++ decimal of_all ++ codes " voters are in the group"

abbrev pub v1_line : Instance → ViolationFindings → Text
v1_line e f = opening (codes "V1          ") (nat_lt 0 f.members) ++ members f.members (voters e)

-- V2: where a member doesn't approve a demanded project
unfoldable pub missing : Instance → ℕ → ℕ → ℕ → Text
missing e i j count =
    voter i ++ codes " doesn't approve project " ++ id_of e j
    ++ how_many (codes "such pairs of a member and a project") count

abbrev pub approvals_told : Instance → ℕ → Option (ℕ × ℕ) → Text
approvals_told e count None = codes "each member approves each demanded project"
approvals_told e count (Some q) = missing e q.0 q.1 count

abbrev pub v2_line : Instance → MissingApprovals → Text
v2_line e f = opening (codes "V2          ") (f.count == 0) ++ approvals_told e f.count f.first

-- V3: each millionth is cut into as many parts as there are voters, and of them the group's share is a whole number
unfoldable pub share : ℕ → ℕ → ℕ → Text
share parts_per_unit parts cost =
    codes "the group's share of the limit is " ++ amount parts_per_unit parts
    ++ codes "; the demanded projects cost " ++ amount (10 ^ 6) cost

abbrev pub share_told : ℕ → ℕ → ℕ → Text
share_told of_all parts cost = if of_all == 0 then codes "there are no voters" else share (10 ^ 6 * of_all) parts cost

abbrev pub v3_line : Instance → ViolationFindings → Text
v3_line e f =
    opening (codes "V3          ") (nat_le (voters e * f.cost) (f.members * e.limit))
    ++ share_told (voters e) (f.members * e.limit) f.cost

-- V4, by the measure that is stated
abbrev pub measure_words : Measure → Text
measure_words ByCount = codes "by count"
measure_words ByCost = codes "by cost"

abbrev pub worth : Measure → ℕ → Text
worth ByCount x = decimal x
worth ByCost x = amount (10 ^ 6) x

unfoldable pub less : Measure → ℕ → ℕ → Text
less m demanded gets =
    measure_words m ++ codes " the demanded projects are worth " ++ worth m demanded
    ++ codes ", and each member gets at most " ++ worth m gets

unfoldable pub enough : Measure → ℕ → ℕ → ℕ → ℕ → Text
enough m demanded gets i count =
    measure_words m ++ codes " the demanded projects are worth " ++ worth m demanded
    ++ codes ", and " ++ voter i ++ codes " gets " ++ worth m gets ++ how_many (codes "members who get enough") count

abbrev pub satisfied_told : Measure → ℕ → ℕ → ℕ → Option ℕ → Text
satisfied_told m demanded gets count None = less m demanded gets
satisfied_told m demanded gets count (Some i) = enough m demanded gets i count

abbrev pub v4_line : Measure → ViolationFindings → Text
v4_line m f =
    opening (codes "V4          ") (f.satisfied.count == 0)
    ++ satisfied_told m f.demanded f.gets f.satisfied.count f.satisfied.first

-- the lines, in the order of the tests
abbrev pub violation_table : Measure → Instance → ViolationFindings → List Text
violation_table m e f = v1_line e f ∷ v2_line e f.unapproved ∷ v3_line e f ∷ v4_line m f ∷ []
