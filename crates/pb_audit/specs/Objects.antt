-- The JSON object of a reply, as a text. Proofs open one where it is made, and nowhere else.
use Rattle.std.specs.Prelude.{ℕ, Bool, List, Option, None}
use Rattle.pb_election.specs.Instance.{Instance}
use Rattle.pb_certificate.specs.declared.violations.measure.Measure.{Measure}
use Rattle.pb_cohesion.specs.declared.GroupFigures.{GroupFigures}
use Rattle.pb_cohesion.specs.declared.RefutationFindings.{RefutationFindings}
use Rattle.pb_cohesion.specs.declared.RefutationVerdict.{RefutationVerdict}
use Rattle.pb_cohesion.specs.declared.ViolationFindings.{ViolationFindings}
use Rattle.pb_cohesion.specs.declared.ViolationVerdict.{ViolationVerdict}
use Rattle.pb_json.specs.Answers.{both_json}
use Rattle.pb_json.specs.Elections.{read_json}
use Rattle.pb_json.specs.Prices.{prices_json}
use Rattle.pb_json.specs.Refutations.{refutation_json}
use Rattle.pb_json.specs.Groups.{groups_json}
use Rattle.pb_json.specs.Margins.{group_margins_json, margins_json}
use Rattle.pb_json.specs.Violations.{violation_json}
use Rattle.pb_price.specs.declared.Findings.{Findings}
use Rattle.pb_cohesion.specs.declared.Mode.{Mode}
use Rattle.pb_price.specs.declared.ProjectMargins.{ProjectMargins}
use Rattle.pb_price.specs.declared.Verdict.{Verdict}
use Rattle.pb_price.specs.declared.nearest.NearestGroup.{NearestGroup}
use Rattle.serde_json.specs.Written.{compact_text}
use Rattle.pb_records.specs.Records.{Text}

-- on an election that was read
unfoldable pub read_text : Instance → Text
read_text e = compact_text (read_json e)

-- on prices, on a group and its demand, and on weights: the verdict, and what each condition or test comes to
unfoldable pub price_text : Mode → Instance → List Bool → Verdict → Findings → Option NearestGroup → Text
price_text m e w v f nearest = compact_text (prices_json m e w v f nearest)

unfoldable pub violation_text : Measure → Instance → List Bool → ViolationVerdict → ViolationFindings → Text
violation_text k e w v f = compact_text (violation_json k e w v f)

unfoldable pub refutation_text : Instance → List Bool → RefutationVerdict → RefutationFindings → Text
refutation_text e w v f = compact_text (refutation_json e w v f)

-- on groups that fall short, by the figures of all projects
unfoldable pub groups_text : Measure → Instance → List Bool → List GroupFigures → Text
groups_text m e w xs = compact_text (groups_json m e w xs)

-- on margins: the figures of each project, in grains, and those of each group
unfoldable pub margins_text : Instance → List Bool → ℕ → List ProjectMargins → Text
margins_text e w grains_per_unit ms = compact_text (margins_json e w grains_per_unit ms)

unfoldable pub group_margins_text : Measure → Instance → List Bool → List GroupFigures → Text
group_margins_text m e w xs = compact_text (group_margins_json m e w xs)

-- on prices and on a group and its demand, and whether both are a yes
unfoldable pub both_text : Mode → Instance → List Bool → Verdict → Findings → Measure → ViolationVerdict
    → ViolationFindings → Bool → Text
both_text m e w v f k of_group found all =
    compact_text (both_json all (prices_json m e w v f None) (violation_json k e w of_group found))
