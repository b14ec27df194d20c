-- What is found can be told, as lines and as an object: it has a unit, and the projects that it names are those of the
-- election.
use Rattle.std.specs.Prelude.{◌≤◌, ◌<◌, ◌^◌, All, IfSome}
use Rattle.pb_election.specs.Instance.{Instance, IsProject, voters}
use Rattle.pb_election.specs.Outcome.{most_total}
use Rattle.pb_cohesion.specs.Failed.{RefutationNamesProject, ViolationNamesProject}
use Rattle.pb_cohesion.specs.declared.Mode.{Mode}
use Rattle.pb_json.specs.Groups as of_groups
use Rattle.pb_price.specs.Condition.{FindingsNameProjects}
use Rattle.pb_price.specs.First.{verdict_of}
use Rattle.pb_price.specs.Told.{PricesNameProject, first_told}
use Rattle.pb_price.specs.declared.Findings.{Findings}
use Rattle.pb_report.specs.declared.certificate.CertificateFound.{CertificateFound}
use Rattle.pb_report.specs.declared.certificate.CertificateFound.TheVariants as found
use Rattle.pb_report.specs.declared.group.GroupFound.{GroupFound}
use Rattle.pb_report.specs.declared.groups.GroupsFound.{GroupsFound}
use Rattle.pb_report.specs.declared.prices.PricesFound.{PricesFound}
use Rattle.pb_report.specs.declared.report.Report.{Report}
use Rattle.pb_report.specs.declared.report.Report.TheVariants.{Both, Certificate, Groups}
use Rattle.pb_report.specs.declared.weights.WeightsFound.{WeightsFound}

pub record FindingsCanBeTold (e : Instance) (f : Findings) : Type 0 where
  pub unit : 10 ^ 6 ≤ f.grains_per_unit
  pub projects : FindingsNameProjects e f
  pub verdicts : (m : Mode) → PricesNameProject e (verdict_of (first_told m f))

pub record PricesCanBeTold (e : Instance) (p : PricesFound) : Type 0 where
  pub findings : FindingsCanBeTold e p.findings
  pub nearest : IfSome p.nearest (λ g. IsProject e g.project)
  pub voters : IfSome p.nearest (λ g. 0 < voters e)

pub record GroupCanBeTold (e : Instance) (g : GroupFound) : Type 0 where
  pub cost : g.findings.cost ≤ most_total
  pub project : IfSome g.findings.unapproved.first (λ q. IsProject e q.1)
  pub verdict : ViolationNamesProject e g.verdict

pub record WeightsCanBeTold (e : Instance) (r : WeightsFound) : Type 0 where
  pub project : IfSome r.findings.misplaced.first (IsProject e)
  pub verdict : RefutationNamesProject e r.verdict

abbrev pub GroupsCanBeTold : Instance → GroupsFound → Type 0
GroupsCanBeTold e g = All (of_groups.CanBeTold e) g.figures.items

abbrev pub CertificateCanBeTold : Instance → CertificateFound → Type 0
CertificateCanBeTold e (found.Prices p) = PricesCanBeTold e p
CertificateCanBeTold e (found.Group g) = GroupCanBeTold e g
CertificateCanBeTold e (found.Weights r) = WeightsCanBeTold e r

abbrev pub CanBeReported : Instance → Report → Type 0
CanBeReported e (Certificate c) = CertificateCanBeTold e c
CanBeReported e (Groups g) = GroupsCanBeTold e g
CanBeReported e (Both p g) = PricesCanBeTold e p × GroupCanBeTold e g
