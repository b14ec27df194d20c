-- What the values stand for that the code makes of a certificate on the way to a page. What a page answers is said
-- without them, in `Answers`.
use Rattle.std.specs.Prelude.{◌≡◌, ℕ, Bool, List, ◌∷◌, ◌++◌, Ok, Err, Option, Some, None, map, option_to_list, string_bytes}
use Rattle.pb_records.specs.Loading.{Delivery}
use Rattle.pb_election.specs.Instance.{Instance, all_projects, cost_of, voters}
use Rattle.pb_certificate.specs.declared.violations.measure.Measure.{Measure}
use Rattle.pb_cohesion.specs.Outcome.{total}
use Rattle.pb_cohesion.specs.Shown.{shown}
use Rattle.pb_cohesion.specs.declared.Mode.{Mode}
use Rattle.pb_price.specs.declared.nearest.NearestGroup.{NearestGroup}
use Rattle.pb_reply.specs.Certificates.{Certificate, StatesCertificate, certificate_status}
use Rattle.pb_reply.specs.Inputs.{Stated, StatesElection}
use Rattle.pb_reply.specs.Replies.{Answer, groups_status}
use Rattle.pb_reply.specs.Turns.{Turn}
use Rattle.pb_reply.specs.declared.status.Status.{Status}
use Rattle.pb_report.specs.Found.{certificate_ends, verdict_line}
use Rattle.pb_report.specs.declared.certificate.CertificateFound.{CertificateFound}
use Rattle.pb_report.specs.declared.certificate.CertificateFound.TheVariants as certificate
use Rattle.pb_report.specs.declared.group.GroupFound.{GroupFound}
use Rattle.pb_report.specs.declared.groups.GroupsFound.{GroupsFound}
use Rattle.pb_report.specs.declared.prices.PricesFound.{PricesFound}
use Rattle.pb_report.specs.declared.weights.WeightsFound.{WeightsFound}
use Rattle.pb_case.specs.Shown.{ShowsLine}
use Rattle.pb_case.specs.declared.case.InputFile.{InputFile}
use Rattle.pb_case.specs.declared.case.PageFiles.{PageFiles}
use Rattle.pb_markup.specs.Pieces.{Piece, rendering}
use Rattle.pb_markup.specs.Shown.{shows_of}
use Rattle.pb_price_parts.specs.Rows.{ListsProjects}
use Rattle.pb_figures.specs.Told.{verdict_on_groups}
use Rattle.pb_figures.specs.declared.short_groups.ShortFigures.{ShortFigures}
use Rattle.pb_figures.specs.declared.refutations.RefutationFigures.{RefutationFigures}
use Rattle.pb_figures.specs.declared.told.CertificateFigures.{CertificateFigures}
use Rattle.pb_figures.specs.declared.told.CertificateFigures.TheVariants as found
use Rattle.pb_figures.specs.declared.told.PriceFigures.{PriceFigures}
use Rattle.pb_figures.specs.declared.told.ViolationFigures.{ViolationFigures}
use Rattle.pb_page.specs.Answers.{HasAnswer, Tells}
use Rattle.pb_page.specs.Groups.{TellsGroups}
use Rattle.pb_page.specs.Sums.{HasInOrder, bytes_of, sum_text}
use Rattle.pb_page.specs.declared.telling.PageTold.{PageTold}

-- the figures of what is found of a certificate or of groups, and those of the election and the outcome beside them
pub record ArePriceFigures (p : PricesFound) (x : PriceFigures) : Type 0 where
  pub findings : x.findings ≡ p.findings
  pub margins : x.margins ≡ p.margins

pub record AreGroupFigures (e : Instance) (w : List Bool) (g : GroupFound) (x : ViolationFigures) : Type 0 where
  pub verdict : x.verdict ≡ g.verdict
  pub violation : x.violation ≡ g.violation
  pub findings : x.findings ≡ g.findings
  pub costs : x.costs.items ≡ map (cost_of e) (all_projects e)
  pub limit : x.limit ≡ e.limit
  pub total : x.funded ≡ total e w
  pub voters : x.voters ≡ voters e

pub record AreWeightFigures (e : Instance) (w : List Bool) (r : WeightsFound) (x : RefutationFigures) : Type 0 where
  pub verdict : x.verdict ≡ r.verdict
  pub weights : x.refutation ≡ r.refutation
  pub findings : x.findings ≡ r.findings
  pub costs : x.costs.items ≡ map (cost_of e) (all_projects e)
  pub limit : x.limit ≡ e.limit
  pub total : x.funded ≡ total e w

pub record AreShortFigures (e : Instance) (w : List Bool) (g : GroupsFound) (x : ShortFigures) : Type 0 where
  pub measure : x.measure ≡ g.measure
  pub groups : x.groups ≡ g.figures
  pub shown : x.shown ≡ shown g.figures.items
  pub costs : x.costs.items ≡ map (cost_of e) (all_projects e)
  pub limit : x.limit ≡ e.limit
  pub total : x.funded ≡ total e w
  pub voters : x.voters ≡ voters e

abbrev pub AreFiguresOf : Instance → List Bool → CertificateFound → CertificateFigures → Type 0
AreFiguresOf e w (certificate.Prices p) f = (x : PriceFigures) × (f ≡ found.Prices x) × ArePriceFigures p x
AreFiguresOf e w (certificate.Group g) f = (x : ViolationFigures) × (f ≡ found.Violation x) × AreGroupFigures e w g x
AreFiguresOf e w (certificate.Weights r) f = (x : RefutationFigures) × (f ≡ found.Refutation x) × AreWeightFigures e w r x

-- the group that comes nearest to what a yes to prices says of groups, where it was looked for
abbrev pub nearest_in : CertificateFound → Option NearestGroup
nearest_in (certificate.Prices p) = p.nearest
nearest_in (certificate.Group g) = None
nearest_in (certificate.Weights r) = None

-- a page tells what is found of a certificate, in a mode: the line of the verdict, as it is shown, the figures, the nearest
-- group, and how the answer ends
pub record TellsFound (m : Mode) (e : Instance) (w : List Bool) (c : CertificateFound) (t : PageTold) : Type 0 where
  pub mode : t.told.mode ≡ m
  pub line : ShowsLine (verdict_line e c) (string_bytes t.told.line)
  pub figures : AreFiguresOf e w c t.told.found
  pub nearest : t.nearest ≡ nearest_in c
  pub status : t.status ≡ certificate_ends c

-- what is told of a certificate of any kind, and how the answer ends
abbrev pub TellsCertificate : Mode → Instance → List Bool → Delivery → Stated PageTold → Type 0
TellsCertificate m e w d (Ok t) =
    (c : Certificate) × StatesCertificate e d (Ok c) × Tells m e w c t.told × (t.status ≡ certificate_status m e w c)
TellsCertificate m e w d (Err r) = StatesCertificate e d (Err r)

-- what is told of all groups, and how the answer ends
abbrev pub TellsOfGroups : Measure → Instance → List Bool → PageTold → Type 0
TellsOfGroups m e w t =
    (tells : TellsGroups m e w t.told) × (t.status ≡ groups_status (verdict_on_groups tells.figures))

-- the sums that are shown of files, in the order of the page
abbrev pub sum_of : InputFile → List ℕ
sum_of file = string_bytes file.sum

abbrev pub sums_shown : PageFiles → List (List ℕ)
sums_shown files =
    sum_of files.election ∷ (map sum_of (option_to_list files.outcome) ++ map sum_of (option_to_list files.certificate))

-- the turn of an election came, and this is the sum of its file
pub record GivesElection (t : Turn) (e : Instance) (sum : List ℕ) : Type 0 where
  pub delivery : Delivery
  pub delivered : t (Some delivery)
  pub states : StatesElection delivery (Ok e)
  pub is_sum : sum ≡ sum_text (bytes_of delivery)

-- the page shows what is told, the projects in their orders, and these sums
pub record RendersTold (t : PageTold) (sums : List (List ℕ)) (a : Answer Status) : Type 0 where
  pub pieces : List Piece
  pub answers : HasAnswer pieces
  pub has_sums : HasInOrder sums pieces
  pub projects : ListsProjects t.told.mode t.told.found pieces
  pub text : a.text ≡ rendering (shows_of t.told) pieces
  pub status : a.status ≡ t.status
