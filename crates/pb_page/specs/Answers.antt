-- What a page answers, by what its inputs state.
use Rattle.std.specs.Prelude.{◌≡◌, ℕ, Bool, List, [], ◌∷◌, ◌++◌, Option, Some, Ok, Err, map, string_bytes}
use Rattle.pb_records.specs.Loading.{Delivery}
use Rattle.pb_election.specs.Instance.{Instance, all_projects, cost_of, voters}
use Rattle.pb_certificate.specs.Prices.{Prices}
use Rattle.pb_certificate.specs.Refutations.{Weights}
use Rattle.pb_certificate.specs.declared.violations.measure.Measure.{Measure}
use Rattle.pb_cohesion.specs.FirstU.{refutation_verdict}
use Rattle.pb_cohesion.specs.FirstV.{FirstV, violation_verdict_of}
use Rattle.pb_cohesion.specs.Outcome.{total}
use Rattle.pb_cohesion.specs.RefutationFindings.{refutation_findings}
use Rattle.pb_cohesion.specs.Satisfactions.{worth_by}
use Rattle.pb_cohesion.specs.ViolationFindings.{violation_findings}
use Rattle.pb_price.specs.Findings.{findings}
use Rattle.pb_price.specs.First.{First, verdict_of}
use Rattle.pb_price.specs.Margins.{AreMargins}
use Rattle.pb_price.specs.Told.{first_told}
use Rattle.pb_cohesion.specs.declared.Mode.{Mode}
use Rattle.pb_reply.specs.Inputs.{FilesState, Stated, audited}
use Rattle.pb_reply.specs.Lines.{price_line, refutation_line, violation_line}
use Rattle.pb_reply.specs.Replies.{Answer, answer_of, refused}
use Rattle.pb_reply.specs.declared.status.Status.{Status}
use Rattle.pb_reply.specs.Promises.{CertificatePromises}
use Rattle.pb_reply.specs.Certificates.{Certificate, OfPrices, OfRefutation, OfViolation, StatesCertificate, certificate_status}
use Rattle.pb_markup.specs.Pieces.{Close, Headline, Line, Open, Piece, rendering}
use Rattle.pb_price_parts.specs.Rows.{ListsProjects}
use Rattle.pb_report.specs.Found.{claim_of}
use Rattle.pb_case.specs.Shown.{ShowsLine}
use Rattle.pb_page.specs.Sums.{HasInOrder, files_of, sums_of}
use Rattle.pb_markup.specs.Shown.{shows_of}
use Rattle.pb_words.specs.declared.language.Language.{Language}
use Rattle.pb_markup.specs.declared.tag.Tag.TheVariants as tag
use Rattle.pb_figures.specs.declared.refutations.RefutationFigures.{RefutationFigures}
use Rattle.pb_figures.specs.declared.told.CertificateFigures.TheVariants as found
use Rattle.pb_figures.specs.declared.told.PriceFigures.{PriceFigures}
use Rattle.pb_figures.specs.declared.told.Told.{Told}
use Rattle.pb_figures.specs.declared.told.ViolationFigures.{ViolationFigures}

-- What a page tells of prices in a mode: the line that the program prints, as it is shown, the findings, and the
-- figures of each project.
pub record TellsPrices (m : Mode) (e : Instance) (w : List Bool) (p : Prices) (t : Told) : Type 0 where
  pub figures : PriceFigures
  pub found : t.found ≡ found.Prices figures
  pub mode : t.mode ≡ m
  pub verdict : verdict_of (first_told t.mode figures.findings) ≡ verdict_of (First m e w p)
  pub line : ShowsLine (price_line m.stable e (verdict_of (First m e w p))) (string_bytes t.line)
  pub findings : figures.findings ≡ findings e w p
  pub margins : AreMargins e w p figures.margins

-- what it tells of a group and its demand, by the measure that the certificate states: that line, and the figures
pub record TellsGroup (e : Instance) (w : List Bool) (v : Measure × List ℕ × List ℕ) (l : List ℕ)
    (figures : ViolationFigures) : Type 0 where
  pub line : ShowsLine (violation_line e (violation_verdict_of (FirstV (worth_by v.0 e) e w v.1 v.2))) l
  pub verdict : figures.verdict ≡ violation_verdict_of (FirstV (worth_by v.0 e) e w v.1 v.2)
  pub findings : figures.findings ≡ violation_findings (worth_by v.0 e) e w v.1 v.2
  pub claim : claim_of figures.violation ≡ v
  pub costs : figures.costs.items ≡ map (cost_of e) (all_projects e)
  pub limit : figures.limit ≡ e.limit
  pub total : figures.funded ≡ total e w
  pub voters : figures.voters ≡ voters e

abbrev pub TellsViolation : Instance → List Bool → Measure × List ℕ × List ℕ → Told → Type 0
TellsViolation e w v t =
    (figures : ViolationFigures) × (t.found ≡ found.Violation figures) × TellsGroup e w v (string_bytes t.line) figures

-- what it tells of weights, by whether stable prices are asked about: that line, and the figures
pub record TellsWeights (stable : Bool) (e : Instance) (w : List Bool) (r : Weights) (l : List ℕ)
    (figures : RefutationFigures) : Type 0 where
  pub line : ShowsLine (refutation_line e (refutation_verdict stable e w r)) l
  pub verdict : figures.verdict ≡ refutation_verdict stable e w r
  pub findings : figures.findings ≡ refutation_findings stable e w r
  pub weights : figures.refutation ≡ r
  pub costs : figures.costs.items ≡ map (cost_of e) (all_projects e)
  pub limit : figures.limit ≡ e.limit
  pub total : figures.funded ≡ total e w

abbrev pub TellsRefutation : Mode → Instance → List Bool → Weights → Told → Type 0
TellsRefutation m e w r t =
    (figures : RefutationFigures) × (t.found ≡ found.Refutation figures) × (t.mode ≡ m)
    × TellsWeights m.stable e w r (string_bytes t.line) figures

abbrev pub Tells : Mode → Instance → List Bool → Certificate → Told → Type 0
Tells m e w (OfPrices p) t = TellsPrices m e w p t
Tells m e w (OfViolation v) t = TellsViolation e w v t
Tells m e w (OfRefutation r) t = TellsRefutation m e w r t

-- the answer in a sentence, and the line that the program prints, as the page has them
abbrev pub headline_box : List Piece
headline_box = Open tag.H2 [] ∷ Headline ∷ Close ∷ []

abbrev pub line_box : List Piece
line_box = Open tag.Code [] ∷ Line ∷ Close ∷ []

pub record HasAnswer (pieces : List Piece) : Type 0 where
  pub front : List Piece
  pub middle : List Piece
  pub back : List Piece
  pub is : pieces ≡ front ++ (headline_box ++ (middle ++ (line_box ++ back)))

-- The page about a certificate, in a language: what the pieces show is what is told, the sums are those of these files,
-- the projects stand in their orders, and the status is that of the audit, with what this promises of the certificate.
pub record IsPage (m : Mode) (language : Language) (files : List Delivery) (e : Instance) (w : List Bool)
    (c : Certificate) (a : Answer Status) : Type 0 where
  pub told : Told
  pub pieces : List Piece
  pub tells : Tells m e w c told
  pub in_language : told.style.language ≡ language
  pub answers : HasAnswer pieces
  pub sums : HasInOrder (sums_of files) pieces
  pub projects : ListsProjects told.mode told.found pieces
  pub text : a.text ≡ rendering (shows_of told) pieces
  pub status : a.status ≡ certificate_status m e w c
  pub promises : CertificatePromises m a.status e w c

-- the page, or the line of the first input that is refused
abbrev pub PageOnCertificate : Mode → Language → List Delivery → Instance → List Bool → Stated Certificate
    → Answer Status → Type 0
PageOnCertificate m language files e w (Err r) a = a ≡ answer_of (refused r)
PageOnCertificate m language files e w (Ok c) a = IsPage m language files e w c a

abbrev pub PageOnOutcome : Mode → Language → List Delivery → Instance → Stated (List Bool) → Stated Certificate
    → Answer Status → Type 0
PageOnOutcome m language files e (Err r) c a = a ≡ answer_of (refused r)
PageOnOutcome m language files e (Ok w) c a = PageOnCertificate m language files e w c a

abbrev pub PageOf : Mode → Language → List Delivery → Stated Instance → Option (Stated (List Bool))
    → Stated Certificate → Answer Status → Type 0
PageOf m language files (Err r) o c a = a ≡ answer_of (refused r)
PageOf m language files (Ok e) o c a = PageOnOutcome m language files e (audited e o) c a

-- The answer on an election, an outcome file where one is given, and a certificate of any kind.
pub record AnswersPage (m : Mode) (language : Language) (election : Delivery) (outcome : Option Delivery)
    (certificate : Delivery) (a : Answer Status) : Type 0 where
  pub e : Stated Instance
  pub o : Option (Stated (List Bool))
  pub c : Stated Certificate
  pub given : FilesState StatesCertificate election outcome certificate e o c
  pub out : PageOf m language (files_of election outcome (Some certificate)) e o c a
