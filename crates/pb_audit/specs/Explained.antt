-- What `explain` answers: the line of the verdict, an empty line, and a table of what each condition or test comes to.
use Rattle.std.specs.Prelude.{◌≡◌, Bool, ℕ, List, [], ◌∷◌, ◌++◌, Option}
use Rattle.pb_records.specs.Loading.{Delivery}
use Rattle.pb_election.specs.Instance.{Instance}
use Rattle.pb_certificate.specs.Prices.{Prices}
use Rattle.pb_certificate.specs.Refutations.{Weights}
use Rattle.pb_certificate.specs.declared.violations.measure.Measure.{Measure}
use Rattle.pb_cohesion.specs.EveryGroup.{NoGroupIsPassedOver, SharesAreWithinReach}
use Rattle.pb_cohesion.specs.RefutationFindings.{refutation_findings}
use Rattle.pb_cohesion.specs.Satisfactions.{worth_by}
use Rattle.pb_cohesion.specs.ViolationFindings.{violation_findings}
use Rattle.pb_price.specs.Findings.{findings}
use Rattle.pb_report.specs.Found.{nearest_on_yes}
use Rattle.pb_price.specs.declared.Findings.{Findings}
use Rattle.pb_cohesion.specs.declared.Mode.{Mode}
use Rattle.pb_price.specs.First.{First, verdict_of}
use Rattle.pb_price.specs.OnGroups.{groups_by}
use Rattle.pb_price.specs.declared.OnGroups.{OnGroups}
use Rattle.pb_price.specs.declared.Verdict.{Verdict}
use Rattle.pb_price.specs.declared.nearest.NearestGroup.{NearestGroup}
use Rattle.pb_price.specs.declared.Verdict.TheVariants.{Supported, Failed}
use Rattle.pb_explain.specs.GroupLines.{below_reach, claim, group_lines, within_reach}
use Rattle.pb_explain.specs.PriceTable.{price_table}
use Rattle.pb_explain.specs.RefutationTable.{refutation_table}
use Rattle.pb_explain.specs.ViolationTable.{violation_table}
use Rattle.pb_records.specs.Records.{Text}
use Rattle.pb_audit.specs.Answers.{AnswersAudit, AuditRules, refutation_reply, verdict_reply, violation_reply}
use Rattle.pb_reply.specs.Replies.{Reply}
use Rattle.pb_reply.specs.Certificates.{Certificate, OfPrices, OfRefutation, OfViolation, StatesCertificate}
use Rattle.pb_reply.specs.Promises.{PricesPromise, RefutationPromises, ViolationPromises}
use Rattle.pb_reply.specs.Turns.{FileTurn, Turn}
use Rattle.pb_audit.specs.InTurn.{ReadsAudit}
use Rattle.pb_reply.specs.declared.status.Status.{Status}
use Rattle.pb_reply.specs.declared.status.Status.TheVariants.{Yes}

-- a reply with an empty line and a table below its lines; its object has all that the table has
abbrev pub with_table : List Text → Reply → Reply
with_table table r = record { lines = r.lines ++ ([] ∷ table); json = r.json; status = r.status }

-- what is said of groups, behind an empty line, on a yes alone
abbrev pub groups_told : Verdict → List Text → List Text
groups_told Supported lines = [] ∷ lines
groups_told (Failed f) lines = []

-- a verdict on prices with the table of what is found of them, and which group comes nearest to what a yes says
abbrev pub explained_verdict : Mode → Instance → List Bool → Verdict → Findings → OnGroups → Option NearestGroup → Reply
explained_verdict m e w v f said nearest =
    with_table (price_table m e f ++ groups_told v (group_lines e said nearest)) (verdict_reply m e w v f nearest)

-- the verdict on prices, a violation or a refutation, with the table of what is found of it
abbrev pub explained_prices : Mode → Instance → List Bool → Prices → Reply
explained_prices m e w p =
    explained_verdict m e w (verdict_of (First m e w p)) (findings e w p) (groups_by m e p)
    (nearest_on_yes (verdict_of (First m e w p)) (groups_by m e p) e w)

abbrev pub explained_violation : Instance → List Bool → Measure × List ℕ × List ℕ → Reply
explained_violation e w v =
    with_table (violation_table v.0 e (violation_findings (worth_by v.0 e) e w v.1 v.2)) (violation_reply e w v)

abbrev pub explained_refutation : Bool → Instance → List Bool → Weights → Reply
explained_refutation stable e w r =
    with_table (refutation_table e r (refutation_findings stable e w r)) (refutation_reply stable e w r)

abbrev pub explained_reply : Mode → Instance → List Bool → Certificate → Reply
explained_reply m e w (OfPrices p) = explained_prices m e w p
explained_reply m e w (OfViolation v) = explained_violation e w v
explained_reply m e w (OfRefutation r) = explained_refutation m.stable e w r

-- What is said of groups is so: after `no more than` the share of every group is within reach, and after `less than` no
-- group is passed over.
pub record IsSoOfGroups (status : Status) (e : Instance) (w : List Bool) (said : OnGroups) : Type 0 where
  pub reach : status ≡ Yes → claim said ≡ within_reach → SharesAreWithinReach e w
  pub below : status ≡ Yes → claim said ≡ below_reach → NoGroupIsPassedOver e w

-- the status promises what it does without the table, and what is said of groups is so
abbrev pub ExplainedPromise : Mode → Status → Instance → List Bool → Certificate → Type 0
ExplainedPromise m status e w (OfPrices p) = PricesPromise m status e w p × IsSoOfGroups status e w (groups_by m e p)
ExplainedPromise m status e w (OfViolation v) = ViolationPromises status e w v
ExplainedPromise m status e w (OfRefutation r) = RefutationPromises m.stable status e w r

abbrev pub explained_rules : Mode → AuditRules Certificate
explained_rules m = record { states = StatesCertificate; reply = explained_reply m; promises = ExplainedPromise m }

-- the reply on an election, an outcome file where one is given, and a certificate of any kind
abbrev pub AnswersExplained : Mode → Delivery → Option Delivery → Delivery → Reply → Type 0
AnswersExplained m election outcome certificate r = AnswersAudit (explained_rules m) election outcome certificate r

-- the same on inputs in their turn
abbrev pub ReadsExplained : Mode → Turn → FileTurn → Turn → Reply → Type 0
ReadsExplained m election outcome certificate r =
    ReadsAudit (explained_rules m) election outcome certificate r
