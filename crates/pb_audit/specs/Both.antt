-- What is answered on a price certificate and a violation certificate for one outcome.
use Rattle.std.specs.Prelude.{◌≡◌, ◌↔◌, ◌++◌, ℕ, IsTrue, Bool, true, false, List, Option, IfOk, Ok, Err, Some, None}
use Rattle.pb_election.specs.Instance.{Instance}
use Rattle.pb_records.specs.Loading.{Delivery}
use Rattle.pb_certificate.specs.Prices.{Prices}
use Rattle.pb_certificate.specs.declared.violations.measure.Measure.{Measure}
use Rattle.pb_certificate.specs.declared.violations.measure.Measure.TheVariants.{ByCount}
use Rattle.pb_cohesion.specs.Groups.{Violates}
use Rattle.pb_cohesion.specs.FirstV.{FirstV, violation_verdict_of}
use Rattle.pb_cohesion.specs.Satisfactions.{worth_by}
use Rattle.pb_cohesion.specs.ViolationFindings.{violation_findings}
use Rattle.pb_price.specs.OnGroups.{IsStrict}
use Rattle.pb_price.specs.Supports.{Supports}
use Rattle.pb_price.specs.Findings.{findings}
use Rattle.pb_price.specs.First.{First, verdict_of}
use Rattle.pb_price.specs.Told.{first_told}
use Rattle.pb_price.specs.declared.Findings.{Findings}
use Rattle.pb_cohesion.specs.declared.Mode.{Mode}
use Rattle.pb_price.specs.declared.Verdict.{Verdict}
use Rattle.pb_audit.specs.Answers.{AnswersAudit, AuditRules, price_reply, verdict_reply, violation_reply}
use Rattle.pb_reply.specs.Replies.{Reply, with_input}
use Rattle.pb_reply.specs.Inputs.{InTurn, Stated, StatesPrices, StatesViolation}
use Rattle.pb_reply.specs.Promises.{PricesPromise, ViolationPromises}
use Rattle.pb_reply.specs.Turns.{FileTurn, Turn}
use Rattle.pb_audit.specs.InTurn.{AfterOutcome, ReadsAudit}
use Rattle.pb_audit.specs.Objects.{both_text}
use Rattle.pb_records.specs.Records.{Text}
use Rattle.pb_input.specs.declared.InputName.TheVariants as name
use Rattle.pb_reply.specs.declared.status.Status.{Status}
use Rattle.pb_reply.specs.declared.status.Status.TheVariants.{Yes}
use Rattle.pb_report.specs.Found.{yes_where_both}

-- what a violation certificate states: its measure, a group and what it demands
abbrev pub GroupAndDemand : Type 0
GroupAndDemand = Measure × List ℕ × List ℕ

abbrev pub is_yes : Status → Bool
is_yes Yes = true
is_yes other = false

-- the lines of both, and an object with the object on each; yes where both are a yes; where neither is, what fails
-- first of each
abbrev pub joined : (Bool → Text) → Reply → Reply → Reply
joined of_both first second = record {
  lines = first.lines ++ second.lines;
  json = of_both (is_yes (yes_where_both first.status second.status));
  status = yes_where_both first.status second.status;
}

-- the object on both, by the verdict and the findings on the prices
abbrev pub both_object : Mode → Instance → List Bool → Verdict → Findings → GroupAndDemand → Bool → Text
both_object m e w v f claim all =
    both_text m e w v f claim.0 (violation_verdict_of (FirstV (worth_by claim.0 e) e w claim.1 claim.2))
    (violation_findings (worth_by claim.0 e) e w claim.1 claim.2) all

-- the verdict on the prices, and then that on the group and its demand
abbrev pub both_on : Mode → Instance → List Bool → Prices → GroupAndDemand → Reply
both_on m e w p claim =
    joined (both_object m e w (verdict_of (First m e w p)) (findings e w p) claim) (price_reply m e w p)
    (violation_reply e w claim)

-- the verdict on a group and its demand below that which findings on prices tell
abbrev pub beside : Mode → Findings → Instance → List Bool → GroupAndDemand → Reply
beside m f e w claim =
    joined (both_object m e w (verdict_of (first_told m f)) f claim)
    (verdict_reply m e w (verdict_of (first_told m f)) f None) (violation_reply e w claim)

-- The status is yes exactly where the prices support the outcome and the group and its demand are a violation. Each
-- line promises what it promises alone. What is more, where the stable form is asked for, prices that support the
-- outcome and say the strict case of groups never stand beside a violation by counting.
pub record BothPromise (m : Mode) (status : Status) (e : Instance) (w : List Bool) (p : Prices)
    (claim : GroupAndDemand) : Type 0 where
  pub exactly : (status ≡ Yes) ↔
      (Supports m e w p × Violates (worth_by claim.0 e) e w claim.1 claim.2)
  pub prices : PricesPromise m (price_reply m e w p).status e w p
  pub violation : ViolationPromises (violation_reply e w claim).status e w claim
  pub never_both : IsTrue m.stable → IsStrict m e p → claim.0 ≡ ByCount
      → Supports m e w p → Violates (worth_by claim.0 e) e w claim.1 claim.2 → ⊥

-- What the violation certificate states counts where the prices are accepted. So both certificates state the prices
-- with it, or why the prices are refused.
abbrev pub Both : Type 0
Both = Prices × Stated GroupAndDemand

abbrev pub StatesBoth : Delivery → Instance → Delivery → Stated Both → Type 0
StatesBoth violation e prices (Ok both) =
    StatesPrices name.Prices e prices (Ok both.0) × StatesViolation name.Violation e violation both.1
StatesBoth violation e prices (Err r) = StatesPrices name.Prices e prices (Err r)

-- the reply on what both state, and what its status promises where both are accepted
abbrev pub both_reply : Mode → Instance → List Bool → Both → Reply
both_reply m e w both = with_input both.1 (λ claim. both_on m e w both.0 claim)

abbrev pub BothPromises : Mode → Status → Instance → List Bool → Both → Type 0
BothPromises m status e w both = IfOk both.1 (λ claim. BothPromise m status e w both.0 claim)

abbrev pub both_rules : Mode → Delivery → AuditRules Both
both_rules m violation = record { states = StatesBoth violation; reply = both_reply m; promises = BothPromises m }

-- the reply on an election, an outcome file where one is given, and both certificates
abbrev pub AnswersBoth : Mode → Delivery → Option Delivery → Delivery → Delivery → Reply → Type 0
AnswersBoth m election outcome prices violation r = AnswersAudit (both_rules m violation) election outcome prices r

-- The reply on inputs in their turn, the prices as the certificate of an audit, with one more for the violation
-- certificate, which is taken where the prices are accepted.
pub record ReadsBoth (m : Mode) (election : Turn) (outcome : FileTurn) (prices violation : Turn) (r : Reply) : Type 0 where
  pub of_violation : Delivery
  pub reads : ReadsAudit (both_rules m of_violation) election outcome prices r
  pub violation_delivered : AfterOutcome reads.answers.e reads.answers.o
      (InTurn reads.answers.c (λ both. violation (Some of_violation)) (violation None)) (violation None)
