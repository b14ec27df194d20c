-- What each command answers: lines or a text, and how it ends, from what its inputs state.
use Rattle.std.specs.Prelude.{◌≡◌, Bool, ℕ, List, [], ◌∷◌, IfOk, Option, None, Ok, Err}
use Rattle.pb_election.specs.Instance.{Instance}
use Rattle.pb_records.specs.Loading.{Delivery}
use Rattle.pb_certificate.specs.Prices.Canon.{Canon}
use Rattle.pb_certificate.specs.Prices.{Prices}
use Rattle.pb_certificate.specs.Refutations.{Weights}
use Rattle.pb_certificate.specs.declared.violations.measure.Measure.{Measure}
use Rattle.pb_cohesion.specs.FirstU.{refutation_verdict}
use Rattle.pb_cohesion.specs.FirstV.{FirstV, violation_verdict_of}
use Rattle.pb_cohesion.specs.RefutationFindings.{refutation_findings}
use Rattle.pb_cohesion.specs.Satisfactions.{worth_by}
use Rattle.pb_cohesion.specs.ViolationFindings.{violation_findings}
use Rattle.pb_cohesion.specs.declared.RefutationFindings.{RefutationFindings}
use Rattle.pb_cohesion.specs.declared.RefutationVerdict.{RefutationVerdict}
use Rattle.pb_cohesion.specs.declared.ViolationFindings.{ViolationFindings}
use Rattle.pb_cohesion.specs.declared.ViolationVerdict.{ViolationVerdict}
use Rattle.pb_price.specs.Findings.{findings}
use Rattle.pb_price.specs.First.{First, verdict_of}
use Rattle.pb_price.specs.declared.Findings.{Findings}
use Rattle.pb_cohesion.specs.declared.Mode.{Mode}
use Rattle.pb_price.specs.declared.Verdict.{Verdict}
use Rattle.pb_price.specs.declared.nearest.NearestGroup.{NearestGroup}
use Rattle.pb_reply.specs.Replies.{Answer, Reply, answer_of, price_status, refused, refutation_status, violation_status, with_input}
use Rattle.pb_reply.specs.Inputs.{FilesState, Stated, StatesElection, StatesPrices, StatesRefutation, StatesViolation, audited}
use Rattle.pb_reply.specs.Lines.{notes, price_line, read_line, refutation_line, violation_line}
use Rattle.pb_reply.specs.Promises.{PricesPromise, RefutationPromises, ViolationPromises}
use Rattle.pb_input.specs.declared.InputName.TheVariants as name
use Rattle.pb_audit.specs.Objects.{price_text, read_text, refutation_text, violation_text}
use Rattle.pb_reply.specs.declared.status.Status.{Status}
use Rattle.pb_reply.specs.declared.status.Status.TheVariants.{Yes}

-- the read line and the notes
abbrev pub read_reply : Stated Instance → Reply
read_reply election = with_input election (λ e. record { lines = read_line e ∷ notes e; json = read_text e; status = Yes })

-- the canonical text of the prices
abbrev pub tidy_answer : Stated Instance → Stated Prices → Answer Status
tidy_answer (Ok e) (Ok p) = record { text = Canon e p; status = Yes }
tidy_answer (Ok e) (Err r) = answer_of (refused r)
tidy_answer (Err r) certificate = answer_of (refused r)

-- How certificates of a kind are audited: what a file of them states for an election, the reply on that for an outcome,
-- and what the status of a reply promises of them.
pub record AuditRules (A : Type 0) : Type 1 where
  pub states : Instance → Delivery → Stated A → Type 0
  pub reply : Instance → List Bool → A → Reply
  pub promises : Status → Instance → List Bool → A → Type 0

-- what is found of prices: the verdict, and for programs also what each condition comes to, and the group that comes
-- nearest to what a yes says of groups, where it is looked for
abbrev pub verdict_reply : Mode → Instance → List Bool → Verdict → Findings → Option NearestGroup → Reply
verdict_reply m e w v f nearest = record {
  lines = price_line m.stable e v ∷ [];
  json = price_text m e w v f nearest;
  status = price_status v;
}

abbrev pub price_reply : Mode → Instance → List Bool → Prices → Reply
price_reply m e w p = verdict_reply m e w (verdict_of (First m e w p)) (findings e w p) None

abbrev pub price_rules : Mode → AuditRules Prices
price_rules m = record { states = StatesPrices name.Certificate; reply = price_reply m; promises = PricesPromise m }

-- the same of a group and its demand, by the measure that the certificate states
abbrev pub group_reply : Measure → Instance → List Bool → ViolationVerdict → ViolationFindings → Reply
group_reply k e w v f = record {
  lines = violation_line e v ∷ [];
  json = violation_text k e w v f;
  status = violation_status v;
}

abbrev pub violation_reply : Instance → List Bool → Measure × List ℕ × List ℕ → Reply
violation_reply e w v =
    group_reply v.0 e w (violation_verdict_of (FirstV (worth_by v.0 e) e w v.1 v.2))
    (violation_findings (worth_by v.0 e) e w v.1 v.2)

abbrev pub violation_rules : AuditRules (Measure × List ℕ × List ℕ)
violation_rules =
    record { states = StatesViolation name.Certificate; reply = violation_reply; promises = ViolationPromises }

-- what is found of weights
abbrev pub weights_reply : Instance → List Bool → RefutationVerdict → RefutationFindings → Reply
weights_reply e w v f = record {
  lines = refutation_line e v ∷ [];
  json = refutation_text e w v f;
  status = refutation_status v;
}

-- the same of weights, by whether stable prices are asked about
abbrev pub refutation_reply : Bool → Instance → List Bool → Weights → Reply
refutation_reply stable e w r =
    weights_reply e w (refutation_verdict stable e w r) (refutation_findings stable e w r)

abbrev pub refutation_rules : Bool → AuditRules Weights
refutation_rules stable =
    record { states = StatesRefutation; reply = refutation_reply stable; promises = RefutationPromises stable }

-- the reply on an election, an outcome and a certificate
abbrev pub audit_reply : {A : Type 0} → (Instance → List Bool → A → Reply) → Stated Instance
    → Option (Stated (List Bool)) → Stated A → Reply
audit_reply reply election outcome certificate =
    with_input election (λ e. with_input (audited e outcome) (λ w. with_input certificate (λ c. reply e w c)))

-- The reply on an election, from what is delivered of it.
pub record AnswersElection (election : Delivery) (r : Reply) : Type 0 where
  pub e : Stated Instance
  pub given : StatesElection election e
  pub out : r ≡ read_reply e

-- The answer on an election and a price certificate that is to be written in its canonical form. The certificate counts
-- where the election is accepted.
pub record AnswersTidy (election certificate : Delivery) (answer : Answer Status) : Type 0 where
  pub e : Stated Instance
  pub p : Stated Prices
  pub election_states : StatesElection election e
  pub certificate_states : IfOk e (λ instance. StatesPrices name.Certificate instance certificate p)
  pub out : answer ≡ tidy_answer e p

-- where all are accepted, this holds of the election, the outcome and the certificate
abbrev pub OfAccepted : {A : Type 0} → (Instance → List Bool → A → Type 0) → Stated Instance
    → Option (Stated (List Bool)) → Stated A → Type 0
OfAccepted holds election outcome certificate =
    IfOk election (λ e. IfOk (audited e outcome) (λ w. IfOk certificate (λ c. holds e w c)))

-- The reply on them, and what its status promises where all are accepted.
pub record AnswersAudit {A : Type 0} (rules : AuditRules A) (election : Delivery) (outcome : Option Delivery)
    (certificate : Delivery) (r : Reply) : Type 0 where
  pub e : Stated Instance
  pub o : Option (Stated (List Bool))
  pub c : Stated A
  pub given : FilesState rules.states election outcome certificate e o c
  pub out : r ≡ audit_reply rules.reply e o c
  pub promised : OfAccepted (rules.promises r.status) e o c

abbrev pub AnswersPrices : Mode → Delivery → Option Delivery → Delivery → Reply → Type 0
AnswersPrices m election outcome certificate r = AnswersAudit (price_rules m) election outcome certificate r

abbrev pub AnswersViolation : Delivery → Option Delivery → Delivery → Reply → Type 0
AnswersViolation election outcome certificate r = AnswersAudit violation_rules election outcome certificate r

abbrev pub AnswersRefutation : Bool → Delivery → Option Delivery → Delivery → Reply → Type 0
AnswersRefutation stable election outcome certificate r =
    AnswersAudit (refutation_rules stable) election outcome certificate r
