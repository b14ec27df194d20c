-- The answers on both certificates.
use Rattle.std.proofs.Common.{◌≡◌, ◌∙◌, ap, refl, subst, Bool, Option, List, arith}
use Rattle.std.specs.Prelude.{◌↔◌, IfSome, Ok, Err, Some, None}
use Rattle.pb_election.specs.Instance.{Instance}
use Rattle.pb_records.specs.Loading.{Delivery}
use Rattle.pb_records.specs.Loading as delivery
use Rattle.pb_certificate.specs.Prices.{Prices}
use Rattle.pb_certificate.specs.declared.violations.measure.Measure.{Measure}
use Rattle.pb_certificate.proofs.Unique.{group-text-sets}
use Rattle.pb_cohesion.specs.Groups.{AreProjects, IsGroup, Violates}
use Rattle.pb_cohesion.specs.Satisfactions.{worth_by}
use Rattle.pb_cohesion.specs.declared.Mode.{Mode}
use Rattle.pb_price.specs.Findings.{findings}
use Rattle.pb_price.specs.declared.Findings.{Findings}
use Rattle.pb_price.specs.declared.Verdict.{Verdict}
use Rattle.pb_reply.specs.Replies.{Reply, refused, with_input}
use Rattle.pb_audit.specs.Answers.{price_reply, verdict_reply, violation_reply}
use Rattle.pb_audit.specs.Both.{BothPromise, GroupAndDemand, ReadsBoth, StatesBoth, beside, both_object, both_on, both_reply, both_rules, joined}
use Rattle.pb_report.specs.Found.{FindsPrices, yes_where_both}
use Rattle.pb_report.specs.declared.prices.PricesFound.{PricesFound}
use Rattle.pb_report.proofs.Told.{told_verdict}
use Rattle.pb_reply.specs.Inputs.{InTurn, Stated, StatesElection, StatesPrices, StatesViolation}
use Rattle.pb_input.specs.declared.InputRefusal.{InputRefusal}
use Rattle.pb_reply.specs.Turns.{FileTurn, Turn}
use Rattle.pb_audit.specs.Inside.Certificates.{AnswersCertificate, Promised}
use Rattle.pb_reply.specs.Inside.Taking.{Gives, GivesOutcome, IfTaken, or_refusal}
use Rattle.pb_input.specs.declared.InputName.TheVariants as name
use Rattle.pb_reply.specs.declared.unanswered.Unanswered.{Unanswered}
use Rattle.pb_reply.specs.declared.unanswered.Unanswered.TheVariants as unanswered
use Rattle.pb_reply.specs.declared.status.Status.{Status}
use Rattle.pb_reply.specs.declared.status.Status.TheVariants.{Yes}
use Rattle.pb_audit.proofs.Audits.{answered, ended_at_election, ended_at_outcome}
use Rattle.pb_reply.proofs.Culprits.{denominator-low}
use Rattle.pb_reply.proofs.Promises.{prices_promise, violation_promises}

both_yes : (first second : Status) → (yes_where_both first second ≡ Yes) ↔ ((first ≡ Yes) × (second ≡ Yes))
both_yes first second = grind arith

-- what the reply on prices and a claim of sets promises
both_promise : (m : Mode) (e : Instance) (w : List Bool) (d : Delivery) (p : Prices) (claim : GroupAndDemand)
    → StatesPrices name.Prices e d (Ok p) → IsGroup e claim.1 → AreProjects e claim.2
    → BothPromise m (both_on m e w p claim).status e w p claim
both_promise m e w d p claim states group demand =
    let on_prices = prices_promise m name.Prices e w d p states in
    let on_claim = violation_promises e w claim in
    let yes = both_yes (price_reply m e w p).status (violation_reply e w claim).status in
    record {
      exactly = (
        λ h. (on_prices.exactly.0 (yes.0 h).0, on_claim.0 (yes.0 h).1),
        λ h. yes.1 (on_prices.exactly.1 h.0, on_claim.1 h.1),
      );
      prices = on_prices;
      violation = on_claim;
      never_both =
          λ stable strict counting supports violates. (on_prices.yes (on_prices.exactly.1 supports)).ejr stable strict
          claim.1 claim.2 group demand
          (subst (λ (k : Measure). Violates (worth_by k e) e w claim.1 claim.2) counting violates);
    }

-- a claim that is stated is one of sets
claim_sets : (e : Instance) (d : Delivery) (claim : GroupAndDemand) → StatesViolation name.Violation e d (Ok claim)
    → IsGroup e claim.1 × AreProjects e claim.2
claim_sets e d claim states = grind (arith, group-text-sets)

pub both_promises : (m : Mode) (violation : Delivery) → Promised (both_rules m violation)
both_promises m violation e w prices (p, Ok claim) states =
    let sets = claim_sets e violation claim states.1 in
    both_promise m e w prices p claim states.0 sets.0 sets.1
both_promises m violation e w prices (p, Err why) states = tt

-- the prices are refused
abbrev prices_refused : (m : Mode) (e : Instance) (w : List Bool) (prices violation : Delivery) (r : InputRefusal)
    → StatesPrices name.Prices e prices (Err r)
    → AnswersCertificate (StatesBoth violation) (both_reply m) e w prices (refused r)
prices_refused m e w prices violation r states = record { c = Err r; given = states; out = refl }

-- the prices are accepted, and the violation certificate is answered beside the verdict on them
abbrev both_answered : (m : Mode) (e : Instance) (w : List Bool) (prices violation : Delivery) (f : PricesFound)
    (r : Reply)
    → FindsPrices name.Prices m e w prices (Ok f)
    → AnswersCertificate (StatesViolation name.Violation) (beside f.mode f.findings) e w violation r
    → AnswersCertificate (StatesBoth violation) (both_reply m) e w prices r
both_answered m e w prices violation f r found answered = record {
  c = Ok (found.0, answered.c);
  given = (found.1, answered.given);
  out = answered.out
      ∙ ap (λ (k : Mode). with_input answered.c (λ claim. beside k f.findings e w claim)) found.2.mode
      ∙ ap (λ (g : Findings). with_input answered.c (λ claim. beside m g e w claim)) found.2.findings
      ∙ ap (λ (v : Verdict). with_input answered.c (λ claim. joined (both_object m e w v (findings e w found.0) claim)
      (verdict_reply m e w v (findings e w found.0) None) (violation_reply e w claim)))
      (told_verdict m e w found.0 (denominator-low name.Prices e prices found.0 found.1));
}

-- The same on inputs in their turn.
pub both_ended_at_election : (m : Mode) (election : Turn) (outcome : FileTurn) (prices violation : Turn) (why : Unanswered)
    → IfTaken {A = Instance} (Err why) (Gives StatesElection election)
    → outcome None → prices None → violation None
    → IfSome (or_refusal (λ r. r) (Err why)) (ReadsBoth m election outcome prices violation)
unfolding ended_at_election
both_ended_at_election m election outcome prices violation (unanswered.Refused r) given outcome_left prices_left violation_left =
    record {
      of_violation = delivery.Read;
      reads = ended_at_election (both_rules m delivery.Read) election outcome prices (unanswered.Refused r) given outcome_left
          prices_left;
      violation_delivered = violation_left;
    }
both_ended_at_election m election outcome prices violation unanswered.Memory given outcome_left prices_left violation_left =
    tt

pub both_ended_at_outcome : (m : Mode) (election : Turn) (outcome : FileTurn) (prices violation : Turn) (e : Instance)
    (why : Unanswered)
    → Gives StatesElection election (Ok e) → IfTaken {A = List Bool} (Err why) (GivesOutcome e outcome)
    → prices None → violation None
    → IfSome (or_refusal (λ r. r) (Err why)) (ReadsBoth m election outcome prices violation)
unfolding ended_at_outcome
both_ended_at_outcome m election outcome prices violation e (unanswered.Refused r) given taken prices_left violation_left =
    record {
      of_violation = delivery.Read;
      reads = ended_at_outcome (both_rules m delivery.Read) election outcome prices e (unanswered.Refused r) given taken
          prices_left;
      violation_delivered =
          subst (λ (o : Stated (List Bool)). InTurn o (λ w. violation None) (violation None)) taken.audits.is
          violation_left;
    }
both_ended_at_outcome m election outcome prices violation e unanswered.Memory given taken prices_left violation_left = tt

-- the election and the outcome are accepted
abbrev both_in_turn : (m : Mode) (election : Turn) (outcome : FileTurn) (prices violation : Turn) (e : Instance)
    (w : List Bool) (of_prices of_violation : Delivery) (r : Reply)
    → Gives StatesElection election (Ok e) → GivesOutcome e outcome (Ok w) → prices (Some of_prices)
    → (found : AnswersCertificate (StatesBoth of_violation) (both_reply m) e w of_prices r)
    → InTurn found.c (λ both. violation (Some of_violation)) (violation None)
    → ReadsBoth m election outcome prices violation r
unfolding answered
both_in_turn m election outcome prices violation e w of_prices of_violation r given taken delivered found next = record {
  of_violation = of_violation;
  reads = answered (both_rules m of_violation) (both_promises m of_violation) election outcome prices e w of_prices r
      given taken delivered found;
  violation_delivered =
      subst
      (λ (o : Stated (List Bool)). InTurn o
      (λ w. InTurn found.c (λ both. violation (Some of_violation)) (violation None)) (violation None))
      taken.audits.is next;
}

pub both_ended_at_prices : (m : Mode) (election : Turn) (outcome : FileTurn) (prices violation : Turn) (e : Instance)
    (w : List Bool) (why : Unanswered)
    → Gives StatesElection election (Ok e) → GivesOutcome e outcome (Ok w)
    → IfTaken {A = PricesFound} (Err why) (Gives (FindsPrices name.Prices m e w) prices)
    → violation None
    → IfSome (or_refusal (λ r. r) (Err why)) (ReadsBoth m election outcome prices violation)
both_ended_at_prices m election outcome prices violation e w (unanswered.Refused r) given taken judged violation_left =
    both_in_turn m election outcome prices violation e w judged.delivery delivery.Read _ given taken judged.delivered
    (prices_refused m e w judged.delivery delivery.Read r judged.stating) violation_left
both_ended_at_prices m election outcome prices violation e w unanswered.Memory given taken judged violation_left = tt

pub both_settled : (m : Mode) (election : Turn) (outcome : FileTurn) (prices violation : Turn) (e : Instance)
    (w : List Bool) (f : PricesFound) (d : Delivery) (work : Option Reply)
    → Gives StatesElection election (Ok e) → GivesOutcome e outcome (Ok w)
    → Gives (FindsPrices name.Prices m e w) prices (Ok f) → violation (Some d)
    → IfSome work (AnswersCertificate (StatesViolation name.Violation) (beside f.mode f.findings) e w d)
    → IfSome work (ReadsBoth m election outcome prices violation)
both_settled m election outcome prices violation e w f d None given taken judged delivered found = tt
both_settled m election outcome prices violation e w f d (Some r) given taken judged delivered found =
    both_in_turn m election outcome prices violation e w judged.delivery d r given taken judged.delivered
    (both_answered m e w judged.delivery d f r judged.stating found) delivered
