-- Certificates of any kind: what one states, and how the audit of it ends.
use Rattle.std.specs.Prelude.{◌≡◌, Bool, ℕ, List, Ok, Err}
use Rattle.pb_records.specs.Loading.{Delivery}
use Rattle.pb_records.specs.Loading as delivery
use Rattle.pb_election.specs.Instance.{Instance}
use Rattle.pb_certificate.specs.Faults.{certificate_records}
use Rattle.pb_certificate.specs.Kinds.{kind_by}
use Rattle.pb_certificate.specs.Prices.{Prices}
use Rattle.pb_certificate.specs.Refutations.{Weights}
use Rattle.pb_certificate.specs.declared.kind.Kind.{Kind}
use Rattle.pb_certificate.specs.declared.kind.Kind.TheVariants as kind
use Rattle.pb_certificate.specs.declared.violations.measure.Measure.{Measure}
use Rattle.pb_cohesion.specs.FirstU.{refutation_verdict}
use Rattle.pb_cohesion.specs.FirstV.{FirstV, violation_verdict_of}
use Rattle.pb_cohesion.specs.Satisfactions.{worth_by}
use Rattle.pb_price.specs.First.{First, verdict_of}
use Rattle.pb_cohesion.specs.declared.Mode.{Mode}
use Rattle.pb_reply.specs.Inputs.{Stated, StatesPrices, StatesRefutation, StatesViolation}
use Rattle.pb_reply.specs.Replies.{price_status, refutation_status, violation_status}
use Rattle.pb_input.specs.declared.InputName.TheVariants as name
use Rattle.pb_reply.specs.declared.status.Status.{Status}

-- what a certificate of any kind states: prices, the measure, the group and the demand of a violation, or the weights of
-- a refutation
pub data Certificate : Type 0 where
  OfPrices : Prices → Certificate
  OfViolation : Measure × List ℕ × List ℕ → Certificate
  OfRefutation : Weights → Certificate

-- as which kind a certificate is taken: its first record that isn't blank says so; one that wasn't read whole is taken
-- as prices
abbrev pub kind_in : Delivery → Kind
kind_in (delivery.Bytes bytes) = kind_by (certificate_records bytes)
kind_in delivery.Read = kind.Prices
kind_in delivery.TooLong = kind.Prices

-- what a certificate of one kind states, as that of any kind
abbrev pub as_certificate : {A : Type 0} → (A → Certificate) → Stated A → Stated Certificate
as_certificate of (Ok a) = Ok (of a)
as_certificate of (Err r) = Err r

-- a certificate for an election that is taken as one of this kind
abbrev pub StatesKind : Kind → Instance → Delivery → Stated Certificate → Type 0
StatesKind kind.Prices e d stated =
    (p : Stated Prices) × StatesPrices name.Certificate e d p × (stated ≡ as_certificate OfPrices p)
StatesKind kind.Violation e d stated =
    (v : Stated (Measure × List ℕ × List ℕ)) × StatesViolation name.Certificate e d v
    × (stated ≡ as_certificate OfViolation v)
StatesKind kind.Refutation e d stated =
    (r : Stated Weights) × StatesRefutation e d r × (stated ≡ as_certificate OfRefutation r)

-- a certificate of any kind for an election
abbrev pub StatesCertificate : Instance → Delivery → Stated Certificate → Type 0
StatesCertificate e d stated = StatesKind (kind_in d) e d stated

-- how the audit of a certificate ends: yes where the prices support the outcome, the group and its demand are a
-- violation, or the weights refute all prices, or where stable prices are asked about those
abbrev pub certificate_status : Mode → Instance → List Bool → Certificate → Status
certificate_status m e w (OfPrices p) = price_status (verdict_of (First m e w p))
certificate_status m e w (OfViolation v) =
    violation_status (violation_verdict_of (FirstV (worth_by v.0 e) e w v.1 v.2))
certificate_status m e w (OfRefutation r) = refutation_status (refutation_verdict m.stable e w r)
