-- `explain` has one answer on what is delivered of its inputs.
use Rattle.std.proofs.Common.{◌≡◌, ◌∙◌, Option, ap, refl, sym}
use Rattle.pb_election.specs.Instance.{Instance}
use Rattle.pb_records.specs.Loading.{Delivery}
use Rattle.pb_certificate.specs.declared.kind.Kind.{Kind}
use Rattle.pb_certificate.specs.declared.kind.Kind.TheVariants as kind
use Rattle.pb_cohesion.specs.declared.Mode.{Mode}
use Rattle.pb_audit.specs.Explained.{AnswersExplained, explained_rules}
use Rattle.pb_reply.specs.Certificates.{Certificate, OfPrices, OfRefutation, OfViolation, StatesCertificate, StatesKind, as_certificate, kind_in}
use Rattle.pb_reply.specs.Inputs.{Stated}
use Rattle.pb_audit.specs.OneAnswer.{JustOne}
use Rattle.pb_input.specs.declared.InputName.TheVariants as name
use Rattle.pb_audit.proofs.Explained.{explained_promise}
use Rattle.pb_audit.proofs.OneAnswer.{audit-one}
use Rattle.pb_audit.proofs.OneStated.{prices-one, refutation-one, violation-one}

kind-some : (k : Kind) (e : Instance) (d : Delivery) → (s : Stated Certificate) × StatesKind k e d s
kind-some kind.Prices e d = let p = (prices-one name.Certificate e d).one in
    (as_certificate OfPrices p.0, (p.0, p.1, refl))
kind-some kind.Violation e d = let v = (violation-one name.Certificate e d).one in
    (as_certificate OfViolation v.0, (v.0, v.1, refl))
kind-some kind.Refutation e d = let r = (refutation-one e d).one in
    (as_certificate OfRefutation r.0, (r.0, r.1, refl))

kind-same : (k : Kind) (e : Instance) (d : Delivery) (s t : Stated Certificate) → StatesKind k e d s
    → StatesKind k e d t → s ≡ t
kind-same kind.Prices e d s t h i =
    h.2 ∙ ap (as_certificate OfPrices) ((prices-one name.Certificate e d).no_other h.0 i.0 h.1 i.1) ∙ sym i.2
kind-same kind.Violation e d s t h i =
    h.2 ∙ ap (as_certificate OfViolation) ((violation-one name.Certificate e d).no_other h.0 i.0 h.1 i.1) ∙ sym i.2
kind-same kind.Refutation e d s t h i =
    h.2 ∙ ap (as_certificate OfRefutation) ((refutation-one e d).no_other h.0 i.0 h.1 i.1) ∙ sym i.2

certificate-one : (e : Instance) (d : Delivery) → JustOne (StatesCertificate e d)
certificate-one e d = record { one = kind-some (kind_in d) e d; no_other = kind-same (kind_in d) e d }

pub explained-one : (m : Mode) (election : Delivery) (outcome : Option Delivery) (certificate : Delivery)
    → JustOne (AnswersExplained m election outcome certificate)
explained-one m = audit-one (explained_rules m) certificate-one (explained_promise m)
