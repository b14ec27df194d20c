use Rattle.std.proofs.Common.{◌∙◌, refl, subst, sym}
use Rattle.std.specs.Prelude.{Ok}
use Rattle.pb_certificate.specs.declared.kind.Kind.{Kind}
use Rattle.pb_reply.specs.Certificates.{OfPrices, OfRefutation, OfViolation, StatesKind}
use Rattle.pb_reply.specs.Inside.Loaded.{lent}
use Rattle.pb_report.specs.Found.{claim_of}
use Rattle.pb_report.proofs.certificate.certificate_in.Goals as goal

pub returns-in_ok-prices-in-Prices-clause-taken : goal.returns-in_ok-prices-in-Prices-clause-taken
returns-in_ok-prices-in-Prices-clause-taken c =
    let e = c.args.decided.now.election in
    let d = lent c.args.certificate in
    let taken = c.in_ok-prices-in-Prices.ensures.taken in (
      OfPrices taken.0,
      subst (λ (k : Kind). StatesKind k e d (Ok (OfPrices taken.0))) (sym c.in-Prices.is ∙ c.in_ok-kind_in.ensures)
          (Ok taken.0, taken.1, refl),
      (c.in_ok-prices-in-Prices.prices, refl, taken.2, taken.3),
    )

pub returns-in_ok-group-in-Violation-clause-taken : goal.returns-in_ok-group-in-Violation-clause-taken
returns-in_ok-group-in-Violation-clause-taken c =
    let e = c.args.decided.now.election in
    let d = lent c.args.certificate in
    let group = c.in_ok-group-in-Violation.group in
    let claim = claim_of group.violation in
    let taken = c.in_ok-group-in-Violation.ensures.taken in (
      OfViolation claim,
      subst (λ (k : Kind). StatesKind k e d (Ok (OfViolation claim))) (sym c.in-Violation.is ∙ c.in_ok-kind_in.ensures)
          (Ok claim, taken.0, refl),
      (group, refl, refl, taken.1),
    )

pub returns-in_ok-weights-in-Refutation-clause-taken : goal.returns-in_ok-weights-in-Refutation-clause-taken
returns-in_ok-weights-in-Refutation-clause-taken c =
    let e = c.args.decided.now.election in
    let d = lent c.args.certificate in
    let weights = c.in_ok-weights-in-Refutation.weights in
    let taken = c.in_ok-weights-in-Refutation.ensures.taken in (
      OfRefutation weights.refutation,
      subst (λ (k : Kind). StatesKind k e d (Ok (OfRefutation weights.refutation)))
          (sym c.in-Refutation.is ∙ c.in_ok-kind_in.ensures) (Ok weights.refutation, taken.0, refl),
      (weights, refl, taken.1),
    )
