use Rattle.std.proofs.Common.{◌≡◌, ◌∙◌, ap, subst, sym}
use Rattle.pb_certificate.specs.Prices as spec
use Rattle.pb_certificate.specs.Prices.{IsPaymentMap, IsPriceSystem, Prices}
use Rattle.pb_certificate.proofs.OnPrices.Payments.{map-at}
use Rattle.pb_certificate.proofs.prices.Prices.payments_of.Goals as goal

pub returns-clause-map : goal.returns-clause-map
returns-clause-map c =
    let prices = c.args.self.now in
    let value : c.get.result.now ≡ spec.payments_of prices c.args.i =
    c.get.ensures ∙ ap (λ (p : Prices). spec.payments_of p c.args.i) c.self.view_is in
    subst (IsPaymentMap prices.projects) (sym value)
    (map-at prices c.args.i (subst IsPriceSystem c.self.view_is c.self.invariant) c.requires.low c.requires.high)
