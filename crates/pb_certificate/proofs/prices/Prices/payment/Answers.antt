use Rattle.std.proofs.Common.{◌∙◌, ap, rules, sym}
use Rattle.std.proofs.lemmas.List.Sorted.{answers_always}
use Rattle.pb_certificate.specs.Prices.{numerator_in}
use Rattle.pb_certificate.proofs.OnPrices.Searches.{payment-searched}
use Rattle.pb_certificate.proofs.prices.Prices.payment.Goals as goal

pub returns-in-Ok-clause-value : goal.returns-in-Ok-clause-value
returns-in-Ok-clause-value c =
    let qs = c.payments_of-payments.result.now in
    let facts = c.binary_search_by_key.ensures in
    let by_project = facts.position (λ q. q.0) (answers_always _ _ _ (λ f a r g called. search rules)) in
    let found = payment-searched 1 c.args.self.now.projects qs c.args.j c.binary_search_by_key.result
    c.payments_of-payments.ensures.map.projects_rise facts.bound by_project in
    sym (rw c.in-Ok.is at found) ∙ ap (λ xs. numerator_in xs c.args.j) c.payments_of-payments.ensures.value

pub returns-in-Err-clause-value : goal.returns-in-Err-clause-value
returns-in-Err-clause-value c =
    let qs = c.payments_of-payments.result.now in
    let facts = c.binary_search_by_key.ensures in
    let by_project = facts.position (λ q. q.0) (answers_always _ _ _ (λ f a r g called. search rules)) in
    let found = payment-searched 1 c.args.self.now.projects qs c.args.j c.binary_search_by_key.result
    c.payments_of-payments.ensures.map.projects_rise facts.bound by_project in
    sym (rw c.in-Err.is at found) ∙ ap (λ xs. numerator_in xs c.args.j) c.payments_of-payments.ensures.value
