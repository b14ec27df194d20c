use Rattle.std.proofs.Common.{◌+◌, ℕ, ap, refl, rules, sym}
use Rattle.std.proofs.lemmas.List.Sorted.{IsNonDecreasingBy-from_sort_by_key}
use Rattle.pb_certificate.specs.Inside.Prices.Gathering.{prices_up_to}
use Rattle.pb_certificate.proofs.OnPrices.TurnSteps.{can-take, closed, done-length}
use Rattle.pb_certificate.proofs.prices.gathering.Turn.close.Goals as goal

pub take-requires : goal.take-requires
take-requires g c =
    let some = c.requires.some in
    let sorted =
    IsNonDecreasingBy-from_sort_by_key (λ p. p.0) _ c.sort_unstable_by_key.ensures.sorted
    (λ a r q k. search rules) in
    rw c.deref.ensures.value
    (can-take (g.L.PaymentSink.Has c.args.sink.now) some.0 some.1 c.args.self.now c.sort_unstable_by_key.new.self.items
    some.2 sorted c.sort_unstable_by_key.ensures.permutation)

pub returns-clause-holds : goal.returns-clause-holds
returns-clause-holds g c = λ s qs h. (
    let turn = c.args.self.now in
    let sorted =
    IsNonDecreasingBy-from_sort_by_key (λ p. p.0) _ c.sort_unstable_by_key.ensures.sorted
    (λ a r q k. search rules) in
    let next = ap (λ (k : ℕ). k + 1) (sym (done-length s qs turn.done)) in
    let taken =
    rw c.deref.ensures.value at (c.in_ok-take.ensures s.election (prices_up_to s qs turn.done) h.has_done next) in
    closed (g.L.PaymentSink.Has c.args.sink.now) (g.L.PaymentSink.Has c.take.new.self) s qs turn _
    c.sort_unstable_by_key.new.self.items h sorted c.sort_unstable_by_key.ensures.permutation taken refl
    c.clear.ensures.items
    )
