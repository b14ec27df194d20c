use Rattle.std.proofs.Common.{ℕ, sym, arith}
use Rattle.pb_election.specs.Instance.{IsProject}
use Rattle.pb_price.specs.Inside.Tallies.{AreInRange, IsTallyOf, sums_of}
use Rattle.pb_price.specs.Answers.{IsVerdictOn}
use Rattle.pb_price.proofs.Bounds.{steps-bound, sums-of-bound}
use Rattle.pb_price.proofs.Groups.{on-prices, same-answer}
use Rattle.pb_price.proofs.Payments.{few-rows, tally-of}
use Rattle.pb_price.proofs.checking.check.Goals as goal

pub take_prices-requires : goal.take_prices-requires
take_prices-requires c = grind arith

pub finish-requires : goal.finish-requires
finish-requires c = (c.take_prices.ensures.taken, c.take_prices.ensures.tallied, few-rows _ _ _ c.take_prices.ensures)

pub judge-checked-requires : goal.judge-checked-requires
judge-checked-requires c =
    let whole = c.finish.ensures.taken c.take_prices.ensures.taken c.take_prices.ensures.tallied in
    let steps = steps-bound _ _ _ whole.tally (few-rows _ _ _ c.take_prices.ensures) in
    let small : (k : ℕ) → IsProject c.args.election.now k → AreInRange (sums_of c.finish.new.self.tally.projects.items k) =
    λ k ip. sums-of-bound _ _ _ k whole.tally ip in
    grind arith

pub returns : goal.returns
returns c =
    let whole = c.finish.ensures.taken c.take_prices.ensures.taken c.take_prices.ensures.tallied in
    let tally : IsTallyOf c.args.election.now c.args.prices.now c.finish.new.self.tally =
    tally-of c.args.election.now c.args.prices.now c.take_prices.new.so_far c.finish.new.self c.take_prices.ensures
    whole c.finish.ensures.closed in
    let on : IsVerdictOn c.args.mode c.args.election.now c.args.outcome.now.marks c.args.prices.now
    c.judge-checked.result.verdict =
    on-prices c.args.mode c.args.election.now c.args.outcome.now.marks c.args.prices.now c.judge-checked.result.verdict
    c.denominator.ensures.sound.denominator.0
    (c.judge-checked.ensures.verdict c.args.prices.now (sym c.denominator.ensures.value) tally) in
    record {
      first = on.first;
      supported = on.supported;
      yes = λ h. on.yes (same-answer _ _ h);
      plain_no = λ project h. on.plain_no project (same-answer _ _ h);
      stable_no = λ project h. on.stable_no project (same-answer _ _ h);
    }
