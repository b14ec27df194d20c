use Rattle.std.proofs.Common.{sym, ◌∙◌, arith}
use Rattle.pb_certificate.specs.Faults.{certificate_records}
use Rattle.pb_certificate.specs.Prices.Rows.{prices_given}
use Rattle.pb_price.proofs.Bounds.{steps-bound, sums-of-bound}
use Rattle.pb_price.proofs.Certificates.{before-rows, certified, tallied-by}
use Rattle.pb_price.proofs.Whole.{whole-steps}
use Rattle.pb_price.proofs.tallying.take_certificate.Goals as goal

pub take_rows-requires : goal.take_rows-requires
take_rows-requires c = grind (arith, before-rows)

pub finish-requires : goal.finish-requires
finish-requires c = grind arith

pub returns-clause-taken : goal.returns-clause-taken
returns-clause-taken c =
    let taken = c.in_ok-take_rows.ensures.taken in
    let whole =
    c.finish.ensures.taken _
    (tallied-by c.in_ok-rows.rows c.args.election.now c.take_rows.new.so_far taken c.in_ok-rows.ensures.election) in
    let done = certified c.in_ok-rows.rows c.args.election.now (certificate_records c.args.bytes.now)
    c.take_rows.new.so_far c.finish.new.self taken c.in_ok-rows.ensures.election c.in_ok-rows.ensures.records whole
    c.finish.ensures.closed in
    record {
      prices = prices_given taken.end;
      text = done.text;
      denominator = done.denominator ∙ sym c.denominator-denominator.ensures.value;
      low = c.denominator-denominator.ensures.low;
      high = c.denominator-denominator.ensures.high;
      tally = done.tally;
      small_budget = omega (arith, whole.tally.budget, whole.tally.taken.small_budget);
      few_steps = steps-bound _ _ _ whole.tally (omega (arith, taken.few));
      in_range = λ k ip. sums-of-bound c.args.election.now _ c.finish.new.self.tally k whole.tally ip;
      steps = whole-steps c.args.election.now _ c.finish.new.self.tally _ whole.tally c.finish.ensures.closed done.rows;
    }
