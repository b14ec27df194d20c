use Rattle.std.proofs.Common.{◌≡◌, ◌≤◌, ◌-◌, length}
use Rattle.pb_certificate.specs.Prices.RowFaults.{last_voter}
use Rattle.pb_certificate.specs.Prices.Rows.{given}
use Rattle.pb_price.specs.Inside.Tallying.{taken_from}
use Rattle.pb_price.specs.Inside.Tallies.{Tallied}
use Rattle.pb_price.proofs.tallying.take_rows.Given as goal

abbrev pub invariant-loop-behind : goal.invariant-loop-behind
invariant-loop-behind l = record {
  same : l.left ≡ record l.fn.rows { record_number = l.left.record_number };
  tallied : Tallied l.election (taken_from l.left) l.so_far;
  closed : l.so_far.tally.closed ≤ last_voter (given l.left) - 1;
  few : length (given l.left) ≤ 10000000;
}

abbrev pub decreases-loop-behind : goal.decreases-loop-behind
decreases-loop-behind l = length l.left.records - l.left.record_number
