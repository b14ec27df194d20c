use Rattle.std.proofs.Common.{◌≤◌, ◌-◌}
use Rattle.pb_price.specs.Inside.Tallies.{Taken, Tallied}
use Rattle.pb_price.proofs.open_tally.OpenTally.close_to.Given as goal

abbrev pub invariant-loop-self : goal.invariant-loop-self
invariant-loop-self l = record {
  taken : (a : Taken) → Tallied l.election a l.initial.self → Tallied l.election a l.self;
  order : l.self.tally.closed ≤ l.last;
}

abbrev pub decreases-loop-self : goal.decreases-loop-self
decreases-loop-self l = l.last - l.self.tally.closed
