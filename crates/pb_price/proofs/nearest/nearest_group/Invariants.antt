use Rattle.std.proofs.Common.{◌-◌, ◌%◌, ◌<◌}
use Rattle.std.specs.Prelude.{IfSome}
use Rattle.pb_election.specs.Instance.{voters}
use Rattle.pb_price.specs.Inside.Reached.{AreReached, IsSmallGroup}
use Rattle.pb_price.proofs.Nearer.{IsNearestTo}
use Rattle.pb_price.proofs.nearest.nearest_group.Given as goal

abbrev pub invariant-loop-k : goal.invariant-loop-k
invariant-loop-k l = record {
  words : 0 < l.k % 128 → AreReached (voters l.election) l.election (l.k - l.k % 128) l.words.items;
  nearest : IsNearestTo l.k l.election l.outcome.marks l.nearest;
  small : IfSome l.nearest (IsSmallGroup l.election);
}
