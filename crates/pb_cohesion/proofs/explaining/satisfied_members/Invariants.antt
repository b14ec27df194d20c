use Rattle.std.proofs.Common.{◌≤◌, take}
use Rattle.std.specs.Prelude.{nat_le}
use Rattle.pb_cohesion.specs.Groups.{gets, sat}
use Rattle.pb_cohesion.proofs.Counted.{Seen}
use Rattle.pb_cohesion.proofs.explaining.satisfied_members.Given as goal

abbrev pub invariant-loop-i : goal.invariant-loop-i
invariant-loop-i g l = record {
  seen : Seen
      (λ i. nat_le l.demanded
      (sat (g.S.Satisfaction.meaning l.satisfaction l.election) (gets l.election l.outcome.marks i)))
      (λ i. sat (g.S.Satisfaction.meaning l.satisfaction l.election) (gets l.election l.outcome.marks i))
      (take l.i-index l.group) l.satisfied l.gets;
  few : l.satisfied.count ≤ l.i-index;
}
