use Rattle.std.proofs.Common.{◌≡◌, take}
use Rattle.pb_election.specs.Inside.Ids.{ids_kept}
use Rattle.pb_election.proofs.order.Order.of.Given as goal

abbrev pub invariant-loop-text : goal.invariant-loop-text
invariant-loop-text l = l.order ≡ ids_kept (take l.text-index l.texts)
