use Rattle.std.proofs.Common.{◌≡◌, [], take}
use Rattle.pb_cohesion.specs.FirstV.{culprits_of_V2}
use Rattle.pb_cohesion.proofs.explaining.first_not_approved.Given as goal

abbrev pub invariant-loop-i : goal.invariant-loop-i
invariant-loop-i l = culprits_of_V2 l.election (take l.i-index l.group) l.demand ≡ []
