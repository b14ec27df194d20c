use Rattle.std.proofs.Common.{◌≡◌, length}
use Rattle.pb_money.specs.Money.{without_last_zeros}
use Rattle.pb_money.proofs.money.without_last_zeros.Given as goal

abbrev pub invariant-loop-last : goal.invariant-loop-last
invariant-loop-last l = without_last_zeros l.rest ≡ without_last_zeros l.digits

abbrev pub decreases-loop-last : goal.decreases-loop-last
decreases-loop-last l = length l.rest
