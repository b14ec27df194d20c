use Rattle.std.proofs.Common.{◌≡◌, take}
use Rattle.pb_money.specs.Digits.{number_of}
use Rattle.pb_money.proofs.digits.number_up_to.Given as goal

abbrev pub invariant-loop-digit : goal.invariant-loop-digit
invariant-loop-digit l = l.number ≡ number_of (take l.digit-index l.digits)
