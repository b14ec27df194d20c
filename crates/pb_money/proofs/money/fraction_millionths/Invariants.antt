use Rattle.std.proofs.Common.{◌≡◌, ◌≤◌, ◌+◌, ◌-◌, ◌*◌, ◌^◌, take}
use Rattle.pb_money.specs.Digits.{number_of}
use Rattle.pb_money.proofs.money.fraction_millionths.Given as goal

abbrev pub invariant-loop-digit : goal.invariant-loop-digit
invariant-loop-digit l = record {
  unit : l.unit ≡ 10 ^ (6 - l.digit-index);
  value : l.millionths ≡ number_of (take l.digit-index l.fraction) * l.unit;
  small : l.millionths + l.unit ≤ 10 ^ 6;
}
