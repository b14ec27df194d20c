use Rattle.std.proofs.Common.{◌≡◌, ◌≤◌, ◌<◌, ◌-◌, ◌^◌, take}
use Rattle.std.specs.Prelude.{IsTrue}
use Rattle.std.specs.Str.{all_ascii_digits}
use Rattle.pb_money.specs.Digits.{number_of}
use Rattle.pb_money.proofs.digits.leading_number.Given as goal

abbrev pub invariant-loop-len : goal.invariant-loop-len
invariant-loop-len l =
    record {
      within : l.len ≤ l.most;
      digits : IsTrue (all_ascii_digits (take l.len l.text));
      value : l.number ≡ number_of (take l.len l.text);
      small : l.number < 10 ^ l.len;
    }

abbrev pub decreases-loop-len : goal.decreases-loop-len
decreases-loop-len l = l.most - l.len
