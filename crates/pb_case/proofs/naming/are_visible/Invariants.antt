use Rattle.std.proofs.Common.{◌≡◌, take, true}
use Rattle.std.specs.List.{list_all}
use Rattle.pb_case.specs.Shown.{is_visible_byte}
use Rattle.pb_case.proofs.naming.are_visible.Given as goal

abbrev pub invariant-loop-b : goal.invariant-loop-b
invariant-loop-b l = list_all is_visible_byte (take l.b-index l.bytes) ≡ true
