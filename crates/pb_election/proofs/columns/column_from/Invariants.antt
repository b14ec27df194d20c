use Rattle.std.proofs.Common.{◌≡◌, ◌-◌, length, drop}
use Rattle.std.specs.List.{position_from}
use Rattle.csv.specs.Records.{fields_of}
use Rattle.pb_election.specs.Rows.{is_named}
use Rattle.pb_election.proofs.columns.column_from.Given as goal

abbrev pub invariant-loop-field : goal.invariant-loop-field
invariant-loop-field l =
    position_from (is_named l.name) l.i (drop l.i (fields_of l.header))
    ≡ position_from (is_named l.name) l.start (drop l.start (fields_of l.header))

abbrev pub decreases-loop-field : goal.decreases-loop-field
decreases-loop-field l = length (fields_of l.header) - l.i
