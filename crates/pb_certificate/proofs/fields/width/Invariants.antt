use Rattle.std.proofs.Common.{◌≡◌, ◌≤◌, length, take}
use Rattle.csv.specs.Records.{fields_of}
use Rattle.pb_certificate.specs.Fields.{fields}
use Rattle.pb_certificate.proofs.fields.width.Given as goal

abbrev pub invariant-loop-width : goal.invariant-loop-width
invariant-loop-width l =
    record {
      within : l.width ≤ length (fields_of l.row);
      same : length (fields (take l.width (fields_of l.row))) ≡ length (fields (fields_of l.row));
    }

abbrev pub decreases-loop-width : goal.decreases-loop-width
decreases-loop-width l = l.width
