-- What the reader's own draft has of an outcome file. No claim on a file rests on this.
use Rattle.std.specs.Prelude.{if◌then◌else◌, Bool, List, Result, Err}
use Rattle.pb_election.specs.Instance.{Instance}
use Rattle.pb_records.specs.Records.{Rec}
use Rattle.pb_records.specs.Cells.{cell}
use Rattle.pb_certificate.specs.Inside.Marks.{project_after}
use Rattle.pb_certificate.specs.Outcomes.Kind.{is_outcome_row}
use Rattle.pb_certificate.specs.declared.outcomes.draft.OutcomeDraft.{OutcomeDraft}
use Rattle.pb_certificate.specs.declared.refusal.CertFault.{CertFault}
use Rattle.pb_certificate.specs.declared.refusal.CertFault.TheVariants as fault

-- whether the head record was taken, and the marks of the projects that rows name
abbrev pub outcome_had : OutcomeDraft → Bool × List Bool
outcome_had d = (d.begun, d.marks.items)

-- the marks after one more row
abbrev pub after_outcome_row : Instance → List Bool → Rec → Result (List Bool) CertFault
after_outcome_row e marks r = if is_outcome_row r then project_after e (cell 1 r) marks else Err fault.BadRow
