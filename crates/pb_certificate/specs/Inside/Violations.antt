-- What the reader's own draft has of a violation certificate. No claim on a file rests on this.
use Rattle.std.specs.Prelude.{◌==◌, if◌then◌else◌, Bool, List, length, Result, Ok, Err, codes}
use Rattle.pb_election.specs.Instance.{Instance}
use Rattle.pb_records.specs.Records.{Rec}
use Rattle.pb_records.specs.Cells.{cell}
use Rattle.pb_certificate.specs.Fields.{fields}
use Rattle.pb_certificate.specs.Inside.Marks.{project_after, project_marks, voter_after, voter_marks}
use Rattle.pb_certificate.specs.NamedRows.{Named, is_kind}
use Rattle.pb_certificate.specs.Violations.Kind.{ViolationHead}
use Rattle.pb_certificate.specs.declared.violations.draft.ViolationDraft.{ViolationDraft}
use Rattle.pb_certificate.specs.declared.refusal.CertFault.{CertFault}
use Rattle.pb_certificate.specs.declared.refusal.CertFault.TheVariants as fault

-- the head, and the marks of the voters and of the projects that rows name
abbrev pub violation_had : ViolationDraft → ViolationHead × (List Bool × List Bool)
violation_had d = (record { awaited = d.awaited; measure = d.measure }, (d.group.items, d.demand.items))

abbrev pub both_marks : Instance → List Named → List Bool × List Bool
both_marks e names = (voter_marks e names, project_marks e names)

-- both lists of marks, where one of them was marked in
abbrev pub with_group : List Bool → Result (List Bool) CertFault → Result (List Bool × List Bool) CertFault
with_group demand (Ok group) = Ok (group, demand)
with_group demand (Err f) = Err f

abbrev pub with_demand : List Bool → Result (List Bool) CertFault → Result (List Bool × List Bool) CertFault
with_demand group (Ok demand) = Ok (group, demand)
with_demand group (Err f) = Err f

-- the marks after one more row
abbrev pub after_violation_row : Instance → List Bool × List Bool → Rec → Result (List Bool × List Bool) CertFault
after_violation_row e marks r =
    if length (fields r) == 2 then
    (if is_kind (codes "voter") r then with_group marks.1 (voter_after e (cell 1 r) marks.0)
    else if is_kind (codes "project") r then with_demand marks.0 (project_after e (cell 1 r) marks.1)
    else Err fault.BadRow)
    else Err fault.BadRow
