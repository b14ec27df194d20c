-- Violation certificates, record by record: one or two head records, and rows each of which names a voter or a project.
use Rattle.std.specs.Prelude.{◌==◌, if◌then◌else◌, Bool, true, false, length, Result, Ok, Err, codes}
use Rattle.pb_election.specs.Instance.{Instance}
use Rattle.pb_records.specs.Headed.{Kind, unless_repeated}
use Rattle.pb_records.specs.Records.{Rec}
use Rattle.pb_records.specs.Cells.{cell}
use Rattle.pb_certificate.specs.Fields.{fields, same_fields}
use Rattle.pb_certificate.specs.NamedRows.{Named, is_kind, project_named, same_named, voter_named}
use Rattle.pb_certificate.specs.Violations.Text.{is_version_1, is_version_2, satisfaction_by}
use Rattle.pb_certificate.specs.declared.violations.draft.Awaited.{Awaited}
use Rattle.pb_certificate.specs.declared.violations.draft.Awaited.TheVariants.{Format, Satisfaction, Row}
use Rattle.pb_certificate.specs.declared.violations.measure.Measure.{Measure}
use Rattle.pb_certificate.specs.declared.violations.measure.Measure.TheVariants.{ByCount, ByCost}
use Rattle.pb_certificate.specs.declared.refusal.CertFault.{CertFault}
use Rattle.pb_certificate.specs.declared.refusal.CertFault.TheVariants as fault

-- what the next record is to be, and the measure: counting, until a head record says otherwise
pub record ViolationHead : Type 0 where
  pub awaited : Awaited
  pub measure : Measure

-- the head after one more record
abbrev pub violation_head : Awaited → Measure → Rec → Result ViolationHead CertFault
violation_head Format m r =
    if is_version_1 r then Ok (record { awaited = Row; measure = m })
    else if is_version_2 r then Ok (record { awaited = Satisfaction; measure = m })
    else Err fault.BadHead
violation_head Satisfaction m r =
    if same_fields (fields r) (satisfaction_by ByCount) then Ok (record { awaited = Row; measure = ByCount })
    else if same_fields (fields r) (satisfaction_by ByCost) then Ok (record { awaited = Row; measure = ByCost })
    else Err fault.BadHead
violation_head Row m r = Err fault.BadHead

abbrev pub awaits_row : Awaited → Bool
awaits_row Format = false
awaits_row Satisfaction = false
awaits_row Row = true

-- what a row names
abbrev pub violation_row : Instance → Rec → Result Named CertFault
violation_row e r =
    if length (fields r) == 2 then
    (if is_kind (codes "voter") r then voter_named e (cell 1 r)
    else if is_kind (codes "project") r then project_named e (cell 1 r)
    else Err fault.BadRow)
    else Err fault.BadRow

abbrev pub violation_kind : Instance → Kind CertFault ViolationHead Named
violation_kind e =
    record {
      start = record { awaited = Format; measure = ByCount };
      is_whole = λ h. awaits_row h.awaited;
      head = λ h r. violation_head h.awaited h.measure r;
      row = violation_row e;
      admit = unless_repeated fault.Repeated same_named;
      not_text = fault.NotUtf8;
      cut = fault.BadHead;
    }
