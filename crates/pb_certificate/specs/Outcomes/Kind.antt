-- Outcome files, record by record: one head record, and rows each of which names a project.
use Rattle.std.specs.Prelude.{◌==◌, ◌&&◌, if◌then◌else◌, Bool, true, false, [], ◌∷◌, length, Result, Ok, Err, codes}
use Rattle.pb_election.specs.Instance.{Instance}
use Rattle.pb_records.specs.Headed.{Kind, unless_repeated}
use Rattle.pb_records.specs.Records.{Rec}
use Rattle.pb_records.specs.Cells.{cell}
use Rattle.pb_certificate.specs.Fields.{fields, same_fields}
use Rattle.pb_certificate.specs.NamedRows.{Named, is_kind, project_named, same_named}
use Rattle.pb_certificate.specs.declared.refusal.CertFault.{CertFault}
use Rattle.pb_certificate.specs.declared.refusal.CertFault.TheVariants as fault

-- the head is whole behind the record that names the format
abbrev pub outcome_head : Rec → Result Bool CertFault
outcome_head r = if same_fields (fields r) (codes "pb-outcome" ∷ codes "1" ∷ []) then Ok true else Err fault.BadHead

abbrev pub is_outcome_row : Rec → Bool
is_outcome_row r = (length (fields r) == 2) && is_kind (codes "project") r

abbrev pub outcome_row : Instance → Rec → Result Named CertFault
outcome_row e r = if is_outcome_row r then project_named e (cell 1 r) else Err fault.BadRow

abbrev pub outcome_kind : Instance → Kind CertFault Bool Named
outcome_kind e =
    record {
      start = false;
      is_whole = λ begun. begun;
      head = λ begun r. outcome_head r;
      row = outcome_row e;
      admit = unless_repeated fault.Repeated same_named;
      not_text = fault.NotUtf8;
      cut = fault.BadHead;
    }
