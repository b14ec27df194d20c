-- Refutations, record by record: three head records, and rows each of which states the role and the weight of a project.
use Rattle.std.specs.Prelude.{◌==◌, if◌then◌else◌, Bool, true, false, ℕ, length, Option, Some, None, Result, Ok, Err, codes}
use Rattle.std.specs.Result.{result_map_both}
use Rattle.pb_election.specs.Instance.{Instance}
use Rattle.pb_records.specs.Headed.{Kind, unless_repeated}
use Rattle.pb_records.specs.Records.{Rec}
use Rattle.pb_records.specs.Cells.{cell}
use Rattle.pb_certificate.specs.Fields.{fields, head_number, project_in, same_fields}
use Rattle.pb_certificate.specs.Refutations.{most_weight}
use Rattle.pb_certificate.specs.Refutations.Text.{WeightRow, refutation_columns, refutation_name, role_in, same_project, weight_in}
use Rattle.pb_certificate.specs.declared.refutations.draft.Awaited.{Awaited}
use Rattle.pb_certificate.specs.declared.refutations.draft.Awaited.TheVariants.{Format, Cover, Columns, Row}
use Rattle.pb_certificate.specs.declared.refutations.weighting.Role.{Role}
use Rattle.pb_certificate.specs.declared.refutations.weighting.Weighting.{Weighting}
use Rattle.pb_certificate.specs.declared.refusal.CertFault.{CertFault}
use Rattle.pb_certificate.specs.declared.refusal.CertFault.TheVariants as fault

-- what the next record is to be, and the weight of Cover, 0 until a head record states it
pub record RefutationHead : Type 0 where
  pub awaited : Awaited
  pub cover : ℕ

-- the head after one more record
abbrev pub refutation_head : Awaited → ℕ → Rec → Result RefutationHead CertFault
refutation_head Format c r = if same_fields (fields r) refutation_name then Ok (record { awaited = Cover; cover = c })
    else Err fault.BadHead
refutation_head Cover c r =
    result_map_both (λ n. record { awaited = Columns; cover = n }) (λ f. f) (head_number (codes "cover") 0 most_weight r)
refutation_head Columns c r = if same_fields (fields r) refutation_columns then Ok (record { awaited = Row; cover = c })
    else Err fault.BadHead
refutation_head Row c r = Err fault.BadHead

abbrev pub awaits_row : Awaited → Bool
awaits_row Format = false
awaits_row Cover = false
awaits_row Columns = false
awaits_row Row = true

-- the role and the weight of a row, where there is each of them
abbrev pub weighting_from : Option Role → Option ℕ → Result Weighting CertFault
weighting_from None n = Err fault.BadRow
weighting_from (Some x) None = Err fault.BadNumber
weighting_from (Some x) (Some n) = Ok (record { role = x; weight = n })

-- the role and the weight that a row states, or why it states none
abbrev pub weighting_in : Rec → Result Weighting CertFault
weighting_in r = if length (fields r) == 3 then weighting_from (role_in (cell 0 r)) (weight_in (cell 2 r))
    else Err fault.BadRow

-- what a row states, by its role and weight, and by its project
abbrev pub row_from : Result Weighting CertFault → Option ℕ → Result WeightRow CertFault
row_from (Err f) j = Err f
row_from (Ok x) None = Err fault.UnknownProject
row_from (Ok x) (Some j) = Ok (record { project = j; states = x })

abbrev pub refutation_row : Instance → Rec → Result WeightRow CertFault
refutation_row e r = row_from (weighting_in r) (project_in e (cell 1 r))

abbrev pub refutation_kind : Instance → Kind CertFault RefutationHead WeightRow
refutation_kind e =
    record {
      start = record { awaited = Format; cover = 0 };
      is_whole = λ h. awaits_row h.awaited;
      head = λ h r. refutation_head h.awaited h.cover r;
      row = refutation_row e;
      admit = unless_repeated fault.Repeated same_project;
      not_text = fault.NotUtf8;
      cut = fault.BadHead;
    }
