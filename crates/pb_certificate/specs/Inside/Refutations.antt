-- What the reader's own draft has of a refutation. No claim on a file rests on this.
use Rattle.std.specs.Prelude.{◌-◌, ◌&&◌, nat_lt, if◌then◌else◌, Bool, ℕ, List, length, is_none, Option, Some, None, Result, Ok, Err, slice_index_or, slice_set}
use Rattle.pb_election.specs.Instance.{Instance}
use Rattle.pb_records.specs.Records.{Rec}
use Rattle.pb_records.specs.Cells.{cell}
use Rattle.pb_certificate.specs.Fields.{project_in}
use Rattle.pb_certificate.specs.Refutations.Kind.{RefutationHead, weighting_in}
use Rattle.pb_certificate.specs.declared.refutations.draft.RefutationDraft.{RefutationDraft}
use Rattle.pb_certificate.specs.declared.refutations.weighting.Weighting.{Weighting}
use Rattle.pb_certificate.specs.declared.refusal.CertFault.{CertFault}
use Rattle.pb_certificate.specs.declared.refusal.CertFault.TheVariants as fault

-- the head, and of each project what its row states
abbrev pub refutation_had : RefutationDraft → RefutationHead × List (Option Weighting)
refutation_had d = (record { awaited = d.awaited; cover = d.cover }, d.rows.items)

-- whether project j is there and has no row
abbrev pub is_free : List (Option Weighting) → ℕ → Bool
is_free rows j = nat_lt (j - 1) (length rows) && is_none (slice_index_or rows (j - 1) None)

-- the rows with one more
abbrev pub with_row : List (Option Weighting) → ℕ → Weighting → List (Option Weighting)
with_row rows j x = slice_set rows (j - 1) (Some x)

-- the rows after one more, by what it states and by its project
abbrev pub weights_after : List (Option Weighting) → Result Weighting CertFault → Option ℕ
    → Result (List (Option Weighting)) CertFault
weights_after rows (Err f) j = Err f
weights_after rows (Ok x) None = Err fault.UnknownProject
weights_after rows (Ok x) (Some j) = if is_free rows j then Ok (with_row rows j x) else Err fault.Repeated

-- the rows after one more
abbrev pub after_weight_row : Instance → List (Option Weighting) → Rec → Result (List (Option Weighting)) CertFault
after_weight_row e rows r = weights_after rows (weighting_in r) (project_in e (cell 1 r))
