-- The kinds of certificates, and as which of them a file is taken.
use Rattle.std.specs.Prelude.{◌||◌, if◌then◌else◌, List}
use Rattle.pb_records.specs.Records.{Rec}
use Rattle.pb_certificate.specs.Fields.{fields, same_fields}
use Rattle.pb_certificate.specs.Violations.Text.{begins_violation, is_version_1, is_version_2}
use Rattle.pb_certificate.specs.Refutations.Text.{begins_refutation, refutation_name}
use Rattle.pb_certificate.specs.declared.kind.Kind.{Kind}
use Rattle.pb_certificate.specs.declared.kind.Kind.TheVariants as kind

-- A file is taken as the certificate that its first record names which is not blank, and as prices where that names
-- neither a violation certificate nor a refutation.
abbrev pub kind_by : List Rec → Kind
kind_by recs =
    if begins_violation recs then kind.Violation
    else if begins_refutation recs then kind.Refutation
    else kind.Prices

-- the kind that a first record names
abbrev pub kind_by_head : Rec → Kind
kind_by_head r =
    if is_version_1 r || is_version_2 r then kind.Violation
    else if same_fields (fields r) refutation_name then kind.Refutation
    else kind.Prices
