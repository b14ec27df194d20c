use Rattle.std.proofs.Common.{refl}
use Rattle.std.specs.Str.{chars, is_utf8}
use Rattle.std.specs.Char.{encode_utf8}
use Rattle.std.specs.Fmt.{digits}
use Rattle.csv.specs.Records.{field_at}
use Rattle.pb_money.specs.Digits.{drop_back, drop_front}
use Rattle.pb_records.specs.Cells.{is_blank, is_text}
use Rattle.pb_certificate.specs.Faults.{violation_form}
use Rattle.pb_certificate.specs.Fields.{whole_in}
use Rattle.pb_definition_tests.proofs.certificate.violation_certificates.Goals as goal

pub returns-clause-accepted : goal.returns-clause-accepted
unfolding field_at drop_front drop_back is_blank is_text whole_in is_utf8 chars encode_utf8 digits violation_form
returns-clause-accepted c = refl

pub returns-clause-members : goal.returns-clause-members
unfolding field_at drop_front drop_back is_blank is_text whole_in is_utf8 chars encode_utf8 digits violation_form
returns-clause-members c = refl

pub returns-clause-repeated : goal.returns-clause-repeated
unfolding field_at drop_front drop_back is_blank is_text whole_in is_utf8 chars encode_utf8 digits violation_form
returns-clause-repeated c = refl

pub returns-clause-version : goal.returns-clause-version
unfolding field_at drop_front drop_back is_blank is_text whole_in is_utf8 chars encode_utf8 digits violation_form
returns-clause-version c = refl

pub returns-clause-voter_5 : goal.returns-clause-voter_5
unfolding field_at drop_front drop_back is_blank is_text whole_in is_utf8 chars encode_utf8 digits violation_form
returns-clause-voter_5 c = refl

pub returns-clause-voter_x : goal.returns-clause-voter_x
unfolding field_at drop_front drop_back is_blank is_text whole_in is_utf8 chars encode_utf8 digits violation_form
returns-clause-voter_x c = refl

pub returns-clause-voter_empty : goal.returns-clause-voter_empty
unfolding field_at drop_front drop_back is_blank is_text whole_in is_utf8 chars encode_utf8 digits violation_form
returns-clause-voter_empty c = refl

pub returns-clause-group : goal.returns-clause-group
unfolding field_at drop_front drop_back is_blank is_text whole_in is_utf8 chars encode_utf8 digits violation_form
returns-clause-group c = refl

pub returns-clause-project_z : goal.returns-clause-project_z
unfolding field_at drop_front drop_back is_blank is_text whole_in is_utf8 chars encode_utf8 digits violation_form
returns-clause-project_z c = refl

pub returns-clause-by_cost : goal.returns-clause-by_cost
unfolding field_at drop_front drop_back is_blank is_text whole_in is_utf8 chars encode_utf8 digits violation_form
returns-clause-by_cost c = refl

pub returns-clause-no_measure : goal.returns-clause-no_measure
unfolding field_at drop_front drop_back is_blank is_text whole_in is_utf8 chars encode_utf8 digits violation_form
returns-clause-no_measure c = refl

pub returns-clause-end : goal.returns-clause-end
unfolding field_at drop_front drop_back is_blank is_text whole_in is_utf8 chars encode_utf8 digits violation_form
returns-clause-end c = refl

pub returns-clause-another : goal.returns-clause-another
unfolding field_at drop_front drop_back is_blank is_text whole_in is_utf8 chars encode_utf8 digits violation_form
returns-clause-another c = refl

pub returns-clause-measured : goal.returns-clause-measured
unfolding field_at drop_front drop_back is_blank is_text whole_in is_utf8 chars encode_utf8 digits violation_form
returns-clause-measured c = refl

pub returns-clause-measured_twice : goal.returns-clause-measured_twice
unfolding field_at drop_front drop_back is_blank is_text whole_in is_utf8 chars encode_utf8 digits violation_form
returns-clause-measured_twice c = refl
