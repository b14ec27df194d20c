use Rattle.std.proofs.Common.{refl}
use Rattle.std.specs.Str.{chars, is_utf8}
use Rattle.std.specs.Char.{encode_utf8}
use Rattle.std.specs.Fmt.{digits}
use Rattle.csv.specs.Records.{field_at}
use Rattle.pb_money.specs.Digits.{drop_back, drop_front}
use Rattle.pb_records.specs.Cells.{is_blank, is_text}
use Rattle.pb_certificate.specs.Faults.{outcome_form}
use Rattle.pb_certificate.specs.Fields.{whole_in}
use Rattle.pb_definition_tests.proofs.certificate.outcome_files.Goals as goal

pub returns-clause-accepted : goal.returns-clause-accepted
unfolding field_at drop_front drop_back is_blank is_text whole_in is_utf8 chars encode_utf8 digits outcome_form
returns-clause-accepted c = refl

pub returns-clause-no_record : goal.returns-clause-no_record
unfolding field_at drop_front drop_back is_blank is_text whole_in is_utf8 chars encode_utf8 digits outcome_form
returns-clause-no_record c = refl

pub returns-clause-voter : goal.returns-clause-voter
unfolding field_at drop_front drop_back is_blank is_text whole_in is_utf8 chars encode_utf8 digits outcome_form
returns-clause-voter c = refl

pub returns-clause-unknown : goal.returns-clause-unknown
unfolding field_at drop_front drop_back is_blank is_text whole_in is_utf8 chars encode_utf8 digits outcome_form
returns-clause-unknown c = refl

pub returns-clause-repeated : goal.returns-clause-repeated
unfolding field_at drop_front drop_back is_blank is_text whole_in is_utf8 chars encode_utf8 digits outcome_form
returns-clause-repeated c = refl
