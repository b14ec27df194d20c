use Rattle.std.proofs.Common.{refl}
use Rattle.std.specs.Str.{chars, is_utf8}
use Rattle.std.specs.Char.{encode_utf8}
use Rattle.std.specs.Fmt.{digits}
use Rattle.csv.specs.Records.{field_at}
use Rattle.pb_money.specs.Digits.{drop_back, drop_front}
use Rattle.pb_records.specs.Cells.{is_blank, is_text}
use Rattle.pb_certificate.specs.Faults.{price_form}
use Rattle.pb_certificate.specs.Fields.{whole_in}
use Rattle.pb_definition_tests.proofs.certificate.faults_of_the_head.Goals as goal

pub returns-clause-no_record : goal.returns-clause-no_record
unfolding field_at drop_front drop_back is_blank is_text whole_in is_utf8 chars encode_utf8 digits price_form
returns-clause-no_record c = refl

pub returns-clause-version : goal.returns-clause-version
unfolding field_at drop_front drop_back is_blank is_text whole_in is_utf8 chars encode_utf8 digits price_form
returns-clause-version c = refl

pub returns-clause-cut : goal.returns-clause-cut
unfolding field_at drop_front drop_back is_blank is_text whole_in is_utf8 chars encode_utf8 digits price_form
returns-clause-cut c = refl

pub returns-clause-zero : goal.returns-clause-zero
unfolding field_at drop_front drop_back is_blank is_text whole_in is_utf8 chars encode_utf8 digits price_form
returns-clause-zero c = refl

pub returns-clause-large : goal.returns-clause-large
unfolding field_at drop_front drop_back is_blank is_text whole_in is_utf8 chars encode_utf8 digits price_form
returns-clause-large c = refl
