use Rattle.std.proofs.Common.{refl}
use Rattle.std.specs.Str.{chars, is_utf8}
use Rattle.std.specs.Char.{encode_utf8}
use Rattle.std.specs.Fmt.{digits}
use Rattle.csv.specs.Records.{field_at}
use Rattle.pb_money.specs.Digits.{drop_back, drop_front}
use Rattle.pb_records.specs.Cells.{is_blank, is_text}
use Rattle.pb_certificate.specs.Faults.{price_form}
use Rattle.pb_certificate.specs.Fields.{whole_in}
use Rattle.pb_definition_tests.proofs.certificate.faults_of_price_rows.Goals as goal

pub returns-clause-short : goal.returns-clause-short
unfolding field_at drop_front drop_back is_blank is_text whole_in is_utf8 chars encode_utf8 digits price_form
returns-clause-short c = refl

pub returns-clause-long : goal.returns-clause-long
unfolding field_at drop_front drop_back is_blank is_text whole_in is_utf8 chars encode_utf8 digits price_form
returns-clause-long c = refl

pub returns-clause-negative : goal.returns-clause-negative
unfolding field_at drop_front drop_back is_blank is_text whole_in is_utf8 chars encode_utf8 digits price_form
returns-clause-negative c = refl

pub returns-clause-no_number : goal.returns-clause-no_number
unfolding field_at drop_front drop_back is_blank is_text whole_in is_utf8 chars encode_utf8 digits price_form
returns-clause-no_number c = refl

pub returns-clause-no_project : goal.returns-clause-no_project
unfolding field_at drop_front drop_back is_blank is_text whole_in is_utf8 chars encode_utf8 digits price_form
returns-clause-no_project c = refl

pub returns-clause-lowest : goal.returns-clause-lowest
unfolding field_at drop_front drop_back is_blank is_text whole_in is_utf8 chars encode_utf8 digits price_form
returns-clause-lowest c = refl

pub returns-clause-not_text : goal.returns-clause-not_text
unfolding field_at drop_front drop_back is_blank is_text whole_in is_utf8 chars encode_utf8 digits price_form
returns-clause-not_text c = refl

pub returns-clause-repeated : goal.returns-clause-repeated
unfolding field_at drop_front drop_back is_blank is_text whole_in is_utf8 chars encode_utf8 digits price_form
returns-clause-repeated c = refl

pub returns-clause-order : goal.returns-clause-order
unfolding field_at drop_front drop_back is_blank is_text whole_in is_utf8 chars encode_utf8 digits price_form
returns-clause-order c = refl

pub returns-clause-voter_0 : goal.returns-clause-voter_0
unfolding field_at drop_front drop_back is_blank is_text whole_in is_utf8 chars encode_utf8 digits price_form
returns-clause-voter_0 c = refl

pub returns-clause-voter_4 : goal.returns-clause-voter_4
unfolding field_at drop_front drop_back is_blank is_text whole_in is_utf8 chars encode_utf8 digits price_form
returns-clause-voter_4 c = refl

pub returns-clause-too_large : goal.returns-clause-too_large
unfolding field_at drop_front drop_back is_blank is_text whole_in is_utf8 chars encode_utf8 digits price_form
returns-clause-too_large c = refl

pub returns-clause-lenient : goal.returns-clause-lenient
unfolding field_at drop_front drop_back is_blank is_text whole_in is_utf8 chars encode_utf8 digits price_form
returns-clause-lenient c = refl
