use Rattle.std.proofs.Common.{refl}
use Rattle.std.specs.Str.{chars, is_utf8}
use Rattle.std.specs.Char.{encode_utf8}
use Rattle.std.specs.Fmt.{digits}
use Rattle.csv.specs.Records.{field_at}
use Rattle.pb_money.specs.Digits.{drop_back, drop_front}
use Rattle.pb_records.specs.Cells.{is_blank, is_text}
use Rattle.pb_certificate.specs.Faults.{refutation_form}
use Rattle.pb_certificate.specs.Fields.{whole_in}
use Rattle.pb_definition_tests.proofs.certificate.refutations.Goals as goal

pub returns-clause-accepted : goal.returns-clause-accepted
unfolding field_at drop_front drop_back is_blank is_text whole_in is_utf8 chars encode_utf8 digits refutation_form
returns-clause-accepted c = refl

pub returns-clause-no_row : goal.returns-clause-no_row
unfolding field_at drop_front drop_back is_blank is_text whole_in is_utf8 chars encode_utf8 digits refutation_form
returns-clause-no_row c = refl

pub returns-clause-lenient : goal.returns-clause-lenient
unfolding field_at drop_front drop_back is_blank is_text whole_in is_utf8 chars encode_utf8 digits refutation_form
returns-clause-lenient c = refl

pub returns-clause-no_record : goal.returns-clause-no_record
unfolding field_at drop_front drop_back is_blank is_text whole_in is_utf8 chars encode_utf8 digits refutation_form
returns-clause-no_record c = refl

pub returns-clause-version : goal.returns-clause-version
unfolding field_at drop_front drop_back is_blank is_text whole_in is_utf8 chars encode_utf8 digits refutation_form
returns-clause-version c = refl

pub returns-clause-no_cover : goal.returns-clause-no_cover
unfolding field_at drop_front drop_back is_blank is_text whole_in is_utf8 chars encode_utf8 digits refutation_form
returns-clause-no_cover c = refl

pub returns-clause-large_cover : goal.returns-clause-large_cover
unfolding field_at drop_front drop_back is_blank is_text whole_in is_utf8 chars encode_utf8 digits refutation_form
returns-clause-large_cover c = refl

pub returns-clause-columns : goal.returns-clause-columns
unfolding field_at drop_front drop_back is_blank is_text whole_in is_utf8 chars encode_utf8 digits refutation_form
returns-clause-columns c = refl

pub returns-clause-end : goal.returns-clause-end
unfolding field_at drop_front drop_back is_blank is_text whole_in is_utf8 chars encode_utf8 digits refutation_form
returns-clause-end c = refl

pub returns-clause-short : goal.returns-clause-short
unfolding field_at drop_front drop_back is_blank is_text whole_in is_utf8 chars encode_utf8 digits refutation_form
returns-clause-short c = refl

pub returns-clause-upper_case : goal.returns-clause-upper_case
unfolding field_at drop_front drop_back is_blank is_text whole_in is_utf8 chars encode_utf8 digits refutation_form
returns-clause-upper_case c = refl

pub returns-clause-negative : goal.returns-clause-negative
unfolding field_at drop_front drop_back is_blank is_text whole_in is_utf8 chars encode_utf8 digits refutation_form
returns-clause-negative c = refl

pub returns-clause-unknown : goal.returns-clause-unknown
unfolding field_at drop_front drop_back is_blank is_text whole_in is_utf8 chars encode_utf8 digits refutation_form
returns-clause-unknown c = refl

pub returns-clause-repeated : goal.returns-clause-repeated
unfolding field_at drop_front drop_back is_blank is_text whole_in is_utf8 chars encode_utf8 digits refutation_form
returns-clause-repeated c = refl
