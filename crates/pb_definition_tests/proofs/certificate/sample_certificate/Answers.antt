use Rattle.std.proofs.Common.{refl}
use Rattle.std.specs.Str.{chars, is_utf8}
use Rattle.std.specs.Char.{encode_utf8}
use Rattle.std.specs.Fmt.{digits}
use Rattle.csv.specs.Records.{field_at}
use Rattle.pb_money.specs.Digits.{drop_back, drop_front}
use Rattle.pb_records.specs.Cells.{is_blank, is_text}
use Rattle.pb_certificate.specs.Prices.Canon.{line}
use Rattle.pb_certificate.specs.Faults.{price_form}
use Rattle.pb_certificate.specs.Fields.{whole_in}
use Rattle.pb_definition_tests.proofs.certificate.sample_certificate.Goals as goal

pub returns-clause-accepted : goal.returns-clause-accepted
unfolding field_at drop_front drop_back is_blank is_text whole_in is_utf8 chars encode_utf8 digits price_form
returns-clause-accepted c = refl

pub returns-clause-payment : goal.returns-clause-payment
unfolding field_at drop_front drop_back is_blank is_text whole_in is_utf8 chars encode_utf8 digits price_form
returns-clause-payment c = refl

pub returns-clause-payments : goal.returns-clause-payments
unfolding field_at drop_front drop_back is_blank is_text whole_in is_utf8 chars encode_utf8 digits price_form
returns-clause-payments c = refl

pub returns-clause-canonical : goal.returns-clause-canonical
unfolding line field_at drop_front drop_back is_blank is_text whole_in is_utf8 chars encode_utf8 digits price_form
returns-clause-canonical c = refl

pub returns-clause-quoted : goal.returns-clause-quoted
unfolding line field_at drop_front drop_back is_blank is_text whole_in is_utf8 chars encode_utf8 digits price_form
returns-clause-quoted c = refl
