use Rattle.std.proofs.Common.{ℕ, suc, ◌≡◌, ◌<◌, refl, arith, None, ◌∷◌, []}
use Rattle.std.specs.Prelude.{codes}
use Rattle.std.specs.Str.{chars, is_utf8}
use Rattle.std.specs.Char.{encode_utf8}
use Rattle.std.specs.Fmt.{digits}
use Rattle.csv.specs.Records.{field_at}
use Rattle.pb_money.specs.Digits.{drop_back, drop_front}
use Rattle.pb_records.specs.Cells.{is_blank, is_text}
use Rattle.pb_records.specs.FirstFault.{fault_at}
use Rattle.pb_certificate.specs.Faults.{outcome_form, price_form, violation_form}
use Rattle.pb_certificate.specs.Fields.{whole_in}
use Rattle.pb_definition_tests.specs.Samples.{demand_x1, member_1, outcome_records, price_records, row_1a, row_2a, sample_election, two, unfair_election, violation_records}
use Rattle.pb_definition_tests.proofs.certificate.sample_refusals.Goals as goal

prices-clear : (k : ℕ) → k < 6 → fault_at (price_form sample_election) (price_records (row_1a ∷ row_1a ∷ row_2a ∷ [])) k
    ≡ None
unfolding field_at drop_front drop_back is_blank is_text whole_in is_utf8 chars encode_utf8 digits price_form
prices-clear (suc (suc (suc (suc (suc (suc k)))))) l = absurd (omega arith)
prices-clear _ l = refl

pub returns-clause-prices : goal.returns-clause-prices
unfolding field_at drop_front drop_back is_blank is_text whole_in is_utf8 chars encode_utf8 digits price_form
returns-clause-prices c = record { within = omega arith; here = refl; none_before = prices-clear }

group-clear : (k : ℕ) → k < 3
    → fault_at (violation_form unfair_election) (violation_records (demand_x1 ∷ two (codes "voter") (codes "5") ∷ [])) k
    ≡ None
unfolding field_at drop_front drop_back is_blank is_text whole_in is_utf8 chars encode_utf8 digits violation_form
group-clear (suc (suc (suc k))) l = absurd (omega arith)
group-clear _ l = refl

pub returns-clause-group : goal.returns-clause-group
unfolding field_at drop_front drop_back is_blank is_text whole_in is_utf8 chars encode_utf8 digits violation_form
returns-clause-group c = record { within = omega arith; here = refl; none_before = group-clear }

outcome-clear : (k : ℕ) → k < 2 → fault_at (outcome_form sample_election) (outcome_records (member_1 ∷ [])) k ≡ None
unfolding field_at drop_front drop_back is_blank is_text whole_in is_utf8 chars encode_utf8 digits outcome_form
outcome-clear (suc (suc k)) l = absurd (omega arith)
outcome-clear _ l = refl

pub returns-clause-outcome : goal.returns-clause-outcome
unfolding field_at drop_front drop_back is_blank is_text whole_in is_utf8 chars encode_utf8 digits outcome_form
returns-clause-outcome c = record { within = omega arith; here = refl; none_before = outcome-clear }
