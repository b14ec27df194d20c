-- What is told in numbers of how an answer ends. A number is 0 where there is nothing to tell.
use Rattle.std.specs.Prelude.{ℕ, unwrap_or}
use Rattle.pb_cohesion.specs.Failed.{Failed, refutation_failed, short_failed, violation_failed}
use Rattle.pb_price.specs.Told.{price_failed}
use Rattle.pb_input.specs.Faults.{fault_number, fault_record}
use Rattle.pb_input.specs.declared.InputName.{InputName}
use Rattle.pb_input.specs.declared.InputName.TheVariants as name
use Rattle.pb_reply.specs.declared.status.Status.{Status}
use Rattle.pb_reply.specs.declared.status.Status.TheVariants.{Yes, No, Refused}
use Rattle.pb_reply.specs.declared.status.Unmet.{Unmet}
use Rattle.pb_reply.specs.declared.status.Unmet.TheVariants as unmet
use Rattle.pb_c.specs.declared.facts.Culprit.{Culprit}
use Rattle.pb_c.specs.declared.facts.Facts.{Facts}

-- the numbers of the inputs
abbrev pub input_number : InputName → ℕ
input_number name.Election = 1
input_number name.Outcome = 2
input_number name.Certificate = 3
input_number name.Prices = 4
input_number name.Violation = 5
input_number name.Folder = 6

-- what fails, by its number, at which voter and at which project
abbrev pub culprit : ℕ → ℕ → ℕ → Culprit
culprit number voter project = record { number = number; voter = voter; project = project }

abbrev pub nothing_fails : Culprit
nothing_fails = culprit 0 0 0

-- a condition or a test that fails, as it is told
abbrev pub culprit_of : Failed → Culprit
culprit_of f = culprit f.number (unwrap_or f.voter 0) (unwrap_or f.project 0)

-- the condition on prices, and the test of a violation or of a refutation, that fails first
abbrev pub condition_of : Unmet → Culprit
condition_of (unmet.Prices f) = culprit_of (price_failed f)
condition_of (unmet.Both f g) = culprit_of (price_failed f)
condition_of (unmet.Violation g) = nothing_fails
condition_of (unmet.Refutation g) = nothing_fails
condition_of (unmet.Groups c k) = nothing_fails

abbrev pub test_of : Unmet → Culprit
test_of (unmet.Prices f) = nothing_fails
test_of (unmet.Both f g) = culprit_of (violation_failed g)
test_of (unmet.Violation g) = culprit_of (violation_failed g)
test_of (unmet.Refutation g) = culprit_of (refutation_failed g)
test_of (unmet.Groups c k) = culprit_of (short_failed c)

abbrev pub facts_of : Status → Facts
facts_of Yes = record { input = 0; fault = 0; record_number = 0; condition = nothing_fails; test = nothing_fails }
facts_of (No u) = record { input = 0; fault = 0; record_number = 0; condition = condition_of u; test = test_of u }
facts_of (Refused r) = record {
  input = input_number r.input;
  fault = fault_number r.fault;
  record_number = fault_record r.fault;
  condition = nothing_fails;
  test = nothing_fails;
}

abbrev pub no_facts : Facts
no_facts = facts_of Yes
