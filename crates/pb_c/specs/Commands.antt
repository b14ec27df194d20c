-- Questions by their numbers, and measures.
use Rattle.std.specs.Prelude.{◌==◌, if◌then◌else◌, Bool, true, false, ℕ, Option, Some, None}
use Rattle.pb_certificate.specs.declared.violations.measure.Measure.{Measure}
use Rattle.pb_certificate.specs.declared.violations.measure.Measure.TheVariants.{ByCost, ByCount}
use Rattle.pb_cohesion.specs.declared.Mode.{Mode}
use Rattle.pb_audit.specs.declared.question.Question.{Question}
use Rattle.pb_audit.specs.declared.question.Question.TheVariants as question

-- the question of this number, in a mode where it has one
abbrev pub question_of : ℕ → Mode → Option Question
question_of number m =
    if number == 0 then Some question.Read
    else if number == 1 then Some (question.Prices m)
    else if number == 2 then Some question.Violation
    else if number == 3 then Some (question.Refutation m.stable)
    else if number == 4 then Some (question.Both m)
    else if number == 5 then Some (question.Explain m)
    else if number == 6 then Some question.Margins
    else if number == 7 then Some question.Tidy
    else if number == 8 then Some (question.Groups ByCost)
    else if number == 9 then Some (question.Groups ByCount)
    else if number == 10 then Some (question.ExplainGroups ByCost)
    else if number == 11 then Some (question.ExplainGroups ByCount)
    else if number == 12 then Some (question.GroupMargins ByCost)
    else if number == 13 then Some (question.GroupMargins ByCount)
    else None

-- the measure of a page about groups: by counting, or else by cost
abbrev pub measure_of : Bool → Measure
measure_of true = ByCount
measure_of false = ByCost
