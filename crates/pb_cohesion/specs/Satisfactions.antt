-- What each project is worth to the voters that approve it, by the measures that a violation certificate can state.
use Rattle.std.specs.Prelude.{ℕ}
use Rattle.pb_election.specs.Instance.{Instance, cost_of}
use Rattle.pb_certificate.specs.declared.violations.measure.Measure.{Measure}
use Rattle.pb_certificate.specs.declared.violations.measure.Measure.TheVariants.{ByCount, ByCost}

-- each project is worth 1
abbrev pub by_count : ℕ → ℕ
by_count j = 1

-- each project is worth what it costs, in millionths
abbrev pub by_cost : Instance → ℕ → ℕ
by_cost e j = cost_of e j

-- by the measure that a certificate states
abbrev pub worth_by : Measure → Instance → ℕ → ℕ
worth_by ByCount e = by_count
worth_by ByCost e = by_cost e
