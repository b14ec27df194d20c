-- What the code's own tally is while the rows of a certificate or the payments of prices are taken. No claim on a
-- certificate rests on this.
use Rattle.std.specs.Prelude.{◌≡◌, ◌<◌, ◌≤◌, ◌+◌, ◌-◌, ◌*◌, ◌^◌, ◌==◌, ◌&&◌, if◌then◌else◌, nat_lt, [], ℕ, List, length, drop, take}
use Rattle.pb_election.specs.Instance.{Instance, IsProject, most_projects, projects}
use Rattle.pb_records.specs.Cells.{nonblank}
use Rattle.pb_money.specs.Grains.{payment_grains}
use Rattle.pb_certificate.specs.Faults.{certificate_records}
use Rattle.pb_certificate.specs.Prices.Text.{IsPriceText, stated}
use Rattle.pb_certificate.specs.Prices.{Prices, most_denominator, most_rows, numerator_in, payment, payments_of}
use Rattle.pb_certificate.specs.Prices.Rows.{Rows, given, prices_given}
use Rattle.pb_cohesion.specs.Amounts.{beta}
use Rattle.pb_price.specs.Inside.Tallies.{AreInRange, IsTallyOf, Taken, Tallied, most_grains, sums_of}
use Rattle.pb_price.specs.Answers.{AreStepsOf, row_count}
use Rattle.pb_price.specs.declared.tallying.CertificateTally.{CertificateTally}
use Rattle.pb_price.specs.declared.open_tally.OpenTally.{OpenTally}

-- what the rows behind state
abbrev pub taken_from : Rows → Taken
taken_from s = record { budget = payment_grains s.budget; pays = stated (given s); rows = length (given s) }

-- all rows of a certificate were taken
pub record TakesCertificate (s : Rows) (t : OpenTally) : Type 0 where
  pub end : Rows
  pub same : end ≡ record s { record_number = end.record_number }
  pub no_row_left : nonblank (drop end.record_number s.records) ≡ []
  pub states : IsPriceText s.records s.election (prices_given end)
  pub tallied : Tallied s.election (taken_from end) t
  pub few : length (given end) ≤ most_rows

-- the tally is that of the prices that the bytes of a certificate state
pub record IsTallied (e : Instance) (bytes : List ℕ) (t : CertificateTally) : Type 0 where
  pub prices : Prices
  pub text : IsPriceText (certificate_records bytes) e prices
  pub denominator : prices.denominator ≡ t.denominator
  pub low : 1 ≤ t.denominator
  pub high : t.denominator ≤ most_denominator
  pub tally : IsTallyOf e prices t.tally
  pub small_budget : t.tally.budget ≤ most_grains
  pub few_steps : t.tally.steps ≤ 2 ^ 61
  pub in_range : (c : ℕ) → IsProject e c → AreInRange (sums_of t.tally.projects.items c)
  -- with the passes over the projects, the steps are those that are promised
  pub steps : AreStepsOf e (row_count bytes) (t.tally.steps + 2 * projects e)

-- what a voter pays for a project by the payments of the voters before i, and the first k of voter i
abbrev pub pays_until : Prices → ℕ → ℕ → ℕ → ℕ → ℕ
pays_until p i k a b = if a == i then numerator_in (take k (payments_of p i)) b
    else (if nat_lt 0 a && nat_lt a i then payment p a b else 0)

-- those payments were taken
pub record TakesUntil (e : Instance) (p : Prices) (i k : ℕ) (t : OpenTally) : Type 0 where
  pub taken : Taken
  pub tallied : Tallied e taken t
  pub budget_is : taken.budget ≡ beta p
  pub pays_is : (a b : ℕ) → taken.pays a b ≡ pays_until p i k a b
  pub few : taken.rows ≤ most_projects * (i - 1) + k
  pub follows : t.tally.closed < i
