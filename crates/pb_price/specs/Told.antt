-- What the findings on prices tell: which conditions hold, and the first that doesn't; and how that is told.
use Rattle.std.specs.Prelude.{◌↔◌, ◌&&◌, if◌then◌else◌, nat_le, nat_lt, IsTrue, Bool, List, Option, Some, None, codes, option_map}
use Rattle.std.specs.Option.{option_or}
use Rattle.pb_election.specs.Instance.{Instance}
use Rattle.pb_certificate.specs.Prices.{Prices}
use Rattle.pb_cohesion.specs.Failed.{Failed, NamesProject, failed}
use Rattle.pb_price.specs.Condition.{Holds, found, holds}
use Rattle.pb_price.specs.declared.Failure.{Failure}
use Rattle.pb_price.specs.declared.Failure.TheVariants as failure
use Rattle.pb_price.specs.declared.Findings.{Findings}
use Rattle.pb_price.specs.declared.condition.Condition.{Condition}
use Rattle.pb_cohesion.specs.declared.Mode.{Mode}
use Rattle.pb_price.specs.declared.Verdict.{Verdict}
use Rattle.pb_price.specs.declared.Verdict.TheVariants as verdict

-- each condition holds where the findings tell that it does
pub record TellWhatHolds (e : Instance) (w : List Bool) (p : Prices) (f : Findings) : Type 0 where
  pub each : (c : Condition) → IsTrue (holds (found f c)) ↔ Holds c e w p

-- The first condition that the mode asks for and the findings tell to be false, with its first culprit.

abbrev pub told_of_outcome : Mode → Findings → Option Failure
told_of_outcome m f =
    option_or (if nat_lt f.limit f.total then Some failure.Feasible else None)
    (if m.exhaustive then option_map failure.Exhaustive f.exhaustive.first else None)

abbrev pub told_of_budgets : Mode → Findings → Option Failure
told_of_budgets m f = if m.cover && nat_le f.budgets f.limit then Some failure.Cover else None

abbrev pub told_of_payments : Findings → Option Failure
told_of_payments f =
    option_or (option_or (option_or
    (option_map (λ q. failure.C1 q.0 q.1) f.c1.first)
    (option_map failure.C2 f.c2.first))
    (option_map failure.C3 f.c3.first))
    (option_map failure.C4 f.c4.first)

abbrev pub told_of_supporters : Mode → Findings → Option Failure
told_of_supporters m f = if m.stable then option_map failure.S5 f.s5.first else option_map failure.C5 f.c5.first

abbrev pub first_told : Mode → Findings → Option Failure
first_told m f =
    option_or (option_or (option_or (told_of_outcome m f) (told_of_budgets m f)) (told_of_payments f))
    (told_of_supporters m f)

-- a condition that fails, as it is told
abbrev pub price_failed : Failure → Failed
price_failed failure.Feasible = failed 1 (codes "Feasible") None None
price_failed (failure.Exhaustive j) = failed 2 (codes "Exhaustive") None (Some j)
price_failed failure.Cover = failed 3 (codes "Cover") None None
price_failed (failure.C1 i j) = failed 4 (codes "C1") (Some i) (Some j)
price_failed (failure.C2 i) = failed 5 (codes "C2") (Some i) None
price_failed (failure.C3 j) = failed 6 (codes "C3") None (Some j)
price_failed (failure.C4 j) = failed 7 (codes "C4") None (Some j)
price_failed (failure.C5 j) = failed 8 (codes "C5") None (Some j)
price_failed (failure.S5 j) = failed 9 (codes "S5") None (Some j)

-- the project that a verdict names is one of the election
abbrev pub PricesNameProject : Instance → Verdict → Type 0
PricesNameProject e verdict.Supported = Unit {0}
PricesNameProject e (verdict.Failed f) = NamesProject e (price_failed f)
