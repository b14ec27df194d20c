-- The first condition that is false, with its first culprit.
use Rattle.std.specs.Prelude.{◌*◌, ◌&&◌, nat_lt, nat_le, if◌then◌else◌, Bool, List, [], ◌∷◌, ◌++◌, map, slice_get, Option, Some, None}
use Rattle.pb_election.specs.Instance.{Instance, voters}
use Rattle.pb_certificate.specs.Prices.{Prices}
use Rattle.pb_cohesion.specs.Amounts.{beta, budget_limit}
use Rattle.pb_cohesion.specs.Outcome.{total}
use Rattle.pb_cohesion.specs.Conditions.{culprits_of_C1, culprits_of_C2, culprits_of_C3, culprits_of_C4, culprits_of_C5, culprits_of_Exhaustive, culprits_of_S5}
use Rattle.pb_cohesion.specs.declared.Mode.{Mode}
use Rattle.pb_price.specs.declared.Failure.{Failure}
use Rattle.pb_price.specs.declared.Failure.TheVariants as failure
use Rattle.pb_price.specs.declared.Verdict.{Verdict}
use Rattle.pb_price.specs.declared.Verdict.TheVariants as verdict

-- The failures are the culprits of the conditions that the mode asks for, in the order of the conditions.

-- first Feasible, and Exhaustive where the mode asks for it
abbrev pub failures_of_outcome : Mode → Instance → List Bool → List Failure
failures_of_outcome m e w =
    (if nat_lt e.limit (total e w) then failure.Feasible ∷ [] else [])
    ++ (if m.exhaustive then map failure.Exhaustive (culprits_of_Exhaustive e w) else [])

-- then Cover, where the mode asks for it
abbrev pub failures_of_budgets : Mode → Instance → Prices → List Failure
failures_of_budgets m e p =
    if m.cover && nat_le (voters e * beta p) (budget_limit e p) then failure.Cover ∷ [] else []

-- then C1, C2, C3 and C4
abbrev pub failures_of_payments : Instance → List Bool → Prices → List Failure
failures_of_payments e w p =
    map (λ q. failure.C1 q.0 q.1) (culprits_of_C1 e p)
    ++ map failure.C2 (culprits_of_C2 e p)
    ++ map failure.C3 (culprits_of_C3 e w p)
    ++ map failure.C4 (culprits_of_C4 e w p)

-- and last S5 in the stable form, and else C5
abbrev pub failures_of_supporters : Mode → Instance → List Bool → Prices → List Failure
failures_of_supporters m e w p =
    if m.stable then map failure.S5 (culprits_of_S5 e w p) else map failure.C5 (culprits_of_C5 e w p)

-- all of them
abbrev pub failures_of : Mode → Instance → List Bool → Prices → List Failure
failures_of m e w p =
    failures_of_outcome m e w ++ failures_of_budgets m e p ++ failures_of_payments e w p
    ++ failures_of_supporters m e w p

-- the first failure, where there is one
abbrev pub First : Mode → Instance → List Bool → Prices → Option Failure
First m e w p = slice_get (failures_of m e w p) 0

-- the verdict: supported where no condition fails
abbrev pub verdict_of : Option Failure → Verdict
verdict_of None = verdict.Supported
verdict_of (Some f) = verdict.Failed f
