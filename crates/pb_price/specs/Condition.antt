-- The conditions on prices one by one: their names, which of them a mode asks for, and what each comes to.
use Rattle.std.specs.Prelude.{◌==◌, if◌then◌else◌, nat_le, nat_lt, not, Bool, true, ℕ, List, [], ◌∷◌, IfSome, Option, None, Some, codes, ⊤}
use Rattle.pb_records.specs.Records.{Text}
use Rattle.pb_election.specs.Instance.{Instance, IsProject}
use Rattle.pb_certificate.specs.Prices.{Prices}
use Rattle.pb_cohesion.specs.Conditions.{C1, C2, C3, C4, C5, Cover, Exhaustive, Feasible, S5}
use Rattle.pb_cohesion.specs.declared.Mode.{Mode}
use Rattle.pb_price.specs.declared.Failure.{Failure}
use Rattle.pb_price.specs.declared.Failure.TheVariants as failure
use Rattle.pb_price.specs.declared.Finding.{Finding}
use Rattle.pb_price.specs.declared.Findings.{Findings}
use Rattle.pb_price.specs.declared.condition.Condition.{Condition}
use Rattle.pb_price.specs.declared.condition.Condition.TheVariants as condition
use Rattle.pb_price.specs.declared.condition.Found.{Found}
use Rattle.pb_price.specs.declared.condition.Found.TheVariants.{Totals, Payments, Voters, Projects}

-- what it says of prices
abbrev pub Holds : Condition → Instance → List Bool → Prices → Type 0
Holds condition.Feasible e w p = Feasible e w
Holds condition.Exhaustive e w p = Exhaustive e w
Holds condition.Cover e w p = Cover e p
Holds condition.C1 e w p = C1 e p
Holds condition.C2 e w p = C2 e p
Holds condition.C3 e w p = C3 e w p
Holds condition.C4 e w p = C4 e w p
Holds condition.C5 e w p = C5 e w p
Holds condition.S5 e w p = S5 e w p

-- all of them, in their order
abbrev pub all_conditions : List Condition
all_conditions =
    condition.Feasible ∷ condition.Exhaustive ∷ condition.Cover
    ∷ condition.C1 ∷ condition.C2 ∷ condition.C3 ∷ condition.C4
    ∷ condition.C5 ∷ condition.S5
    ∷ []

abbrev pub name : Condition → Text
name condition.Feasible = codes "Feasible"
name condition.Exhaustive = codes "Exhaustive"
name condition.Cover = codes "Cover"
name condition.C1 = codes "C1"
name condition.C2 = codes "C2"
name condition.C3 = codes "C3"
name condition.C4 = codes "C4"
name condition.C5 = codes "C5"
name condition.S5 = codes "S5"

-- the mode asks for it
abbrev pub is_asked : Mode → Condition → Bool
is_asked m condition.Feasible = true
is_asked m condition.Exhaustive = m.exhaustive
is_asked m condition.Cover = m.cover
is_asked m condition.C1 = true
is_asked m condition.C2 = true
is_asked m condition.C3 = true
is_asked m condition.C4 = true
is_asked m condition.C5 = not m.stable
is_asked m condition.S5 = m.stable

-- Feasible and Cover compare a total with the limit; C1 is on payments, C2 on voters, and the others are on projects
abbrev pub found : Findings → Condition → Found
found f condition.Feasible = Totals (nat_le f.total f.limit) f.total f.limit
found f condition.Exhaustive = Projects f.exhaustive
found f condition.Cover = Totals (nat_lt f.limit f.budgets) f.budgets f.limit
found f condition.C1 = Payments f.c1
found f condition.C2 = Voters f.c2
found f condition.C3 = Projects f.c3
found f condition.C4 = Projects f.c4
found f condition.C5 = Projects f.c5
found f condition.S5 = Projects f.s5

-- Whether it holds, by what it comes to: but for the comparison of totals it does where it has no culprit.
abbrev pub holds : Found → Bool
holds (Totals it_holds amount bound) = it_holds
holds (Payments f) = f.count == 0
holds (Voters f) = f.count == 0
holds (Projects f) = f.count == 0

-- a comparison of totals that is false counts as one culprit
abbrev pub culprits : Found → ℕ
culprits (Totals it_holds amount bound) = if it_holds then 0 else 1
culprits (Payments f) = f.count
culprits (Voters f) = f.count
culprits (Projects f) = f.count

-- the finding on voters or on projects
abbrev pub finding_in : Found → Option Finding
finding_in (Totals it_holds amount bound) = None
finding_in (Payments f) = None
finding_in (Voters f) = Some f
finding_in (Projects f) = Some f

-- the condition that fails
abbrev pub condition_of : Failure → Condition
condition_of failure.Feasible = condition.Feasible
condition_of (failure.Exhaustive c) = condition.Exhaustive
condition_of failure.Cover = condition.Cover
condition_of (failure.C1 i c) = condition.C1
condition_of (failure.C2 i) = condition.C2
condition_of (failure.C3 c) = condition.C3
condition_of (failure.C4 c) = condition.C4
condition_of (failure.C5 c) = condition.C5
condition_of (failure.S5 c) = condition.S5

-- the projects that a finding names are those of the election
pub record FindingNamesProjects (e : Instance) (f : Finding) : Type 0 where
  pub first : IfSome f.first (IsProject e)
  pub shown : IfSome f.shown (λ m. IsProject e m.at)

abbrev pub FoundNamesProjects : Instance → Found → Type 0
FoundNamesProjects e (Totals it_holds amount bound) = ⊤
FoundNamesProjects e (Payments f) = IfSome f.first (λ q. IsProject e q.1)
FoundNamesProjects e (Voters f) = ⊤
FoundNamesProjects e (Projects f) = FindingNamesProjects e f

-- so are those that findings name, condition by condition
pub record FindingsNameProjects (e : Instance) (f : Findings) : Type 0 where
  pub each : (c : Condition) → FoundNamesProjects e (found f c)
