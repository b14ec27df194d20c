-- What the first failure says: its condition is the first that is false, of those that the mode asks for, and it names
-- the lowest voter and project at which that condition is false.
use Rattle.std.specs.Prelude.{◌≢◌, ◌<◌, ◌≤◌, ◌+◌, ◌*◌, ◌<ℤ◌, ℕ, pos, IsFalse, IsTrue, Bool, List, ⊤}
use Rattle.pb_election.specs.Instance.{Instance, IsProject, IsVoter, approves, cost_of, supporters, voters}
use Rattle.pb_certificate.specs.Prices.{Prices, payment}
use Rattle.pb_cohesion.specs.Amounts.{beta, budget_limit, cost, left, paid, spent}
use Rattle.pb_cohesion.specs.Conditions.{C1, C2, C3, C4, Cover, Exhaustive, Feasible, most_of, sum_ℤ}
use Rattle.pb_cohesion.specs.Outcome.{IsFunded, IsUnfunded, total}
use Rattle.pb_price.specs.declared.Failure.{Failure}
use Rattle.pb_price.specs.declared.Failure.TheVariants as failure
use Rattle.pb_cohesion.specs.declared.Mode.{Mode}

-- P holds of n, and of no lower number
abbrev pub IsLowest : (ℕ → Type 0) → ℕ → Type 0
IsLowest P n = P n × ((k : ℕ) → k < n → P k → ⊥)

-- P holds of voter i and project c, not of i and a lower project, and not of a lower voter and any project
abbrev pub IsLowestPair : (ℕ → ℕ → Type 0) → ℕ → ℕ → Type 0
IsLowestPair P i c = IsLowest (P i) c × ((j d : ℕ) → j < i → P j d → ⊥)

-- the condition of a failure is false at the voter and project that it names, and at no lower ones
abbrev pub IsFalseAt : Instance → List Bool → Prices → Failure → Type 0
IsFalseAt e w p failure.Feasible = e.limit < total e w
IsFalseAt e w p (failure.Exhaustive c) = IsLowest (λ k. IsUnfunded e w k × (total e w + cost_of e k ≤ e.limit)) c
IsFalseAt e w p failure.Cover = voters e * beta p ≤ budget_limit e p
IsFalseAt e w p (failure.C1 i c) =
    IsLowestPair (λ j k. IsVoter e j × IsProject e k × (0 < payment p j k) × IsFalse (approves e j k)) i c
IsFalseAt e w p (failure.C2 i) = IsLowest (λ j. IsVoter e j × (beta p < spent e p j)) i
IsFalseAt e w p (failure.C3 c) = IsLowest (λ k. IsFunded e w k × (paid e p k ≢ cost e p k)) c
IsFalseAt e w p (failure.C4 c) = IsLowest (λ k. IsUnfunded e w k × (0 < paid e p k)) c
IsFalseAt e w p (failure.C5 c) =
    IsLowest (λ k. IsUnfunded e w k × (pos (cost e p k) <ℤ sum_ℤ (left e p) (supporters e k))) c
IsFalseAt e w p (failure.S5 c) =
    IsLowest (λ k. IsUnfunded e w k × (pos (cost e p k) <ℤ sum_ℤ (most_of e p) (supporters e k))) c

-- the mode asks for the condition of a failure
abbrev pub AsksFor : Mode → Failure → Type 0
AsksFor m (failure.Exhaustive c) = IsTrue m.exhaustive
AsksFor m failure.Cover = IsTrue m.cover
AsksFor m (failure.C5 c) = IsFalse m.stable
AsksFor m (failure.S5 c) = IsTrue m.stable
AsksFor m f = ⊤

-- how many conditions come before that of a failure; no mode asks for both C5 and S5
abbrev pub order : Failure → ℕ
order failure.Feasible = 0
order (failure.Exhaustive c) = 1
order failure.Cover = 2
order (failure.C1 i c) = 3
order (failure.C2 i) = 4
order (failure.C3 c) = 5
order (failure.C4 c) = 6
order (failure.C5 c) = 7
order (failure.S5 c) = 7

-- of the first n conditions those hold that the mode asks for
pub record FirstHold (n : ℕ) (m : Mode) (e : Instance) (w : List Bool) (p : Prices) : Type 0 where
  pub feasible : 0 < n → Feasible e w
  pub exhausts : 1 < n → IsTrue m.exhaustive → Exhaustive e w
  pub covers : 2 < n → IsTrue m.cover → Cover e p
  pub approved : 3 < n → C1 e p
  pub within_budget : 4 < n → C2 e p
  pub paid_for : 5 < n → C3 e w p
  pub none_wasted : 6 < n → C4 e w p

-- the mode asks for the condition of the failure, it is false where the failure says, and the conditions before it hold
pub record IsFirstFalse (m : Mode) (e : Instance) (w : List Bool) (p : Prices) (f : Failure) : Type 0 where
  pub asked : AsksFor m f
  pub false_there : IsFalseAt e w p f
  pub earlier_hold : FirstHold (order f) m e w p
