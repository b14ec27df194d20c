-- What each test of a refutation comes to.
use Rattle.std.specs.Prelude.{◌≡◌, ◌↔◌, ◌⊎◌, ◌<◌, ◌≤◌, ◌*◌, ◌+◌, ◌&&◌, not, if◌then◌else◌, ℕ, Bool, IfSome, List, Some, None, length, slice_get}
use Rattle.pb_election.specs.Instance.{Instance, cost_of}
use Rattle.pb_election.specs.Outcome.{has}
use Rattle.pb_certificate.specs.Refutations.{Weights, weight}
use Rattle.pb_cohesion.specs.Refutations.{CostsDiffer, Refutes, RefutesStable, RowsSuit, at_least, at_most, budgets_counted, budgets_taken, counted, culprits_of_U1, gain, has_role, is_least, is_most, stable_budgets_counted, stable_gain}
use Rattle.pb_cohesion.specs.declared.MisplacedRows.{MisplacedRows}
use Rattle.pb_cohesion.specs.declared.RefutationFindings.{RefutationFindings}

-- U1: the first project whose row is not one for projects that are funded so, and how many there are
abbrev pub misplaced_rows : Instance → List Bool → Weights → MisplacedRows
misplaced_rows e w r =
    record { first = slice_get (culprits_of_U1 e w r) 0; count = length (culprits_of_U1 e w r) }

-- the findings, by whether stable prices are asked about
abbrev pub refutation_findings : Bool → Instance → List Bool → Weights → RefutationFindings
refutation_findings stable e w r = record {
  misplaced = misplaced_rows e w r;
  cover = r.cover;
  counted = budgets_counted e w r;
  counted_stable = if stable then Some (stable_budgets_counted e w r) else None;
  taken = budgets_taken e w r;
  at_least = at_least e w r;
  at_most = at_most e w r;
}

-- What the weight of project c adds to what is paid at least, and to what is paid and left at most.
abbrev pub paid_at_least : Instance → List Bool → Weights → ℕ → ℕ
paid_at_least e w r c = if has w c && has_role is_least r c then weight r c * cost_of e c else 0

abbrev pub paid_or_left_at_most : Instance → List Bool → Weights → ℕ → ℕ
paid_or_left_at_most e w r c =
    (if has w c && has_role is_most r c then weight r c * cost_of e c else 0)
    + (if not (has w c) then weight r c * cost_of e c else 0)

-- by the findings all tests hold, where budgets are counted so often
abbrev pub TestsHoldBy : ℕ → RefutationFindings → Type 0
TestsHoldBy counted f =
    (f.misplaced.count ≡ 0) × (counted ≤ f.taken)
    × ((f.at_most < f.at_least) ⊎ ((f.at_most ≡ f.at_least) × (0 < f.cover)))

-- What the findings tell: U1 holds where no row is misplaced, U2 where budgets are counted no more often than they are
-- taken, for stable prices too where these are asked about, and U3 where more is paid at least than is paid and left at
-- most, or as much and Cover has a weight. The weights refute all prices, or the stable ones, exactly where by the findings
-- all three hold.
pub record TellWhichRefutationTestsHold (e : Instance) (w : List Bool) (r : Weights)
    (f : RefutationFindings) : Type 0 where
  pub rows : (f.misplaced.count ≡ 0) ↔ RowsSuit e w r
  pub budgets : (f.counted ≤ f.taken) ↔ (counted (gain e w r) e r ≤ budgets_taken e w r)
  pub stable_budgets : IfSome f.counted_stable
      (λ n. (n ≤ f.taken) ↔ (counted (stable_gain e w r) e r ≤ budgets_taken e w r))
  pub costs : ((f.at_most < f.at_least) ⊎ ((f.at_most ≡ f.at_least) × (0 < f.cover))) ↔ CostsDiffer e w r
  pub refuted : TestsHoldBy f.counted f ↔ Refutes e w r
  pub refuted_stable : IfSome f.counted_stable (λ n. TestsHoldBy n f ↔ RefutesStable e w r)
