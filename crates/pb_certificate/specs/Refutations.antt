-- Refutations: certificates that no prices whatever support an outcome. Each gives weights to projects; by linear duality
-- such weights exist exactly where no prices do, and a solver that looks for prices has them at its end. The form of
-- the certificates is this project's own.
pub mod Text
pub mod Kind
use Rattle.std.specs.Prelude.{◌≡◌, ◌≤◌, ◌-◌, ◌^◌, ℕ, All, IfSome, List, Option, None, length, slice_index_or}
use Rattle.std.specs.Option.{option_map_or}
use Rattle.pb_election.specs.Instance.{Instance, projects}
use Rattle.pb_certificate.specs.declared.refutations.weighting.Weighting.{Weighting}

-- A refutation by its weights. A project without a row has the weight 0.
pub record Weights : Type 0 where
  pub cover : ℕ  -- the weight of the condition Cover
  pub rows : List (Option Weighting)  -- of the projects, by position: the role and the weight, where it has a row

-- what the row of project j states, where it has one
abbrev pub row_of : Weights → ℕ → Option Weighting
row_of r j = slice_index_or r.rows (j - 1) None

-- the weight of project j
abbrev pub weight : Weights → ℕ → ℕ
weight r j = option_map_or (λ x. x.weight) (row_of r j) 0

-- the greatest weight
abbrev pub most_weight : ℕ
most_weight = 10 ^ 12

-- what holds of the weights of each refutation, whatever the election
pub record AreWeights (r : Weights) : Type 0 where
  pub cover : r.cover ≤ most_weight
  pub weights : All (λ row. IfSome row (λ x. x.weight ≤ most_weight)) r.rows

-- the weights speak of as many projects as the election has
abbrev pub WeightsFit : Weights → Instance → Type 0
WeightsFit r e = length r.rows ≡ projects e
