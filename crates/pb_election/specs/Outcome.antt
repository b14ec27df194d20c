-- An outcome, as callers see one: the marks of its projects, by position.
use Rattle.std.specs.Prelude.{◌≡◌, ◌+◌, ◌-◌, ◌*◌, if◌then◌else◌, IsSomeAnd, Bool, false, ℕ, List, [], ◌∷◌, length, slice_index_or}
use Rattle.pb_money.specs.Money.{most_money}
use Rattle.pb_election.specs.Instance.{Instance, most_projects, projects}

-- whether project j, from 1, is funded
abbrev pub has : List Bool → ℕ → Bool
has marks j = slice_index_or marks (j - 1) false

-- which projects are funded, by position, and what they cost by the election that the outcome was read with
pub record Funding : Type 0 where
  pub marks : List Bool
  pub total : ℕ

-- the costs of the marked projects together
abbrev pub cost_of_marked : List Bool → List ℕ → ℕ
cost_of_marked [] costs = 0
cost_of_marked (mark ∷ marks) [] = 0
cost_of_marked (mark ∷ marks) (cost ∷ costs) = (if mark then cost else 0) + cost_of_marked marks costs

-- the most that the projects of an election can cost together, in millionths
abbrev pub most_total : ℕ
most_total = most_projects * most_money

-- the outcome that funds the marked projects of an election
abbrev pub funds : List Bool → Instance → Funding
funds marks e = record { marks = marks; total = cost_of_marked marks e.costs }

-- the outcome is one for as many projects as the election has
abbrev pub OutcomeFits : Funding → Instance → Type 0
OutcomeFits w e = length w.marks ≡ projects e

-- the outcome is the one that the election's file states
abbrev pub IsSelected : Funding → Instance → Type 0
IsSelected w e = IsSomeAnd e.selected (λ marks. w ≡ funds marks e)

-- an election with the outcome that was decided on
pub record Decided : Type 0 where
  pub election : Instance
  pub outcome : Funding
