-- Sample elections with weights that refute prices for their outcomes, or come close to it.
use Rattle.std.specs.Prelude.{ℕ, Bool, true, false, List, [], ◌∷◌, Option, Some, codes}
use Rattle.pb_election.specs.Instance.{Instance}
use Rattle.pb_certificate.specs.Refutations.{Weights}
use Rattle.pb_definition_tests.specs.Samples.{a_b_c, election, sample_outcome}
use Rattle.pb_certificate.specs.declared.refutations.weighting.Role.{Role}
use Rattle.pb_certificate.specs.declared.refutations.weighting.Role.TheVariants.{Least, Most, Left}
use Rattle.pb_certificate.specs.declared.refutations.weighting.Weighting.{Weighting}

-- a row of a project
abbrev pub row : Role → ℕ → Option Weighting
row role weight = Some (record { role = role; weight = weight })

abbrev pub weights : ℕ → List (Option Weighting) → Weights
weights cover rows = record { cover = cover; rows = rows }

-- a and b are funded, voter 2 wants c alone, and c costs this
abbrev pub wanting_c : ℕ → Instance
wanting_c cost = election 10 a_b_c (6 ∷ 4 ∷ cost ∷ []) sample_outcome ((1 ∷ 2 ∷ []) ∷ (3 ∷ []) ∷ (2 ∷ 3 ∷ []) ∷ [])

-- that at least the cost of a is paid, twice, at most that of b, and at most that of c left
abbrev pub a_b_c_weights : Weights
a_b_c_weights = weights 0 (row Least 2 ∷ row Most 1 ∷ row Left 1 ∷ [])

-- x is funded, and y is not
abbrev pub x_outcome : List Bool
x_outcome = true ∷ false ∷ []

abbrev pub x_y : List (List ℕ)
x_y = codes "x" ∷ codes "y" ∷ []

-- two voters want both, and y costs this
abbrev pub wanting_y : ℕ → Instance
wanting_y cost = election 10 x_y (2 ∷ cost ∷ []) x_outcome ((1 ∷ 2 ∷ []) ∷ (1 ∷ 2 ∷ []) ∷ [])

-- two voters pay 4 for x together, want both, and y costs this
abbrev pub sharing_x : ℕ → Instance
sharing_x cost = election 10 x_y (4 ∷ cost ∷ []) x_outcome ((1 ∷ 2 ∷ []) ∷ (1 ∷ 2 ∷ []) ∷ [])

-- that at least the cost of x is paid, and at most that of y offered, each so many times, and Cover with this weight
abbrev pub paid_and_offered : ℕ → ℕ → ℕ → Weights
paid_and_offered cover paid offered = weights cover (row Least paid ∷ row Left offered ∷ [])

-- three voters want both, another one x, and one nothing
abbrev pub passed_over : Instance
passed_over =
    election 10 x_y (2 ∷ 3 ∷ []) x_outcome ((1 ∷ 2 ∷ []) ∷ (1 ∷ 2 ∷ []) ∷ (1 ∷ 2 ∷ []) ∷ (1 ∷ []) ∷ [] ∷ [])

-- at most the cost of x paid, and at most that of y left, each so many times, and Cover with this weight
abbrev pub x_y_weights : ℕ → ℕ → Weights
x_y_weights cover times = weights cover (row Most times ∷ row Left times ∷ [])
