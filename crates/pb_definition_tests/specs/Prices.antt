-- More sample prices, for the sample election and others.
use Rattle.std.specs.Prelude.{[], ◌∷◌, false, Bool, List}
use Rattle.pb_election.specs.Instance.{Instance}
use Rattle.pb_certificate.specs.Prices.{Prices}
use Rattle.pb_definition_tests.specs.Samples.{a_b_c, election, sample_outcome, sample_prices_with}

-- a cheap pool that voter 2 approves, who pays more than its budget
abbrev pub overpaying_election : Instance
overpaying_election =
    election 10 a_b_c (6 ∷ 4 ∷ 1 ∷ []) sample_outcome ((1 ∷ 2 ∷ []) ∷ (1 ∷ 3 ∷ []) ∷ (2 ∷ 3 ∷ []) ∷ [])

abbrev pub overpaid_prices : Prices
overpaid_prices = sample_prices_with (((2, 2) ∷ []) ∷ ((1, 6) ∷ []) ∷ ((2, 2) ∷ []) ∷ [])

-- voter 3 pays alone for the library, and has nothing left
abbrev pub moved_prices : Prices
moved_prices = sample_prices_with (((1, 2) ∷ []) ∷ ((1, 4) ∷ []) ∷ ((2, 4) ∷ []) ∷ [])

-- Three voters with a limit of 12. Voters 2 and 3 approve the park, a, which costs 2 and is funded, and the pool, c, which
-- costs 6 and is not.
abbrev pub pool_of_two : Instance
pool_of_two =
    election 12 a_b_c (2 ∷ 4 ∷ 6 ∷ []) sample_outcome ((2 ∷ []) ∷ (1 ∷ 3 ∷ []) ∷ (1 ∷ 3 ∷ []) ∷ [])

-- budgets that come to just the limit
abbrev pub pool_prices : Prices
pool_prices = sample_prices_with (((2, 4) ∷ []) ∷ ((1, 2) ∷ []) ∷ [] ∷ [])

-- nothing is funded, and nobody has money
abbrev pub none_funded : List Bool
none_funded = false ∷ false ∷ false ∷ []

abbrev pub no_money : Prices
no_money = record { projects = 3; denominator = 1; budget = 0; payments = [] ∷ [] ∷ [] ∷ [] }
