-- Outcomes of which one funds what the other funds, and elections that differ in their limits alone.
use Rattle.std.specs.Prelude.{ℕ, Bool, List}
use Rattle.pb_election.specs.Instance.{Instance}
use Rattle.pb_cohesion.specs.Outcome.{IsFunded}

-- each project that is funded in w is funded in v
abbrev pub FundsNoLess : Instance → List Bool → List Bool → Type 0
FundsNoLess e v w = (c : ℕ) → IsFunded e w c → IsFunded e v c

-- the election with another limit
abbrev pub with_limit : Instance → ℕ → Instance
with_limit e limit = record e { limit = limit }
