-- For the reader's own parts: what takes the payments of a price certificate, one voter after the other. No claim on a
-- file rests on this.
use Rattle.std.specs.Prelude.{◌≡◌, ◌≤◌, ◌+◌, ◌++◌, ℕ, List, [], ◌∷◌, length, sum_by}
use Rattle.pb_election.specs.Instance.{Instance}
use Rattle.pb_certificate.specs.Prices.{IsPaymentMap, Prices, most_rows}

-- the prices with the payments of one more voter
abbrev pub with_voter : Prices → List (ℕ × ℕ) → Prices
with_voter p run = record p { payments = p.payments ++ (run ∷ []) }

-- The sink has some prices so far, as `has` says, and can take these payments of the next voter.
pub record CanTake (has : Instance → Prices → Type 0) (voter : ℕ) (run : List (ℕ × ℕ)) : Type 0 where
  pub election : Instance
  pub prices : Prices
  pub has_prices : has election prices
  pub next : voter ≡ length prices.payments + 1
  pub map : IsPaymentMap prices.projects run
  pub few : sum_by length prices.payments + length run ≤ most_rows
