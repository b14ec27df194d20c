-- The canonical text of a price certificate.
use Rattle.std.specs.Prelude.{◌≡◌, ◌==◌, ◌||◌, if◌then◌else◌, ℕ, List, [], ◌∷◌, ◌++◌, map, flat_map, codes, decimal}
use Rattle.std.specs.List.{join_with_byte, list_any}
use Rattle.std.specs.Str.{byte}
use Rattle.pb_election.specs.Instance.{Instance, all_voters, id_of}
use Rattle.pb_records.specs.Records.{Field, Rec, quote_byte}
use Rattle.pb_certificate.specs.Prices.{Prices, payments_of}
use Rattle.pb_certificate.specs.Prices.Text.{IsPriceText}

abbrev pub comma : ℕ
comma = byte ","

abbrev pub line_end : ℕ
line_end = 10

-- a field in quotes, with each quote doubled
abbrev pub in_quotes : Field → List ℕ
in_quotes f =
    quote_byte
    ∷ (flat_map (λ b. if b == quote_byte then quote_byte ∷ quote_byte ∷ [] else b ∷ []) f ++ (quote_byte ∷ []))

-- a field as it is written: in quotes where it has a comma or a quote, and as it is where it has none
abbrev pub written : Field → List ℕ
written f = if list_any (λ b. (b == comma) || (b == quote_byte)) f then in_quotes f else f

-- a record as it is written
unfoldable pub line : Rec → List ℕ
line r = join_with_byte comma (map written r) ++ (line_end ∷ [])

-- the four head records, by the denominator and the numerator of the budget
abbrev pub head_records : ℕ → ℕ → List Rec
head_records denominator budget =
    (codes "pb-prices" ∷ codes "1" ∷ [])
    ∷ (codes "denominator" ∷ decimal denominator ∷ [])
    ∷ (codes "voter_budget" ∷ decimal budget ∷ [])
    ∷ (codes "voter" ∷ codes "project" ∷ codes "payment" ∷ [])
    ∷ []

-- a row for each of the payments that a voter makes
abbrev pub rows_of_voter : Instance → ℕ → List (ℕ × ℕ) → List Rec
rows_of_voter e i payments = map (λ q. decimal i ∷ id_of e q.0 ∷ decimal q.1 ∷ []) payments

-- the rows of all voters, by rising voter and then rising project
abbrev pub payment_rows : Instance → Prices → List Rec
payment_rows e p = flat_map (λ i. rows_of_voter e i (payments_of p i)) (all_voters e)

abbrev pub canonical_records : Instance → Prices → List Rec
canonical_records e p = head_records p.denominator p.budget ++ payment_rows e p

-- some records as they are written
abbrev pub lines : List Rec → List ℕ
lines recs = flat_map line recs

abbrev pub Canon : Instance → Prices → List ℕ
Canon e p = lines (canonical_records e p)

-- the text is the canonical one of the prices that some records state
pub record IsCanonOf (recs : List Rec) (e : Instance) (text : List ℕ) : Type 0 where
  pub prices : Prices
  pub states : IsPriceText recs e prices
  pub is : text ≡ Canon e prices
