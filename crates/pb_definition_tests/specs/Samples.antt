-- Sample elections, price systems and records.
use Rattle.std.specs.Prelude.{◌+◌, ◌*◌, ℕ, Bool, true, false, List, [], ◌∷◌, ◌++◌, map, length, filter_map, slice_get, codes, Option, Some, None, option_map}
use Rattle.std.specs.List.{range_with_len}
use Rattle.pb_election.specs.Instance.{Instance}
use Rattle.pb_election.specs.Rows.{unused_columns}
use Rattle.pb_records.specs.Records.{Field, Rec}
use Rattle.pb_records.specs.FirstFault.{Form, fault_at}
use Rattle.pb_certificate.specs.declared.refusal.CertFault.{CertFault}
use Rattle.pb_certificate.specs.Prices.Canon.{line_end}
use Rattle.pb_certificate.specs.Prices.Text.{Payment}
use Rattle.pb_certificate.specs.Prices.{Prices}
use Rattle.pb_certificate.specs.Refutations.{Weights}
use Rattle.pb_certificate.specs.declared.refutations.weighting.Role.TheVariants as Role

-- amounts in whole units, of which an election counts millionths
abbrev pub units : List ℕ → List ℕ
units xs = map (λ x. x * 1000000) xs

-- the election of a limit and costs in whole units, the funded marks and the ballots
abbrev pub election : ℕ → List (List ℕ) → List ℕ → List Bool → List (List ℕ) → Instance
election limit ids costs selected ballots = record {
  limit = limit * 1000000;
  ids = ids;
  costs = units costs;
  selected = Some selected;
  other_selected = 0;
  declared_projects = None;
  declared_votes = None;
  unused = unused_columns [];
  ballots = ballots;
}

abbrev pub a_b_c : List (List ℕ)
a_b_c = codes "a" ∷ codes "b" ∷ codes "c" ∷ []

-- the sample election: a and b are funded, and c is not
abbrev pub sample_outcome : List Bool
sample_outcome = true ∷ true ∷ false ∷ []

-- with these costs of a, b and c
abbrev pub sample_with_costs : ℕ → ℕ → ℕ → Instance
sample_with_costs a b c =
    election 10 a_b_c (a ∷ b ∷ c ∷ []) sample_outcome ((1 ∷ 2 ∷ []) ∷ (1 ∷ []) ∷ (2 ∷ 3 ∷ []) ∷ [])

abbrev pub sample_election : Instance
sample_election = sample_with_costs 6 4 9

abbrev pub sample_prices : Prices
sample_prices =
    record {
      projects = 3;
      denominator = 1;
      budget = 4;
      payments = ((1, 2) ∷ (2, 2) ∷ []) ∷ ((1, 4) ∷ []) ∷ ((2, 2) ∷ []) ∷ [];
    }

-- their canonical text
abbrev pub sample_text : List ℕ
sample_text =
    codes "pb-prices,1" ++ (line_end ∷ [])
    ++ codes "denominator,1" ++ (line_end ∷ [])
    ++ codes "voter_budget,4" ++ (line_end ∷ [])
    ++ codes "voter,project,payment" ++ (line_end ∷ [])
    ++ codes "1,a,2" ++ (line_end ∷ [])
    ++ codes "1,b,2" ++ (line_end ∷ [])
    ++ codes "2,a,4" ++ (line_end ∷ [])
    ++ codes "3,b,2" ++ (line_end ∷ [])

-- their payments and one of 0, in another order
abbrev pub unordered_payments : List Payment
unordered_payments =
    record { voter = 2; project = 1; numerator = 4 }
    ∷ record { voter = 1; project = 2; numerator = 2 }
    ∷ record { voter = 3; project = 2; numerator = 2 }
    ∷ record { voter = 1; project = 1; numerator = 2 }
    ∷ record { voter = 2; project = 2; numerator = 0 }
    ∷ []

-- the same budget, with other payments
abbrev pub sample_prices_with : List (List (ℕ × ℕ)) → Prices
sample_prices_with payments = record sample_prices { payments = payments }

-- one project of cost 1, which three voters share
abbrev pub shared_election : Instance
shared_election = election 1 (codes "x" ∷ []) (1 ∷ []) (true ∷ []) ((1 ∷ []) ∷ (1 ∷ []) ∷ (1 ∷ []) ∷ [])

-- over this denominator, with this budget, each of the three pays this for it
abbrev pub shared_prices : ℕ → ℕ → ℕ → Prices
shared_prices d n x =
    record { projects = 1; denominator = d; budget = n; payments = ((1, x) ∷ []) ∷ ((1, x) ∷ []) ∷ ((1, x) ∷ []) ∷ [] }

-- two voters, each with a project of its own, of which one is funded
abbrev pub split_outcome : List Bool
split_outcome = true ∷ false ∷ []

-- the second costs this
abbrev pub split_election : ℕ → Instance
split_election c = election 10 (codes "a" ∷ codes "c" ∷ []) (5 ∷ c ∷ []) split_outcome ((1 ∷ []) ∷ (2 ∷ []) ∷ [])

abbrev pub split_prices : Prices
split_prices = record { projects = 2; denominator = 1; budget = 5; payments = ((1, 5) ∷ []) ∷ [] ∷ [] }

-- two voters want x1 and x2, two want y, and y is funded
abbrev pub unfair_outcome : List Bool
unfair_outcome = false ∷ false ∷ true ∷ []

-- with these ballots of voters 1 and 2
abbrev pub unfair_with_ballots : List ℕ → List ℕ → Instance
unfair_with_ballots first second =
    election 8 (codes "x1" ∷ codes "x2" ∷ codes "y" ∷ []) (2 ∷ 2 ∷ 8 ∷ []) unfair_outcome
    (first ∷ second ∷ (3 ∷ []) ∷ (3 ∷ []) ∷ [])

-- with this ballot of voter 2
abbrev pub unfair_with_ballot : List ℕ → Instance
unfair_with_ballot ballot = unfair_with_ballots (1 ∷ 2 ∷ []) ballot

abbrev pub unfair_election : Instance
unfair_election = unfair_with_ballot (1 ∷ 2 ∷ [])

-- where voters 1 and 2 want y too
abbrev pub all_want_y : Instance
all_want_y = unfair_with_ballots (1 ∷ 2 ∷ 3 ∷ []) (1 ∷ 2 ∷ 3 ∷ [])

-- two voters want a cheap project, which is funded, and one of them wants a dear one too
abbrev pub dear_outcome : List Bool
dear_outcome = true ∷ false ∷ []

abbrev pub dear_election : Instance
dear_election = election 12 (codes "s" ∷ codes "t" ∷ []) (1 ∷ 6 ∷ []) dear_outcome ((1 ∷ 2 ∷ []) ∷ (1 ∷ []) ∷ [])

-- the first place at which a fault stands, counted from 1, with the fault of the lowest number there
abbrev pub first_refusal : Form CertFault → List Rec → Option (CertFault × ℕ)
first_refusal form recs =
    slice_get (filter_map (λ k. option_map (λ f. (f, k)) (fault_at form recs k)) (range_with_len 1 (length recs + 1))) 0

-- records of three and of two fields
abbrev pub three : Field → Field → Field → Rec
three a b c = a ∷ b ∷ c ∷ []

abbrev pub two : Field → Field → Rec
two a b = a ∷ b ∷ []

abbrev pub price_columns : Rec
price_columns = three (codes "voter") (codes "project") (codes "payment")

-- a price certificate with these rows
abbrev pub price_records : List Rec → List Rec
price_records rows = two (codes "pb-prices") (codes "1") ∷ two (codes "denominator") (codes "1")
    ∷ two (codes "voter_budget") (codes "4") ∷ price_columns ∷ rows

-- the rows of the sample prices
abbrev pub row_1a : Rec
row_1a = three (codes "1") (codes "a") (codes "2")

abbrev pub row_1b : Rec
row_1b = three (codes "1") (codes "b") (codes "2")

abbrev pub row_2a : Rec
row_2a = three (codes "2") (codes "a") (codes "4")

abbrev pub row_3b : Rec
row_3b = three (codes "3") (codes "b") (codes "2")

-- a price certificate with blanks, a blank record, zeros in front of numbers, and empty fields at the end of a row
abbrev pub lenient_records : List Rec
lenient_records =
    two (codes "pb-prices") (codes " 1")
    ∷ two (codes "denominator") (codes "1")
    ∷ two (codes "voter_budget") (codes "04")
    ∷ (codes "  " ∷ [])
    ∷ price_columns
    ∷ row_1b
    ∷ three (codes "1") (codes "a") (codes "002")
    ∷ (row_2a ++ ([] ∷ [] ∷ []))
    ∷ []

-- a violation certificate with these rows
abbrev pub violation_records : List Rec → List Rec
violation_records rows = two (codes "pb-violation") (codes "1") ∷ rows

-- one of version 2 that states this measure
abbrev pub measured_records : Field → List Rec → List Rec
measured_records measure rows = two (codes "pb-violation") (codes "2") ∷ two (codes "satisfaction") measure ∷ rows

abbrev pub demand_x1 : Rec
demand_x1 = two (codes "project") (codes "x1")

abbrev pub demand_x2 : Rec
demand_x2 = two (codes "project") (codes "x2")

abbrev pub member_1 : Rec
member_1 = two (codes "voter") (codes "1")

-- an outcome file with these rows
abbrev pub outcome_records : List Rec → List Rec
outcome_records rows = two (codes "pb-outcome") (codes "1") ∷ rows

-- a refutation with this weight of Cover and these rows
abbrev pub refutation_records : Field → List Rec → List Rec
refutation_records cover rows = two (codes "pb-refutation") (codes "1") ∷ two (codes "cover") cover
    ∷ three (codes "role") (codes "project") (codes "weight") ∷ rows

-- the rows of a refutation of the sample election
abbrev pub least_a : Rec
least_a = three (codes "least") (codes "a") (codes "2")

abbrev pub most_b : Rec
most_b = three (codes "most") (codes "b") (codes "1")

abbrev pub left_c : Rec
left_c = three (codes "left") (codes "c") (codes "1")

-- what they state
abbrev pub sample_weights : Weights
sample_weights = record {
  cover = 0;
  rows = Some (record { role = Role.Least; weight = 2 })
      ∷ Some (record { role = Role.Most; weight = 1 })
      ∷ Some (record { role = Role.Left; weight = 1 })
      ∷ [];
}

-- the same in another order, with a blank record, zeros in front of numbers, and empty fields at the end of a row
abbrev pub lenient_refutation : List Rec
lenient_refutation =
    two (codes "pb-refutation") (codes " 1")
    ∷ (codes "  " ∷ [] ∷ [])
    ∷ two (codes "cover") (codes "000")
    ∷ three (codes "role") (codes "project") (codes "weight")
    ∷ left_c
    ∷ (most_b ++ ([] ∷ [] ∷ []))
    ∷ three (codes "least") (codes " a") (codes "02")
    ∷ []
