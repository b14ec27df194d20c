-- The table of margins.
use Rattle.std.specs.Prelude.{◌*◌, ◌^◌, if◌then◌else◌, ℕ, Bool, List, [], ◌∷◌, ◌++◌, map, codes, decimal}
use Rattle.std.specs.Fmt.{signed_decimal}
use Rattle.std.specs.List.{join_with_byte}
use Rattle.pb_records.specs.Records.{Field, Rec, Text}
use Rattle.pb_election.specs.Instance.{Instance, all_projects, id_of}
use Rattle.pb_certificate.specs.Prices.Canon.{comma, written}
use Rattle.pb_certificate.specs.Prices.{Prices}
use Rattle.pb_price.specs.Margins.{margins_of_project}
use Rattle.pb_price.specs.declared.ProjectMargins.{ProjectMargins}

-- the head: the name of the format and its version, how many grains one unit of the currency has, and the columns
abbrev pub margin_head : ℕ → List Rec
margin_head grains_per_unit =
    (codes "pb-margins" ∷ codes "1" ∷ [])
    ∷ (codes "grains_per_unit" ∷ decimal grains_per_unit ∷ [])
    ∷ (codes "project" ∷ codes "funded" ∷ codes "supporters" ∷ codes "cost" ∷ codes "paid" ∷ codes "left"
    ∷ codes "offer" ∷ [])
    ∷ []

abbrev pub flag_of : Bool → Field
flag_of funded = if funded then codes "1" else codes "0"

-- the row of a project, by its id and its figures
abbrev pub row_of : Field → ProjectMargins → Rec
row_of id m =
    id ∷ flag_of m.funded ∷ decimal m.supporters ∷ decimal m.cost ∷ decimal m.paid ∷ signed_decimal m.left
    ∷ signed_decimal m.offer ∷ []

-- the rows of some projects by a price system
abbrev pub margin_rows : Instance → List Bool → Prices → List ℕ → List Rec
margin_rows e w p cs = map (λ c. row_of (id_of e c) (margins_of_project e w p c)) cs

-- the table: the head, and then a row for each project in the order of the election
abbrev pub table_of : Instance → List Bool → Prices → List Rec
table_of e w p = margin_head (10 ^ 6 * p.denominator) ++ margin_rows e w p (all_projects e)

-- a record as a line of comma-separated values, without its end
abbrev pub record_line : Rec → Text
record_line r = join_with_byte comma (map written r)
