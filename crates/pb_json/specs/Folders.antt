-- The report on a folder: an object for each entry, and one for the total.
use Rattle.std.specs.Prelude.{ℕ, [], ◌∷◌, codes}
use Rattle.serde_json.specs.Data.{Data}
use Rattle.pb_records.specs.Records.{Text}
use Rattle.pb_json.specs.Members.{count, fields, text}

-- the answers on the files of one name: on its election, and on its certificates
abbrev pub entry_json : Text → Data → Data → Data → Data
entry_json name election prices violation = fields (
    (codes "election", election)
    ∷ (codes "kind", text (codes "entry"))
    ∷ (codes "name", text name)
    ∷ (codes "prices", prices)
    ∷ (codes "version", count 1)
    ∷ (codes "violation", violation)
    ∷ [])

-- how many elections there are, how many certificates are answered yes and no, and how many files are refused
abbrev pub total_json : ℕ → ℕ → ℕ → ℕ → Data
total_json elections yeses noes refused = fields (
    (codes "elections", count elections)
    ∷ (codes "kind", text (codes "total"))
    ∷ (codes "no", count noes)
    ∷ (codes "refused", count refused)
    ∷ (codes "version", count 1)
    ∷ (codes "yes", count yeses)
    ∷ [])
