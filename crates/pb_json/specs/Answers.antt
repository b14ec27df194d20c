-- The answer on prices beside a violation certificate, and a refusal.
use Rattle.std.specs.Prelude.{Bool, [], ◌∷◌, codes}
use Rattle.serde_json.specs.Data.{Data}
use Rattle.pb_input.specs.Faults.{fault_name, fault_number, fault_record, name_of}
use Rattle.pb_input.specs.declared.InputRefusal.{InputRefusal}
use Rattle.pb_json.specs.Members.{answer, count, fields, text}

-- both, and whether the two together are a yes
abbrev pub both_json : Bool → Data → Data → Data
both_json is_yes prices violation = fields (
    (codes "answer", text (answer is_yes))
    ∷ (codes "kind", text (codes "both"))
    ∷ (codes "prices", prices)
    ∷ (codes "version", count 1)
    ∷ (codes "violation", violation)
    ∷ [])

-- which input is refused, by which fault, and at which of its records, from 1, or 0 where it stands at none
abbrev pub refusal_json : InputRefusal → Data
refusal_json r = fields (
    (codes "answer", text (codes "refused"))
    ∷ (codes "input", text (name_of r.input))
    ∷ (codes "kind", text (codes "refusal"))
    ∷ (codes "name", text (fault_name r.fault))
    ∷ (codes "number", count (fault_number r.fault))
    ∷ (codes "record", count (fault_record r.fault))
    ∷ (codes "version", count 1)
    ∷ [])
