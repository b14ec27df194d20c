-- What the fields of a record say: numbers, voters and projects.
use Rattle.std.specs.Prelude.{◌≡◌, ◌==◌, ◌&&◌, nat_le, if◌then◌else◌, Bool, true, false, ℕ, List, [], ◌∷◌, length, map, Option, Some, None, Result, Err, option_and_then}
use Rattle.std.specs.Str.{bytes_eq}
use Rattle.std.specs.Option.{ok_or}
use Rattle.pb_money.specs.Digits.{are_digits, is_empty, number_of}
use Rattle.pb_election.specs.Instance.{Instance, position_of, voters}
use Rattle.pb_records.specs.Records.{Field, Rec}
use Rattle.pb_records.specs.Cells.{cell, clean}
use Rattle.pb_certificate.specs.declared.refusal.CertFault.{CertFault}
use Rattle.pb_certificate.specs.declared.refusal.CertFault.TheVariants as fault

-- fields without the empty ones at their end
abbrev pub without_empty_end : List Field → List Field
without_empty_end [] = []
without_empty_end (f ∷ fs) = if is_empty f && is_empty (without_empty_end fs) then [] else f ∷ without_empty_end fs

-- the fields that count: cleaned, without the empty ones at the end
abbrev pub fields : Rec → List Field
fields r = without_empty_end (map clean r)

-- whether two lists of fields are the same, byte for byte
abbrev pub same_fields : List Field → List Field → Bool
same_fields [] [] = true
same_fields [] (g ∷ gs) = false
same_fields (f ∷ fs) [] = false
same_fields (f ∷ fs) (g ∷ gs) = bytes_eq f g && same_fields fs gs

-- a value that passes a test
abbrev pub only_if : (ℕ → Bool) → ℕ → Option ℕ
only_if p n = if p n then Some n else None

-- the whole number that a text states, however large
unfoldable pub whole_in : Field → Option ℕ
whole_in f = if are_digits f then Some (number_of f) else None

-- the whole number that a text states, in this range
abbrev pub whole_within : ℕ → ℕ → Field → Option ℕ
whole_within least most f = option_and_then (only_if (λ n. nat_le least n && nat_le n most)) (whole_in f)

-- the voter that a field names by its number, and the project that one names by its id
abbrev pub voter_in : Instance → Field → Option ℕ
voter_in e f = whole_within 1 (voters e) f

abbrev pub project_in : Instance → Field → Option ℕ
project_in e f = position_of e f

-- a head record of this name states this number, between two bounds
abbrev pub StatesNumber : Field → ℕ → ℕ → Rec → ℕ → Type 0
StatesNumber name least most r n = (f : Field) × (fields r ≡ name ∷ f ∷ []) × (whole_within least most f ≡ Some n)

-- the number between two bounds that a head record of this name states, or why it states none
abbrev pub head_number : Field → ℕ → ℕ → Rec → Result ℕ CertFault
head_number name least most r =
    if (length (fields r) == 2) && bytes_eq (cell 0 r) name
    then ok_or (whole_within least most (cell 1 r)) fault.BadNumber
    else Err fault.BadHead
