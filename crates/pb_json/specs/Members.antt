-- Objects by their members, and what stands in them.
use Rattle.std.specs.Prelude.{Bool, ℕ, ℤ, List, [], ◌∷◌, Option, Some, None, codes, decimal, if◌then◌else◌}
use Rattle.std.specs.Fmt.{signed_decimal}
use Rattle.serde_json.specs.Data.{Data, Members, array, boolean, member, no_members, null, number, object, put, string, unsigned}
use Rattle.serde_json.specs.View.{items_of}
use Rattle.pb_records.specs.Records.{Text}

-- these members, which stand in the order of their keys
abbrev pub members_of : List (Text × Data) → Members
members_of [] = no_members
members_of (m ∷ ms) = member m.0 m.1 (members_of ms)

abbrev pub fields : List (Text × Data) → Data
fields ms = object (members_of ms)

abbrev pub list : List Data → Data
list items = array (items_of items)

-- a text; whether something is so; how many there are, or which one
abbrev pub text : Text → Data
text s = string s

abbrev pub flag : Bool → Data
flag b = boolean b

abbrev pub count : ℕ → Data
count n = number (unsigned n)

-- an amount as the text of its digits, since a number in JSON is often read with no more than 53 bits; and one that may
-- be negative
abbrev pub amount : ℕ → Data
amount n = string (decimal n)

abbrev pub balance : ℤ → Data
balance z = string (signed_decimal z)

-- null where there is nothing
abbrev pub or_null : {A : Type 0} → (A → Data) → Option A → Data
or_null told None = null
or_null told (Some x) = told x

-- the word for an answer
abbrev pub answer : Bool → Text
answer is_yes = if is_yes then codes "yes" else codes "no"

-- what members become when these are put among them
abbrev pub with_all : List (Text × Data) → Members → Members
with_all [] ms = ms
with_all (f ∷ fs) ms = with_all fs (put f.0 f.1 ms)
