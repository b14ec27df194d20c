-- The rows of a table of conditions or tests.
use Rattle.std.specs.Prelude.{if◌then◌else◌, Bool, ℕ, ◌++◌, codes, decimal}
use Rattle.pb_records.specs.Records.{Text}

-- whether it holds
abbrev pub answer : Bool → Text
answer holds = if holds then codes "holds" else codes "fails"

-- a row begins with the name and the answer, each in a column of its own
unfoldable pub opening : Text → Bool → Text
opening name holds = name ++ answer holds ++ codes "      "

-- a condition that isn't asked for is told with how to ask for it
abbrev pub unasked_opening : Text → Text → Bool → Text
unasked_opening name how holds = name ++ codes "not asked  " ++ how ++ codes " it " ++ answer holds ++ codes ": "

unfoldable pub opening_if : Bool → Text → Text → Bool → Text
opening_if asked name how holds = if asked then opening name holds else unasked_opening name how holds

-- a voter, by its number
abbrev pub voter : ℕ → Text
voter i = codes "voter " ++ decimal i

-- how many culprits there are, by what they are
unfoldable pub how_many : Text → ℕ → Text
how_many culprits count = codes " (" ++ culprits ++ codes ": " ++ decimal count ++ codes ")"
