-- For the reader's own parts: records that stand on lines of their own, with commas and without quotes.
use Rattle.std.specs.Prelude.{◌≡◌, ◌<◌, ◌^◌, ◌==◌, ◌||◌, not, false, true, ⊤, Bool, ℕ, List, [], ◌∷◌, ◌++◌}
use Rattle.std.specs.Str.{IsUtf8, byte}
use Rattle.csv.specs.Reading.{records}
use Rattle.pb_money.specs.Whole.{WholeText}
use Rattle.pb_records.specs.Records.{Field, Rec, csv_settings, quote_byte}
use Rattle.pb_records.specs.Cells.{is_blank, is_text}
use Rattle.pb_records.specs.declared.lines.Triple.{Triple}

-- a byte that stands for itself in a field: no comma, no quote, no end of a line
abbrev pub is_plain : ℕ → Bool
is_plain b = not ((b == 10) || ((b == 13) || ((b == quote_byte) || (b == byte ","))))

-- the records of a text whose fields are separated by commas
abbrev pub lines_left : List ℕ → List Rec
lines_left text = records (csv_settings (byte ",")) text

-- a line ends here: at a line feed, or with the text
abbrev pub IsLineEnd : List ℕ → Type 0
IsLineEnd [] = ⊤
IsLineEnd (b ∷ bs) = b ≡ 10

-- these lines begin with this record, which is text, and the others lie behind it
pub record GivesLine (lines : List ℕ) (r : Rec) (rest : List ℕ) : Type 0 where
  pub records : lines_left lines ≡ r ∷ lines_left rest
  pub is_utf8 : is_text r ≡ true
  pub at_end : IsLineEnd rest

-- digits at the front of a text state this number, and the rest lies behind them
pub record CutsNumber (text : List ℕ) (n : ℕ) (rest : List ℕ) : Type 0 where
  pub digits : List ℕ
  pub cut : text ≡ digits ++ rest
  pub states : WholeText digits n
  pub small : n < 10 ^ 18
  pub is_utf8 : IsUtf8 rest

-- a record has three fields, the first and the last of which state these numbers
pub record IsTriple (t : Triple) (r : Rec) : Type 0 where
  pub first : Field
  pub third : Field
  pub fields : r ≡ first ∷ t.second.now ∷ third ∷ []
  pub first_states : WholeText first t.first
  pub third_states : WholeText third t.third
  pub small : t.third < 10 ^ 18

-- these lines begin with this record of three fields
pub record GivesTriple (lines : List ℕ) (t : Triple) (rest : List ℕ) : Type 0 where
  pub row : Rec
  pub fields : IsTriple t row
  pub line : GivesLine lines row rest
  pub is_full : is_blank row ≡ false
