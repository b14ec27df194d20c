-- For the reader's own parts: a reader of a file's records, and what it has yet to give. What the records of a file are
-- is said in Records, without this module.
use Rattle.std.specs.Prelude.{◌≡◌, ◌+◌, true, false, ⊤, ℕ, List, [], ◌∷◌, length, Option, Some, None, IsSome}
use Rattle.std.proofs.Common.{Bor}
use Rattle.csv.specs.Machine.{ends_at_end}
use Rattle.csv.specs.Reading.{Ready, records, records_from, source_of, strip_bom}
use Rattle.csv.specs.declared.reader.Reader.{Reader}
use Rattle.csv.specs.declared.reader.Trim.TheVariants as trim
use Rattle.pb_records.specs.Records.{Rec, csv_settings}
use Rattle.pb_records.specs.Inside.Lines.{IsTriple, lines_left}
use Rattle.pb_records.specs.Cells.{is_blank, is_text}
use Rattle.pb_records.specs.declared.lines.Triple.{Triple}
use Rattle.pb_records.specs.declared.records.Next.{Next}
use Rattle.pb_records.specs.declared.records.Next.TheVariants.{End, NotText, Record}
use Rattle.pb_records.specs.declared.records.Rest.{Rest}
use Rattle.pb_records.specs.declared.records.Rest.TheVariants.{Lines, Nothing, Text}
use Rattle.pb_records.specs.declared.records.Rest.TheVariants as rest

-- the bytes that a slice has left
abbrev pub left_in : Bor (List ℕ) → Option (List ℕ)
left_in s = Some s.now

-- the records of some bytes, from the reader's state on
abbrev pub records_in : Reader (Bor (List ℕ)) → Option (List ℕ) → List Rec
records_in r None = []
records_in r (Some bytes) = records_from r.config (length bytes + 1) r.state bytes

-- the records that a reader of a slice has yet to give
abbrev pub reader_left : Reader (Bor (List ℕ)) → List Rec
reader_left r = records_in r (source_of left_in r)

-- a reader of a slice that stands between two records
pub record Stands (r : Reader (Bor (List ℕ))) : Type 0 where
  pub trim : r.trim ≡ trim.None
  pub flexible : r.flexible ≡ true
  pub ready : Ready r
  pub between : ends_at_end r.state ≡ false
  pub known : IsSome (source_of left_in r)

-- the records that are left
abbrev pub records_left : Rest → List Rec
records_left (Lines text) = lines_left text.now
records_left (Text text d) = records (csv_settings d) text.now
records_left (rest.Reader r) = reader_left r.value
records_left Nothing = []

-- a reader may begin with what is left, or stands between two records
abbrev pub IsReady : Rest → Type 0
IsReady (Lines text) = strip_bom text.now ≡ text.now
IsReady (Text text d) = strip_bom text.now ≡ text.now
IsReady (rest.Reader r) = Stands r.value
IsReady Nothing = ⊤

-- what was found where these records were left, with the row that was read and the records left then
abbrev pub FindsRecord : Next → List Rec → Rec → List Rec → Type 0
FindsRecord Record old row new = (old ≡ row ∷ new) × (is_text row ≡ true)
FindsRecord NotText old row new = (r : Rec) × (rest : List Rec) × (old ≡ r ∷ rest) × (is_text r ≡ false) × (new ≡ [])
FindsRecord End old row new = (old ≡ []) × (new ≡ [])

-- the same, with what is left of the file then
abbrev pub Reads : Next → List Rec → Rec → Rest → Type 0
Reads next old row left = FindsRecord next old row (records_left left) × IsReady left

-- what a reader found, and where it stands then: ready behind a record
abbrev pub ReadsOne : Next → Reader (Bor (List ℕ)) → Rec → Reader (Bor (List ℕ)) → Type 0
ReadsOne Record old row new = FindsRecord Record (reader_left old) row (reader_left new) × Stands new
ReadsOne NotText old row new = FindsRecord NotText (reader_left old) row []
ReadsOne End old row new = FindsRecord End (reader_left old) row []

-- a record of three fields was found
pub record FindsTriple (t : Triple) (old new : List Rec) : Type 0 where
  pub row : Rec
  pub fields : IsTriple t row
  pub cut : old ≡ row ∷ new
  pub is_utf8 : is_text row ≡ true
  pub is_full : is_blank row ≡ false
