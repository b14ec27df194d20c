-- The SHA-256 sums of files, as a page shows them.
use Rattle.std.specs.Prelude.{ℕ, List, [], ◌∷◌, ◌++◌, ◌/◌, ◌%◌, Option, codes, map, option_to_list, slice_index}
use Rattle.std.specs.List.{flat_map}
use Rattle.sha2.specs.Sha256.{sha256}
use Rattle.pb_records.specs.Loading.{Delivery, Bytes, Read, TooLong}
use Rattle.pb_markup.specs.InOrder.{HasParts}
use Rattle.pb_markup.specs.Pieces.{Close, Open, Piece, Words}
use Rattle.pb_markup.specs.declared.tag.Tag.TheVariants as tag

-- a hexadecimal digit, and a byte as two of them, the high one first
abbrev pub digit : ℕ → ℕ
digit n = slice_index (codes "0123456789abcdef") n

abbrev pub two_digits : ℕ → List ℕ
two_digits b = digit (b / 16) ∷ digit (b % 16) ∷ []

-- the SHA-256 of some bytes, in hexadecimal digits
abbrev pub sum_text : List ℕ → List ℕ
sum_text bytes = flat_map two_digits (sha256 bytes)

-- the bytes of a file; one that can't be read, or is too long, counts as empty, and has no page
abbrev pub bytes_of : Delivery → List ℕ
bytes_of (Bytes bytes) = bytes
bytes_of Read = []
bytes_of TooLong = []

-- the files that a page is about, in its order: the election, the outcome file where one is given, the certificate where
-- it is about one
abbrev pub files_of : Delivery → Option Delivery → Option Delivery → List Delivery
files_of election outcome certificate = election ∷ (option_to_list outcome ++ option_to_list certificate)

abbrev pub sums_of : List Delivery → List (List ℕ)
sums_of files = map (λ file. sum_text (bytes_of file)) files

-- a text in a box of its own, and pieces that have such boxes with these texts, in this order
abbrev pub code_box : List ℕ → List Piece
code_box text = Open tag.Code [] ∷ Words text ∷ Close ∷ []

abbrev pub HasInOrder : List (List ℕ) → List Piece → Type 0
HasInOrder texts pieces = HasParts code_box texts pieces
