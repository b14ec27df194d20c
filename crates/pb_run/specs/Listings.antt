-- What a folder lists, and which files it has.
use Rattle.std.specs.BTreeSet.{contains_text}
use Rattle.std.specs.Prelude.{◌≡◌, codes, ℕ, List, Bool, ◌++◌, ◌&&◌}
use Rattle.std.specs.List.{list_any}
use Rattle.std.specs.Str.{bytes_eq}
use Rattle.pb_audit.specs.Names.{is_clean}
use Rattle.pb_run.specs.declared.listing.Listing.{Listing}

-- a name in a folder, and whether a regular file has it
pub record Entry : Type 0 where
  pub name : List ℕ
  pub is_file : Bool

-- this is the file with a name and an ending
abbrev pub is_file_of : List ℕ → List ℕ → Entry → Bool
is_file_of ending name entry = is_clean name && entry.is_file && bytes_eq entry.name (name ++ ending)

-- a folder that lists this has the file with a name and an ending
abbrev pub has_file : List Entry → List ℕ → List ℕ → Bool
has_file listed ending name = list_any (is_file_of ending name) listed

-- the elections and the certificates of a folder that lists this, by their names
pub record IsListingOf (listed : List Entry) (l : Listing) : Type 0 where
  pub elections : (name : List ℕ) → contains_text l.elections name ≡ has_file listed (codes ".pb") name
  pub prices : (name : List ℕ) → contains_text l.prices name ≡ has_file listed (codes ".prices.csv") name
  pub violations : (name : List ℕ) → contains_text l.violations name ≡ has_file listed (codes ".violation.csv") name
