-- The numbers of the kinds of files, and 0 of a file that is none of them.
use Rattle.std.specs.Prelude.{◌≡◌, ◌⊎◌, ℕ, List, Option, Some, None}
use Rattle.pb_c.specs.Reports.{memory_code}
use Rattle.pb_hints.specs.Kinds.{kind_of}
use Rattle.pb_hints.specs.declared.file_kind.FileKind.{FileKind}
use Rattle.pb_hints.specs.declared.file_kind.FileKind.TheVariants as kind

abbrev pub kind_number : Option FileKind → ℕ
kind_number None = 0
kind_number (Some kind.Election) = 1
kind_number (Some kind.Outcome) = 2
kind_number (Some kind.Prices) = 3
kind_number (Some kind.Violation) = 4
kind_number (Some kind.Refutation) = 5
-- a certificate of any kind, which no file is by its first record
kind_number (Some kind.Certificate) = 0

-- it is told what these bytes are, or memory ran out
abbrev pub TellsKind : List ℕ → ℕ → ℕ → Type 0
TellsKind bytes code number =
    ((code ≡ 0) × (number ≡ kind_number (kind_of bytes))) ⊎ ((code ≡ memory_code) × (number ≡ 0))
