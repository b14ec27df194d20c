-- A place between the records of a file, and what is met on the way behind the next record that isn't blank.
use Rattle.std.specs.Prelude.{◌≡◌, ◌+◌, ◌++◌, false, true, ℕ, List, [], ◌∷◌, length}
use Rattle.pb_records.specs.Records.{Rec}
use Rattle.pb_records.specs.Cells.{is_blank, is_text, nonblank}
use Rattle.pb_records.specs.Inside.Lines.{IsTriple}
use Rattle.pb_records.specs.declared.lines.Triple.{Triple}
use Rattle.pb_records.specs.declared.records.Next.{Next}
use Rattle.pb_records.specs.declared.records.Next.TheVariants.{End, NotText, Record}

-- how many records lie behind, the record that was given last, and the records that are still to come
pub record Position : Type 0 where
  pub record_number : ℕ
  pub row : Rec
  pub left : List Rec

-- some blank records, and then the record that was given: it is UTF-8
pub record MeetsRecord (old new : Position) : Type 0 where
  pub blanks : List Rec
  pub are_blank : nonblank blanks ≡ []
  pub cut : old.left ≡ blanks ++ (new.row ∷ new.left)
  pub at : new.record_number ≡ old.record_number + length blanks + 1
  pub is_full : is_blank new.row ≡ false
  pub is_utf8 : is_text new.row ≡ true

-- some blank records, and then one that is not UTF-8: after it none is given
pub record MeetsNotText (old new : Position) : Type 0 where
  pub blanks : List Rec
  pub bad : Rec
  pub rest : List Rec
  pub are_blank : nonblank blanks ≡ []
  pub cut : old.left ≡ blanks ++ (bad ∷ rest)
  pub at : new.record_number ≡ old.record_number + length blanks + 1
  pub is_not_utf8 : is_text bad ≡ false
  pub none_left : new.left ≡ []

-- blank records alone, and then the end
pub record MeetsEnd (old new : Position) : Type 0 where
  pub are_blank : nonblank old.left ≡ []
  pub at : new.record_number ≡ old.record_number + length old.left
  pub none_left : new.left ≡ []

abbrev pub Meets : Next → Position → Position → Type 0
Meets Record old new = MeetsRecord old new
Meets NotText old new = MeetsNotText old new
Meets End old new = MeetsEnd old new

-- a record of three fields was met, which were lent and not put into the row
pub record MeetsTriple (t : Triple) (old new : Position) : Type 0 where
  pub row : Rec
  pub fields : IsTriple t row
  pub met : MeetsRecord old (record new { row = row })
