-- What a record says by itself: its cells, and whether it is blank.
use Rattle.std.specs.Prelude.{◌==◌, ◌&&◌, ◌||◌, not, nat_le, Bool, ℕ, List, [], filter, unwrap_or}
use Rattle.std.specs.List.{list_all}
use Rattle.std.specs.Str.{is_utf8}
use Rattle.csv.specs.Records.{field_at}
use Rattle.pb_money.specs.Digits.{drop_back, drop_front, is_empty}
use Rattle.pb_records.specs.Records.{Field, Rec}

-- the bytes that cleaning drops at both ends of a field
abbrev pub is_space : ℕ → Bool
is_space b = (nat_le 9 b && nat_le b 13) || (b == 32)

abbrev pub clean : Field → Field
clean f = drop_back is_space (drop_front is_space f)

-- the field at a place of a record, from 0, cleaned, and empty where there is none
abbrev pub cell : ℕ → Rec → Field
cell i r = clean (unwrap_or (field_at r i) [])

-- whether each field is UTF-8
unfoldable pub is_text : Rec → Bool
is_text r = list_all is_utf8 r

-- whether each field is empty after cleaning
unfoldable pub is_blank : Rec → Bool
is_blank r = list_all (λ f. is_empty (clean f)) r

abbrev pub nonblank : List Rec → List Rec
nonblank recs = filter (λ r. not (is_blank r)) recs
