-- For the reader's own parts: the ids of projects, as they are kept, and where they stand. What a file states is said in
-- Text and Faults, without this module.
use Rattle.std.specs.Prelude.{◌≡◌, ℕ, List, Option, Some, None, map, string_bytes}
use Rattle.std.specs.BTreeMap.{BTreeMap, get_by_text}
use Rattle.std.specs.Global.{Global}
use Rattle.std.specs.List.{IsDistinct, position_from}
use Rattle.std.specs.Str.{bytes_eq}
use Rattle.std.specs.declared.string.String.{String}
use Rattle.pb_records.specs.Records.{Field}

-- the texts of some strings, in their order
abbrev pub ids_kept : List (String Global) → List Field
ids_kept strings = map string_bytes strings

-- the ids that are kept in an order, and where there is none, as a set of strings
abbrev pub ids_in_order_or_set : Option (List Field) → List (String Global) → List Field
ids_in_order_or_set (Some ids) strings = ids
ids_in_order_or_set None strings = ids_kept strings

-- the position of an id, from 1
abbrev pub position_in : List Field → Field → Option ℕ
position_in ids id = position_from (bytes_eq id) 1 ids

-- a map has the index of each id, and nothing else
pub record IsIndexed (indices : BTreeMap (String Global) ℕ) (ids : List Field) : Type 0 where
  pub distinct : IsDistinct bytes_eq ids
  pub each : (id : Field) → get_by_text indices id ≡ position_from (bytes_eq id) 0 ids
