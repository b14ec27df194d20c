-- Files that begin with head records, behind which each record is a row: what such a file states, record by record, and
-- which fault stands where.
use Rattle.std.specs.Prelude.{◌++◌, if◌then◌else◌, Bool, List, [], ◌∷◌, Option, Some, None, Result, Ok, Err}
use Rattle.std.specs.List.{list_any}
use Rattle.std.specs.Result.{result_err, result_map_both}
use Rattle.pb_records.specs.Records.{Rec}
use Rattle.pb_records.specs.Cells.{is_text}
use Rattle.pb_records.specs.FirstFault.{Form}

-- A kind of file. `F` are its faults, `H` is what the head states as far as it was read, and `Q` what a row states. Where
-- several faults stand at one record, `head`, `row` and `admit` say the one with the lowest number, and those of `row`
-- have lower numbers than those of `admit`.
pub record Kind (F H Q : Type 0) : Type 0 where
  pub start : H  -- before the first record
  pub is_whole : H → Bool  -- no more head record is to come
  pub head : H → Rec → Result H F  -- after one more head record, or its fault
  pub row : Rec → Result Q F  -- what a row states, or the fault that it has by itself
  pub admit : List Q → Q → Option F  -- the fault that a row has behind others
  pub not_text : F  -- the fault of a record that is not UTF-8
  pub cut : F  -- the fault of the end before the head is whole

-- what a file states, as far as it was read
pub record SoFar (H Q : Type 0) : Type 0 where
  pub head : H
  pub rows : List Q

abbrev pub nothing : {F H Q : Type 0} → Kind F H Q → SoFar H Q
nothing k = record { head = k.start; rows = [] }

-- the rows with one more, by the fault that it has behind them
abbrev pub with_row : {F Q : Type 0} → List Q → Q → Option F → Result (List Q) F
with_row qs q None = Ok (qs ++ (q ∷ []))
with_row qs q (Some f) = Err f

-- the rows after one more that states this, or has a fault by itself
abbrev pub rows_after : {F Q : Type 0} → (List Q → Q → Option F) → List Q → Result Q F → Result (List Q) F
rows_after admit qs (Ok q) = with_row qs q (admit qs q)
rows_after admit qs (Err f) = Err f

-- what a file states after one more record, or the fault that it has there
abbrev pub after : {F H Q : Type 0} → Kind F H Q → SoFar H Q → Rec → Result (SoFar H Q) F
after k s r =
    if k.is_whole s.head
    then result_map_both (λ qs. record { head = s.head; rows = qs }) (λ f. f) (rows_after k.admit s.rows (k.row r))
    else result_map_both (λ h. record { head = h; rows = s.rows }) (λ f. f) (k.head s.head r)

-- what it states after some records, none of them blank, or their first fault
abbrev pub after_all : {F H Q : Type 0} → Kind F H Q → List Rec → Result (SoFar H Q) F → Result (SoFar H Q) F
after_all k [] so_far = so_far
after_all k (r ∷ rs) (Ok s) = after_all k rs (after k s r)
after_all k (r ∷ rs) (Err f) = Err f

abbrev pub so_far : {F H Q : Type 0} → Kind F H Q → List Rec → Result (SoFar H Q) F
so_far k before = after_all k before (Ok (nothing k))

-- the fault of a record behind these, and of the end; behind a fault none is looked for
abbrev pub record_fault : {F H Q : Type 0} → Kind F H Q → Rec → Result (SoFar H Q) F → Option F
record_fault k r (Ok s) = result_err (after k s r)
record_fault k r (Err f) = None

abbrev pub end_fault : {F H Q : Type 0} → Kind F H Q → Result (SoFar H Q) F → Option F
end_fault k (Ok s) = if k.is_whole s.head then None else Some k.cut
end_fault k (Err f) = None

-- which fault stands where in a file of the kind
abbrev pub headed_form : {F H Q : Type 0} → Kind F H Q → Form F
headed_form k before (Some r) = if is_text r then record_fault k r (so_far k before) else Some k.not_text
headed_form k before None = end_fault k (so_far k before)

-- the fault of a row that repeats one before it, by when two rows say the same
abbrev pub unless_repeated : {F Q : Type 0} → F → (Q → Q → Bool) → List Q → Q → Option F
unless_repeated fault same qs q = if list_any (same q) qs then Some fault else None
