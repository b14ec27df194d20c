-- For the readers' own parts: what was taken of a file that begins with head records, and what a draft has of it. What
-- such a file states, and which fault stands where, is said without this module.
use Rattle.std.specs.Prelude.{◌≡◌, ◌++◌, ⊤, IsTrue, false, List, [], ◌∷◌, map, None, MatchResult, Result, Ok, Err}
use Rattle.std.specs.List.{AllByRecursion}
use Rattle.std.specs.Result.{result_map_both}
use Rattle.pb_records.specs.Records.{Rec}
use Rattle.pb_records.specs.Cells.{is_text}
use Rattle.pb_records.specs.Headed.{Kind, SoFar, after}

-- these head records, one after another, state this
abbrev pub HeadsState : {F H Q : Type 0} → Kind F H Q → H → List Rec → H → Type 0
HeadsState k h [] last = h ≡ last
HeadsState {F} {H} {Q} k h (r ∷ rs) last =
    (next : H) × (k.is_whole h ≡ false) × (k.head h r ≡ Ok next) × HeadsState k next rs last

-- each of these rows may stand behind those before it
abbrev pub Follow : {F H Q : Type 0} → Kind F H Q → List Q → List Q → Type 0
Follow k done [] = ⊤
Follow k done (q ∷ qs) = (k.admit done q ≡ None) × Follow k (done ++ (q ∷ [])) qs

-- these records, none of them blank, have no fault and state this
pub record Taken {F H Q : Type 0} (k : Kind F H Q) (before : List Rec) (s : SoFar H Q) : Type 0 where
  pub heads : List Rec
  pub rows : List Rec
  pub cut : before ≡ heads ++ rows
  pub text : AllByRecursion (λ r. IsTrue (is_text r)) before
  pub heads_state : HeadsState k k.start heads s.head
  pub behind : k.is_whole s.head ≡ false → (rows ≡ []) × (s.rows ≡ [])
  pub rows_state : map k.row rows ≡ map Ok s.rows
  pub follow : Follow k [] s.rows

-- a call that changes something ended as this says: with what is new, or with the fault
abbrev pub EndsAs : {A F : Type 0} → Result A F → Result ⊤ F → A → Type 0
EndsAs after result new = MatchResult result (λ done. after ≡ Ok new) (λ f. after ≡ Err f)

-- Here `keep` is what a draft keeps of the rows, and what it has is the head and that.

-- what is there of a file, as a draft has it
abbrev pub kept : {H Q K : Type 0} → (List Q → K) → SoFar H Q → H × K
kept keep s = (s.head, keep s.rows)

-- a draft that had this has what one more record gives, or the fault of the record was told
abbrev pub Steps : {F H Q K : Type 0} → Kind F H Q → (List Q → K) → H × K → H × K → Rec → Result ⊤ F → Type 0
Steps {F} {H} {Q} k keep old new r result =
    (s : SoFar H Q) → old ≡ kept keep s → EndsAs (result_map_both (kept keep) (λ f. f) (after k s r)) result new

-- a draft that has this has taken these records, none of them blank
abbrev pub HasTaken : {F H Q K : Type 0} → Kind F H Q → (List Q → K) → H × K → List Rec → Type 0
HasTaken {F} {H} {Q} k keep has before = (s : SoFar H Q) × Taken k before s × (has ≡ kept keep s)
