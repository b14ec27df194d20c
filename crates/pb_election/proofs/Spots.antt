-- Where a record stands in a whole text.
use Rattle.std.proofs.Common.{◌≡◌, ◌+◌, ◌++◌, ℕ, suc, zero, List, [], ◌∷◌, refl, ap, arith, Option, Some, None, take, drop}
use Rattle.std.specs.Prelude.{count_by, slice_get, if◌then◌else◌}
use Rattle.std.specs.List.{last_or}
use Rattle.std.proofs.lemmas.List.Sums.{sum_by-append}
use Rattle.pb_records.specs.Records.{Rec}
use Rattle.pb_election.specs.declared.sections.RecordRole.TheVariants.{Header, Inside}
use Rattle.pb_election.specs.declared.sections.Section.{Section}
use Rattle.pb_election.specs.Markers.{is_marker, marker_of}
use Rattle.pb_election.specs.Faults.{role_after, role_of, section_of}
use Rattle.pb_election.specs.Text.{Part, part_records}
use Rattle.pb_election.proofs.FoundParts.{NoMarkers}

-- a record in a section that is followed by a rest, or in that rest
pub data Spot (a : Part) (rest before : List Rec) (r : Rec) (left : List Rec) : Type 0 where
  at_marker : before ≡ [] → r ≡ a.marker → Spot a rest before r left
  at_header : before ≡ a.marker ∷ [] → r ≡ a.header → Spot a rest before r left
  at_row : (zs xs : List Rec) → before ≡ a.marker ∷ a.header ∷ xs → a.rows ≡ xs ++ r ∷ zs → Spot a rest before r left
  in_rest : (more : List Rec) → before ≡ part_records a ++ more → more ++ r ∷ left ≡ rest → Spot a rest before r left

pub data InRows (rows rest before : List Rec) (r : Rec) (left : List Rec) : Type 0 where
  here : (zs : List Rec) → rows ≡ before ++ r ∷ zs → InRows rows rest before r left
  later : (more : List Rec) → before ≡ rows ++ more → more ++ r ∷ left ≡ rest → InRows rows rest before r left

in-rows : (rows rest before : List Rec) (r : Rec) (left : List Rec) → before ++ r ∷ left ≡ rows ++ rest
    → InRows rows rest before r left
in-rows [] rest before r left h = later before refl h
in-rows (x ∷ xs) rest [] r left h = let e : x ≡ r = cc h in here xs (rw e refl)
in-rows (x ∷ xs) rest (y ∷ ys) r left h =
    let e : y ≡ x = cc h in
    elim (in-rows xs rest ys r left (cc h)) [
      | here zs k ↦ here zs (rw (e, k) refl)
      | later more k l ↦ later more (rw (e, k) refl) l
    ]

pub spot : (a : Part) (rest before : List Rec) (r : Rec) (left : List Rec) → before ++ r ∷ left ≡ part_records a ++ rest
    → Spot a rest before r left
spot a rest [] r left h = at_marker refl (cc h)
spot a rest (x ∷ []) r left h = let e : x ≡ a.marker = cc h in at_header (rw e refl) (cc h)
spot a rest (x ∷ y ∷ ys) r left h =
    let e : x ≡ a.marker = cc h in
    let f : y ≡ a.header = cc h in
    elim (in-rows a.rows rest ys r left (cc h)) [
      | here zs k ↦ at_row zs ys (rw (e, f) refl) k
      | later more k l ↦ in_rest more (rw (e, f, k) refl) l
    ]

-- Roles.

pub count-append : (xs ys : List Rec) → count_by is_marker (xs ++ ys) ≡ count_by is_marker xs + count_by is_marker ys
count-append xs ys = sum_by-append (λ x. if is_marker x then 1 else 0) xs ys

pub count-none : (xs : List Rec) → NoMarkers xs → count_by is_marker xs ≡ 0
count-none [] h = refl
count-none (r ∷ rs) h = rw h.0 (omega (arith, count-none rs h.1))

pub count-behind : (s : Section) (m : Rec) (xs : List Rec) → marker_of m ≡ Some s → NoMarkers xs
    → count_by is_marker (m ∷ xs) ≡ 1
count-behind s m xs e h =
    let one : count_by is_marker (m ∷ []) ≡ 1 = rw e refl in
    omega (arith, count-append (m ∷ []) xs, count-none xs h, one)

last-append : (o : Option Rec) (xs ys : List Rec) → last_or o (xs ++ ys) ≡ last_or (last_or o xs) ys
last-append o [] ys = refl
last-append o (x ∷ xs) ys = last-append (Some x) xs ys

role-inside : (o : Option Rec) (h : Rec) (rows : List Rec) (n : ℕ) → NoMarkers (h ∷ rows)
    → role_after (last_or o (h ∷ rows)) n ≡ Inside (section_of n)
role-inside o h [] n k = rw k.0 refl
role-inside o h (r ∷ rs) n k = role-inside (Some h) r rs n k.1

-- behind the marker of a section, and behind its header
pub role-header : (xs : List Rec) (s : Section) (m : Rec) → marker_of m ≡ Some s
    → role_of (xs ++ m ∷ []) ≡ Header (section_of (count_by is_marker xs + 1))
unfolding role_of
role-header xs s m e = grind (arith, last-append, count-append, count-behind)

pub role-rows : (xs : List Rec) (s : Section) (m h : Rec) (rows : List Rec) → marker_of m ≡ Some s
    → NoMarkers (h ∷ rows) → role_of (xs ++ m ∷ h ∷ rows) ≡ Inside (section_of (count_by is_marker xs + 1))
unfolding role_of
role-rows xs s m h rows e k =
    rw (last-append None xs (m ∷ h ∷ rows), count-append xs (m ∷ h ∷ rows), count-behind s m (h ∷ rows) e k)
    (role-inside (Some m) h rows (count_by is_marker xs + 1) k)

-- Places.

pub at-place : (recs : List Rec) (k : ℕ) (r : Rec) → slice_get recs k ≡ Some r
    → recs ≡ take k recs ++ r ∷ drop (suc k) recs
at-place [] k r h = cc h
at-place (x ∷ xs) zero r h = let e : x ≡ r = cc h in rw e refl
at-place (x ∷ xs) (suc k) r h = ap (λ l. x ∷ l) (at-place xs k r h)

pub past-end : (recs : List Rec) (k : ℕ) → slice_get recs k ≡ None → take k recs ≡ recs
past-end [] k h = nothing k
  where
    nothing : (k : ℕ) → ◌≡◌ {A = List Rec} (take k []) []
    nothing zero = refl
    nothing (suc k) = refl
past-end (x ∷ xs) zero h = cc h
past-end (x ∷ xs) (suc k) h = ap (λ l. x ∷ l) (past-end xs k h)
