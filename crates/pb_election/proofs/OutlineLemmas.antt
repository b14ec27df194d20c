-- The role behind one more record.
use Rattle.std.proofs.Common.{◌≡◌, ◌++◌, List, [], ◌∷◌, refl, Bool, true, false, Option, Some, None}
use Rattle.std.specs.Prelude.{if◌then◌else◌}
use Rattle.std.specs.Option.{option_map_or, option_or}
use Rattle.std.specs.List.{last_or}
use Rattle.pb_records.specs.Records.{Rec}
use Rattle.pb_election.specs.Markers.{is_marker, marker_of}
use Rattle.pb_election.specs.Outline.{last_marked, role_behind, role_by}
use Rattle.pb_election.specs.declared.sections.RecordRole.{RecordRole}
use Rattle.pb_election.specs.declared.sections.RecordRole.TheVariants.{Header, Inside}
use Rattle.pb_election.specs.declared.sections.Section.{Section}

last-append : {A : Type 0} (o : Option A) (xs : List A) (x : A) → last_or o (xs ++ x ∷ []) ≡ Some x
last-append o [] x = refl
last-append o (y ∷ ys) x = last-append (Some y) ys x

or-assoc : (a b c : Option Section) → option_or (option_or a b) c ≡ option_or a (option_or b c)
or-assoc None b c = refl
or-assoc (Some s) b c = refl

or-none : (a : Option Section) → option_or None a ≡ option_or a None
or-none None = refl
or-none (Some s) = refl

marked-append : (before : List Rec) (r : Rec)
    → last_marked (before ++ r ∷ []) ≡ option_or (marker_of r) (last_marked before)
unfolding last_marked
marked-append [] r = or-none (marker_of r)
marked-append (x ∷ xs) r =
    rw (marked-append xs r) (or-assoc (marker_of r) (last_marked xs) (marker_of x))

-- the role behind a record that marks a section or none, where that of the record was another
abbrev pub next_by : Option Section → RecordRole → RecordRole
next_by (Some s) role = Header s
next_by None (Header s) = Inside s
next_by None role = role

next-inside : (s : Section) (b : Bool) → Inside s ≡ next_by None (if b then Header s else Inside s)
next-inside s true = refl
next-inside s false = refl

role-next : (m : Option Section) (l : Option Section) (last : Option Rec) (r : Rec) → marker_of r ≡ m
    → role_by (option_or m l) (Some r) ≡ next_by m (role_by l last)
role-next (Some s) l last r e = rw e refl
role-next None None last r e = refl
role-next None (Some s) last r e = rw e (next-inside s (option_map_or is_marker last false))

pub role_append : (before : List Rec) (r : Rec)
    → role_behind (before ++ r ∷ []) ≡ next_by (marker_of r) (role_behind before)
role_append before r =
    rw (marked-append before r, last-append None before r)
    (role-next (marker_of r) (last_marked before) (last_or None before) r refl)
