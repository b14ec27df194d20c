-- Which section a record marks, by its cells.
use Rattle.std.proofs.Common.{◌≡◌, [], ◌∷◌, refl, true, false, Some, None, drop}
use Rattle.csv.specs.Records.{field_at}
use Rattle.pb_records.specs.Cells.{clean, is_blank}
use Rattle.pb_records.specs.Records.{Field, Rec}
use Rattle.pb_election.specs.Markers.{marker_of, section_named}
use Rattle.pb_election.specs.Names.{lower}

pub marker-none : (fs : Rec) → field_at fs 0 ≡ None → marker_of fs ≡ None
unfolding marker_of field_at
marker-none [] e = refl
marker-none (f ∷ fs) e = cc e

pub marker-full : (fs : Rec) → is_blank (drop 1 fs) ≡ false → marker_of fs ≡ None
unfolding marker_of
marker-full [] e = refl
marker-full (f ∷ fs) e = rw e refl

pub marker-named : (fs : Rec) (f : Field) → field_at fs 0 ≡ Some f → is_blank (drop 1 fs) ≡ true
    → marker_of fs ≡ section_named (lower (clean f))
unfolding marker_of field_at
marker-named [] f e b = cc e
marker-named (g ∷ fs) f e b =
    let s : g ≡ f = cc e in
    rw (b, s) refl
