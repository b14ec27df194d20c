-- What the words on the records before a place find in each beginning of a text is what has been read of it.
use Rattle.std.proofs.Common.{◌≡◌, ◌∙◌, ◌++◌, List, [], ◌∷◌, refl, sym, ap, arith, true, false, Some, append_assoc, append-nil}
use Rattle.std.specs.Prelude.{count_by}
use Rattle.std.proofs.lemmas.List.{length-map}
use Rattle.std.proofs.Math.Path.{fun_ext}
use Rattle.pb_records.specs.Records.{Rec}
use Rattle.pb_election.specs.declared.sections.RecordRole.{RecordRole}
use Rattle.pb_election.specs.declared.sections.RecordRole.TheVariants.{First, Header, Inside}
use Rattle.pb_election.specs.declared.sections.Section.{Section}
use Rattle.pb_election.specs.declared.sections.Section.TheVariants.{Meta, Projects, Votes}
use Rattle.pb_election.specs.Markers.{is_marker, marker_of, marks, same_section}
use Rattle.pb_election.specs.Faults.{before_of, behind_marker, first_of, rest_of, role_of, up_to_marker}
use Rattle.pb_election.specs.Text.{IsPart, Part, part_records}
use Rattle.pb_election.specs.Inside.SoFar.{before_next}
use Rattle.pb_election.specs.Inside.Beginnings.{Beginning, AtStart, AfterMeta, InMeta, AfterProjects, InProjects, AfterVotes, InVotes, Good, no_part, so_far_in, so_far_of, beginning_records}
use Rattle.pb_election.proofs.KeyLemmas.{has_stood-is}
use Rattle.pb_election.proofs.FoundParts.{behind, behind-here, found, past, up-all, up-part}
use Rattle.pb_election.proofs.Spots.{count-append, count-behind, role-header, role-rows}

marks-its : (s : Section) (r : Rec) → marker_of r ≡ Some s → marks s r ≡ true
marks-its s r e = grind arith

found-nil : (s : Section) → found s [] ≡ []
unfolding behind_marker up_to_marker
found-nil s = refl

-- the section that a list of records begins with, up to its end or up to the next marker
found-all : (s : Section) (a : Part) → IsPart s a → found s (part_records a) ≡ behind a
found-all s a h = grind (arith, behind-here, marks-its, up-all)

found-part : (s : Section) (a : Part) (m : Rec) (rest : List Rec) → IsPart s a → is_marker m ≡ true
    → found s (part_records a ++ m ∷ rest) ≡ behind a
found-part s a m rest h e =
    ap up_to_marker (behind-here s a.marker (behind a ++ m ∷ rest) (marks-its s a.marker h.marker))
    ∙ up-part (behind a) m rest h.others e

-- a marker with nothing behind it
found-mark : (s : Section) (m : Rec) → found s (m ∷ []) ≡ []
unfolding behind_marker up_to_marker
found-mark s m = grind arith

-- a section that is not there
found-none : (s t : Section) (a : Part) → IsPart t a → same_section s t ≡ false → found s (part_records a) ≡ []
found-none s t a h d =
    let e : part_records a ++ [] ≡ part_records a = append-nil (part_records a) in
    ap (found s) (sym e) ∙ ap up_to_marker (past s a t [] h d) ∙ found-nil s

-- behind another section
found-past : (s t : Section) (a : Part) (rest : List Rec) → IsPart t a → same_section s t ≡ false
    → found s (part_records a ++ rest) ≡ found s rest
found-past s t a rest h d = ap up_to_marker (past s a t rest h d)

is-mark : (s : Section) (r : Rec) → marker_of r ≡ Some s → is_marker r ≡ true
is-mark s r e = rw e refl

pub count-part : (s : Section) (a : Part) → IsPart s a → count_by is_marker (part_records a) ≡ 1
count-part s a h = count-behind s a.marker (behind a) h.marker h.others

pub count-two : (a b : Part) → IsPart Meta a → IsPart Projects b
    → count_by is_marker (part_records a ++ part_records b) ≡ 2
count-two a b h k =
    omega (arith, count-append (part_records a) (part_records b), count-part Meta a h, count-part Projects b k)

role-first : role_of [] ≡ First
unfolding role_of
role-first = refl

-- what is seen, by what is found of each section
seen-found : (recs : List Rec) (role : RecordRole) (a b c : Part) (A B C : List Rec) → role_of recs ≡ role
    → found Meta recs ≡ A → found Projects recs ≡ B → found Votes recs ≡ C
    → rest_of A ≡ a.rows → first_of B ≡ b.header → rest_of B ≡ b.rows → first_of C ≡ c.header → rest_of C ≡ c.rows
    → before_of recs ≡ before_next (so_far_in role a b c)
unfolding before_of
seen-found recs role a b c A B C r fa fb fc am bh bm ch cm = grind (arith, length-map, fun_ext, has_stood-is)

pub before-text : (x : Beginning) → Good x → before_of (beginning_records x) ≡ before_next (so_far_of x)
before-text AtStart h =
    seen-found [] First no_part no_part no_part [] [] [] role-first (found-nil Meta) (found-nil Projects)
    (found-nil Votes) refl refl refl refl refl
before-text (AfterMeta r) h =
    seen-found (r ∷ []) (Header Meta) no_part no_part no_part [] [] [] (role-header [] Meta r h) (found-mark Meta r)
    (found-mark Projects r) (found-mark Votes r) refl refl refl refl refl
before-text (InMeta a) h =
    seen-found (part_records a) (Inside Meta) a no_part no_part (behind a) [] []
    (role-rows [] Meta a.marker a.header a.rows h.part.marker h.part.others)
    (found-all Meta a h.part) (found-none Projects Meta a h.part refl) (found-none Votes Meta a h.part refl) refl refl
    refl refl refl
before-text (AfterProjects a r) h =
    let p = h.0.part in
    seen-found (part_records a ++ (r ∷ [])) (Header Projects) a no_part no_part (behind a) [] []
    (role-header (part_records a) Projects r h.1 ∙ rw (count-part Meta a p) refl)
    (found-part Meta a r [] p (is-mark Projects r h.1))
    (found-past Projects Meta a (r ∷ []) p refl ∙ found-mark Projects r)
    (found-past Votes Meta a (r ∷ []) p refl ∙ found-mark Votes r)
    refl refl refl refl refl
before-text (InProjects a b) h =
    let p = h.0.part in
    let q = h.1.part in
    seen-found (part_records a ++ part_records b) (Inside Projects) a b no_part (behind a) (behind b) []
    (role-rows (part_records a) Projects b.marker b.header b.rows q.marker q.others ∙ rw (count-part Meta a p) refl)
    (found-part Meta a b.marker (behind b) p (is-mark Projects b.marker q.marker))
    (found-past Projects Meta a (part_records b) p refl ∙ found-all Projects b q)
    (found-past Votes Meta a (part_records b) p refl ∙ found-none Votes Projects b q refl)
    refl refl refl refl refl
before-text (AfterVotes a b r) h =
    let p = h.0.part in
    let q = h.1.part in
    let rest = part_records b ++ (r ∷ []) in
    seen-found (part_records a ++ rest) (Header Votes) a b no_part (behind a) (behind b) []
    (ap role_of (sym (append_assoc (part_records a) (part_records b) (r ∷ [])))
    ∙ role-header (part_records a ++ part_records b) Votes r h.2 ∙ rw (count-two a b p q) refl)
    (found-part Meta a b.marker (behind b ++ (r ∷ [])) p (is-mark Projects b.marker q.marker))
    (found-past Projects Meta a rest p refl ∙ found-part Projects b r [] q (is-mark Votes r h.2))
    (found-past Votes Meta a rest p refl ∙ found-past Votes Projects b (r ∷ []) q refl ∙ found-mark Votes r)
    refl refl refl refl refl
before-text (InVotes a b c) h =
    let p = h.0.part in
    let q = h.1.part in
    let v = h.2.part in
    let rest = part_records b ++ part_records c in
    seen-found (part_records a ++ rest) (Inside Votes) a b c (behind a) (behind b) (behind c)
    (ap role_of (sym (append_assoc (part_records a) (part_records b) (part_records c)))
    ∙ role-rows (part_records a ++ part_records b) Votes c.marker c.header c.rows v.marker v.others
    ∙ rw (count-two a b p q) refl)
    (found-part Meta a b.marker (behind b ++ part_records c) p (is-mark Projects b.marker q.marker))
    (found-past Projects Meta a rest p refl
    ∙ found-part Projects b c.marker (behind c) q (is-mark Votes c.marker v.marker))
    (found-past Votes Meta a rest p refl ∙ found-past Votes Projects b (part_records c) q refl ∙ found-all Votes c v)
    refl refl refl refl refl
