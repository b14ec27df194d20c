-- Records without a fault are the text of a measure, a group and a demand.
use Rattle.std.proofs.Common.{◌≡◌, ◌∙◌, Bool, List, ℕ, ap, inl, inr, length}
use Rattle.std.specs.Prelude.{◌⊎◌}
use Rattle.std.proofs.lemmas.List.FromFn.{length-map-range_with_len}
use Rattle.pb_election.specs.Instance.{Instance, projects, voters}
use Rattle.pb_records.specs.Records.{Rec}
use Rattle.pb_records.specs.Cells.{nonblank}
use Rattle.pb_records.specs.FirstFault.{NoFault}
use Rattle.pb_records.specs.Inside.Headed.{HasTaken}
use Rattle.pb_records.proofs.FirstOrNone.{HasFirst}
use Rattle.pb_records.proofs.Headed.{all-kept, states-or-first}
use Rattle.pb_certificate.specs.Faults.{violation_form}
use Rattle.pb_certificate.specs.Inside.Marks.{marked, project_marks, voter_marks}
use Rattle.pb_certificate.specs.Inside.Violations.{both_marks}
use Rattle.pb_certificate.specs.NamedRows.{was_named}
use Rattle.pb_certificate.specs.NamedRows.Named.{Project, Voter}
use Rattle.pb_certificate.specs.Violations.Kind.{ViolationHead, violation_kind}
use Rattle.pb_certificate.specs.Violations.Text.{IsViolationText}
use Rattle.pb_certificate.specs.declared.violations.measure.Measure.{Measure}
use Rattle.pb_certificate.proofs.OnViolations.Texts.{states-text}

pub group-answered : (recs : List Rec) (e : Instance)
    → ((m : Measure) × (s : List ℕ) × (t : List ℕ) × IsViolationText recs e m s t) ⊎ HasFirst (violation_form e) recs
unfolding violation_form
group-answered recs e = elim (states-or-first (violation_kind e) recs) [
  | inl s ↦ inl (
    s.so_far.head.measure,
    marked (voter_marks e s.so_far.rows),
    marked (project_marks e s.so_far.rows),
    states-text recs e s,
  )
  | inr first ↦ inr first
]

-- what a draft has: the head, and both lists of marks
abbrev pub Had : Type 0
Had = ViolationHead × (List Bool × List Bool)

-- there is a mark for each voter and for each project
pub as-many : (e : Instance) (had : Had) (before : List Rec) → HasTaken (violation_kind e) (both_marks e) had before
    → (length had.1.0 ≡ voters e) × (length had.1.1 ≡ projects e)
as-many e had before h =
    let names = h.0.rows in (
      ap (λ (x : Had). length x.1.0) h.2 ∙ length-map-range_with_len (λ i. was_named names (Voter i)) 1 (voters e),
      ap (λ (x : Had). length x.1.1) h.2 ∙ length-map-range_with_len (λ j. was_named names (Project j)) 1 (projects e),
    )

-- what a draft has that took all records states them
pub states-claim : (e : Instance) (had : Had) (recs : List Rec) (m : Measure) (s t : List ℕ)
    → HasTaken (violation_kind e) (both_marks e) had (nonblank recs) → NoFault (violation_form e) recs
    → m ≡ had.0.measure → s ≡ marked had.1.0 → t ≡ marked had.1.1 → IsViolationText recs e m s t
unfolding violation_form
states-claim e had recs m s t taken none is g k =
    let all = all-kept (violation_kind e) (both_marks e) had recs taken none in
    let measure = is ∙ ap (λ (x : Had). x.0.measure) all.1 in
    let group = g ∙ ap (λ (x : Had). marked x.1.0) all.1 in
    let demand = k ∙ ap (λ (x : Had). marked x.1.1) all.1 in
    rw (measure, group, demand) (states-text recs e all.0)
