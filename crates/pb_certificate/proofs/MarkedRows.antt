-- The marks of what the rows of violation certificates and outcome files name.
use Rattle.std.proofs.Common.{◌≡◌, ◌∙◌, ℕ, Bool, true, false, cond, List, [], ◌∷◌, ◌++◌, length, refl, ap, Option, Some, None}
use Rattle.std.specs.Prelude.{◌==◌, ◌||◌, Ok, Err, codes, is_some}
use Rattle.std.specs.Option.{ok_or, option_map}
use Rattle.std.specs.Result.{result_map_both}
use Rattle.std.specs.Str.{bytes_eq}
use Rattle.std.proofs.lemmas.Bool.{eq-eqb, ne_eqb}
use Rattle.std.proofs.lemmas.List.Folds.{list_any-append}
use Rattle.std.proofs.lemmas.Slice.Eq.{bytes_eq-Decides}
use Rattle.std.proofs.Math.Bool.{or-false, or-true}
use Rattle.pb_election.specs.Instance.{Instance, IsProject, IsVoter, projects, voters}
use Rattle.pb_records.specs.Records.{Field, Rec}
use Rattle.pb_records.specs.Cells.{cell}
use Rattle.pb_records.specs.Headed.{rows_after, unless_repeated, with_row}
use Rattle.pb_certificate.specs.Fields.{fields, project_in, voter_in, whole_in}
use Rattle.pb_certificate.specs.Inside.Violations.{both_marks, with_demand, with_group}
use Rattle.pb_certificate.specs.Inside.Marks.{is_marked, marks_after, project_after, project_marks, voter_after, voter_marks, with_mark}
use Rattle.pb_certificate.specs.NamedRows.{Named, is_kind, named_by, named_of, project_named, same_named, voter_named, was_named}
use Rattle.pb_certificate.specs.NamedRows.Named.{Voter, Project}
use Rattle.pb_certificate.specs.declared.refusal.CertFault.TheVariants as fault
use Rattle.pb_election.proofs.Elections.{found_is}
use Rattle.pb_certificate.proofs.Heads.{pair-is}
use Rattle.pb_certificate.proofs.MarkLemmas.{mark-is, one-more-mark, same-marks}
use Rattle.pb_certificate.proofs.OnPrices.Texts.{within-some}

-- rows of these cells
pub voter-states : (e : Instance) (r : Rec) (i : ℕ) → (length (fields r) == 2) ≡ true → is_kind (codes "voter") r ≡ true
    → voter_in e (cell 1 r) ≡ Some i → named_of e r ≡ Some (Voter i)
voter-states e r i two voter named = ap (named_by e) (pair-is r two) ∙ rw voter (ap (option_map Voter) named)

pub project-states : (e : Instance) (r : Rec) (j : ℕ) → (length (fields r) == 2) ≡ true → is_kind (codes "project") r ≡ true
    → project_in e (cell 1 r) ≡ Some j → named_of e r ≡ Some (Project j)
project-states e r j two project named =
    let no_voter : is_kind (codes "voter") r ≡ false =
    ap (λ k. bytes_eq k (codes "voter")) ((bytes_eq-Decides (cell 0 r) (codes "project")).0 project) in
    ap (named_by e) (pair-is r two) ∙ rw (no_voter, project) (ap (option_map Project) named)

-- The marks where one more is named.

named-more : (names : List Named) (x y : Named)
    → was_named (names ++ (x ∷ [])) y ≡ (was_named names y || same_named y x)
named-more names x y = list_any-append (same_named y) names (x ∷ [])
    ∙ ap (λ b. was_named names y || b) (or-false (same_named y x))

-- the marks of the voters and of the projects, where one more is named
voters-more : (e : Instance) (names : List Named) (i : ℕ) → IsVoter e i
    → with_mark (voter_marks e names) i ≡ voter_marks e (names ++ (Voter i ∷ []))
voters-more e names i at =
    one-more-mark (λ k. was_named names (Voter k)) (λ k. was_named (names ++ (Voter i ∷ [])) (Voter k)) (voters e) i
    at.0 at.1
    (named-more names (Voter i) (Voter i) ∙ rw (eq-eqb i i refl) (or-true (was_named names (Voter i))))
    (λ k other. named-more names (Voter i) (Voter k) ∙ rw (ne_eqb k i other) (or-false (was_named names (Voter k))))

voters-kept : (e : Instance) (names : List Named) (j : ℕ)
    → voter_marks e names ≡ voter_marks e (names ++ (Project j ∷ []))
voters-kept e names j =
    same-marks (λ k. was_named names (Voter k)) (λ k. was_named (names ++ (Project j ∷ [])) (Voter k)) (voters e)
    (λ k. named-more names (Project j) (Voter k) ∙ or-false (was_named names (Voter k)))

projects-more : (e : Instance) (names : List Named) (j : ℕ) → IsProject e j
    → with_mark (project_marks e names) j ≡ project_marks e (names ++ (Project j ∷ []))
projects-more e names j at =
    one-more-mark (λ k. was_named names (Project k)) (λ k. was_named (names ++ (Project j ∷ [])) (Project k))
    (projects e) j at.0 at.1
    (named-more names (Project j) (Project j) ∙ rw (eq-eqb j j refl) (or-true (was_named names (Project j))))
    (λ k other. named-more names (Project j) (Project k)
    ∙ rw (ne_eqb k j other) (or-false (was_named names (Project k))))

projects-kept : (e : Instance) (names : List Named) (i : ℕ)
    → project_marks e names ≡ project_marks e (names ++ (Voter i ∷ []))
projects-kept e names i =
    same-marks (λ k. was_named names (Project k)) (λ k. was_named (names ++ (Voter i ∷ [])) (Project k)) (projects e)
    (λ k. named-more names (Voter i) (Project k) ∙ or-false (was_named names (Project k)))

-- What marking gives is what the names give with one more.

marked-project : (e : Instance) (names : List Named) (j : ℕ) → IsProject e j
    → cond (is_marked (project_marks e names) j) (Err fault.Repeated) (Ok (with_mark (project_marks e names) j))
    ≡ result_map_both (project_marks e) (λ f. f)
    (with_row names (Project j) (unless_repeated fault.Repeated same_named names (Project j)))
marked-project e names j at =
    rw (mark-is (λ k. was_named names (Project k)) (projects e) j at.0 at.1, projects-more e names j at)
    (by (was_named names (Project j)))
  where
    by : (b : Bool) → cond b (Err fault.Repeated) (Ok (project_marks e (names ++ (Project j ∷ []))))
        ≡ result_map_both (project_marks e) (λ f. f) (with_row names (Project j) (cond b (Some fault.Repeated) None))
    by true = refl
    by false = refl

pub project-marked : (e : Instance) (names : List Named) (f : Field)
    → project_after e f (project_marks e names)
    ≡ result_map_both (project_marks e) (λ f. f)
    (rows_after (unless_repeated fault.Repeated same_named) names
    (project_named e f))
project-marked e names f = by (project_in e f) refl
  where
    by : (place : Option ℕ) → project_in e f ≡ place → marks_after fault.UnknownProject place (project_marks e names)
        ≡ result_map_both (project_marks e) (λ f. f)
        (rows_after (unless_repeated fault.Repeated same_named) names
        (ok_or (option_map Project place) fault.UnknownProject))
    by None is = refl
    by (Some j) is = marked-project e names j (found_is e f j is).0

marked-voter : (e : Instance) (names : List Named) (i : ℕ) → IsVoter e i
    → with_group (project_marks e names)
    (cond (is_marked (voter_marks e names) i) (Err fault.Repeated) (Ok (with_mark (voter_marks e names) i)))
    ≡ result_map_both (both_marks e) (λ f. f)
    (with_row names (Voter i) (unless_repeated fault.Repeated same_named names (Voter i)))
marked-voter e names i at =
    rw (mark-is (λ k. was_named names (Voter k)) (voters e) i at.0 at.1, voters-more e names i at)
    (by (was_named names (Voter i)))
  where
    by : (b : Bool)
        → with_group (project_marks e names)
        (cond b (Err fault.Repeated) (Ok (voter_marks e (names ++ (Voter i ∷ [])))))
        ≡ result_map_both (both_marks e) (λ f. f) (with_row names (Voter i) (cond b (Some fault.Repeated) None))
    by true = refl
    by false = ap (λ (ms : List Bool). Ok (voter_marks e (names ++ (Voter i ∷ [])), ms)) (projects-kept e names i)

pub voter-both : (e : Instance) (names : List Named) (f : Field)
    → with_group (project_marks e names) (voter_after e f (voter_marks e names))
    ≡ result_map_both (both_marks e) (λ f. f)
    (rows_after (unless_repeated fault.Repeated same_named) names (voter_named e f))
voter-both e names f = by (is_some (whole_in f)) (voter_in e f) refl
  where
    by : (digits : Bool) (place : Option ℕ) → voter_in e f ≡ place
        → with_group (project_marks e names)
        (cond digits (marks_after fault.UnknownVoter place (voter_marks e names)) (Err fault.BadNumber))
        ≡ result_map_both (both_marks e) (λ f. f)
        (rows_after (unless_repeated fault.Repeated same_named) names
        (cond digits (ok_or (option_map Voter place) fault.UnknownVoter) (Err fault.BadNumber)))
    by false place is = refl
    by true None is = refl
    by true (Some i) is = marked-voter e names i (within-some 1 (voters e) f i is)

pub project-both : (e : Instance) (names : List Named) (f : Field)
    → with_demand (voter_marks e names) (project_after e f (project_marks e names))
    ≡ result_map_both (both_marks e) (λ f. f)
    (rows_after (unless_repeated fault.Repeated same_named) names (project_named e f))
project-both e names f = ap (with_demand (voter_marks e names)) (project-marked e names f) ∙ by (project_in e f)
  where
    last : (j : ℕ) (b : Bool)
        → with_demand (voter_marks e names)
        (result_map_both (project_marks e) (λ f. f) (with_row names (Project j) (cond b (Some fault.Repeated) None)))
        ≡ result_map_both (both_marks e) (λ f. f) (with_row names (Project j) (cond b (Some fault.Repeated) None))
    last j true = refl
    last j false =
        ap (λ (ms : List Bool). Ok (ms, project_marks e (names ++ (Project j ∷ [])))) (voters-kept e names j)

    by : (place : Option ℕ)
        → with_demand (voter_marks e names)
        (result_map_both (project_marks e) (λ f. f)
        (rows_after (unless_repeated fault.Repeated same_named) names
        (ok_or (option_map Project place) fault.UnknownProject)))
        ≡ result_map_both (both_marks e) (λ f. f)
        (rows_after (unless_repeated fault.Repeated same_named) names
        (ok_or (option_map Project place) fault.UnknownProject))
    by None = refl
    by (Some j) = last j (was_named names (Project j))
