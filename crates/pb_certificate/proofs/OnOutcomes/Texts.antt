-- The text of an outcome file is what its records state, one after another.
use Rattle.std.proofs.Common.{◌≡◌, ◌∙◌, ℕ, Bool, true, false, cond, List, [], ◌∷◌, ◌++◌, length, refl, sym, ap, Option, Some, None}
use Rattle.std.specs.Prelude.{◌==◌, ◌&&◌, Ok, Err, codes}
use Rattle.std.specs.Option.{ok_or, option_map}
use Rattle.std.specs.Result.{result_map_both}
use Rattle.pb_election.specs.Instance.{Instance}
use Rattle.pb_records.specs.Headed.{SoFar, rows_after, unless_repeated}
use Rattle.pb_records.specs.Records.{Rec}
use Rattle.pb_records.specs.Cells.{cell, nonblank}
use Rattle.pb_records.specs.Inside.Headed.{HeadsState, Taken}
use Rattle.pb_records.proofs.Headed.{States, distinct-follow, follow-distinct}
use Rattle.pb_records.proofs.Lists.{map-each, map-link}
use Rattle.pb_certificate.specs.Fields.{fields, project_in, same_fields}
use Rattle.pb_certificate.specs.Inside.Marks.{project_after, project_marks}
use Rattle.pb_certificate.specs.Inside.Outcomes.{after_outcome_row}
use Rattle.pb_certificate.specs.NamedRows.{Named, is_kind, is_project, named_of, project_named, same_named}
use Rattle.pb_certificate.specs.NamedRows.Named.{Project, Voter}
use Rattle.pb_certificate.specs.Outcomes.Kind.{is_outcome_row, outcome_head, outcome_kind, outcome_row}
use Rattle.pb_certificate.specs.Outcomes.Text.{IsOutcomeText}
use Rattle.pb_certificate.specs.declared.refusal.CertFault.TheVariants as fault
use Rattle.pb_certificate.proofs.Heads.{same-is}
use Rattle.pb_certificate.proofs.MarkedRows.{project-marked, project-states}
use Rattle.pb_certificate.proofs.NamedRows.{project-kind, row-of, row-project, turn}

-- The head.

record Begins (rows before : List Rec) : Type 0 where
  head : Rec
  is_head : fields head ≡ codes "pb-outcome" ∷ codes "1" ∷ []
  cut : before ≡ head ∷ rows

head-was : (r : Rec) (begun : Bool) → outcome_head r ≡ Ok begun
    → (fields r ≡ codes "pb-outcome" ∷ codes "1" ∷ []) × (begun ≡ true)
head-was r begun h = by (same_fields (fields r) (codes "pb-outcome" ∷ codes "1" ∷ [])) refl h
  where
    by : (b : Bool) → same_fields (fields r) (codes "pb-outcome" ∷ codes "1" ∷ []) ≡ b
        → cond b (Ok true) (Err fault.BadHead) ≡ Ok begun
        → (fields r ≡ codes "pb-outcome" ∷ codes "1" ∷ []) × (begun ≡ true)
    by true is e = (same-is (fields r) (codes "pb-outcome" ∷ codes "1" ∷ []) is, cc e)
    by false is e = cc e

begins : (e : Instance) (before : List Rec) (s : SoFar Bool Named) (t : Taken (outcome_kind e) before s)
    → s.head ≡ true → Begins t.rows before
begins e before s t whole = by t.heads t.cut t.heads_state
  where
    by : (heads : List Rec) → before ≡ heads ++ t.rows → HeadsState (outcome_kind e) false heads s.head
        → Begins t.rows before
    by [] cut states = cc (whole, states)
    by (h ∷ []) cut states =
        record { head = h; is_head = (head-was h states.0 states.2).0; cut = cut }
    by (h ∷ g ∷ gs) cut states = let was = head-was h states.0 states.2 in let short = states.3.1 in cc (was.1, short)

-- What a row states.

row-names : (e : Instance) (r : Rec) (x : Named) → outcome_row e r ≡ Ok x
    → (named_of e r ≡ Some x) × (is_project x ≡ true)
row-names e r x h = by (length (fields r) == 2) (is_kind (codes "project") r) (project_in e (cell 1 r)) refl refl refl h
  where
    by : (two project : Bool) (place : Option ℕ) → (length (fields r) == 2) ≡ two → is_kind (codes "project") r ≡ project
        → project_in e (cell 1 r) ≡ place
        → cond (two && project) (ok_or (option_map Project place) fault.UnknownProject) (Err fault.BadRow) ≡ Ok x
        → (named_of e r ≡ Some x) × (is_project x ≡ true)
    by false project place is_two are is k = cc k
    by true false place is_two are is k = cc k
    by true true None is_two are is k = cc k
    by true true (Some j) is_two are is k = let same : Project j ≡ x = cc k in
        (project-states e r j is_two are is ∙ ap Some same, ap is_project (sym same))

names-row : (e : Instance) (r : Rec) (x : Named) → is_project x ≡ true → named_of e r ≡ Some x
    → outcome_row e r ≡ Ok x
names-row e r (Voter i) is named = cc is
names-row e r (Project j) is named =
    let row = row-of e r (Project j) named in
    rw (ap length row.shape, (project-kind e r j row).1, row-project e r j row) refl

-- The text.

pub text-states : (recs : List Rec) (e : Instance) (w : List Bool) → IsOutcomeText recs e w → States (outcome_kind e) recs
text-states recs e w t =
    record {
      so_far = record { head = true; rows = t.names };
      taken =
          record {
            heads = t.head ∷ [];
            rows = t.rows;
            cut = t.cut;
            text = t.text;
            heads_state = (true, refl, rw t.is_head refl, refl);
            behind = λ short. cc short;
            rows_state = map-link (λ x. is_project x ≡ true) (named_of e) Some (outcome_row e) Ok (names-row e) t.rows
                t.names t.projects_alone t.named.each_row;
            follow = distinct-follow (outcome_kind e) fault.Repeated same_named turn (λ qs q. refl) t.names t.named.once;
          };
      whole = refl;
    }

pub states-text : (recs : List Rec) (e : Instance) (s : States (outcome_kind e) recs)
    → IsOutcomeText recs e (project_marks e s.so_far.rows)
states-text recs e s =
    let t = s.taken in
    let names = s.so_far.rows in
    let b = begins e (nonblank recs) s.so_far t s.whole in
    let are = map-each (λ x. is_project x ≡ true) (outcome_row e) Ok (λ r x k. (row-names e r x k).1) t.rows names
    t.rows_state in
    record {
      head = b.head;
      rows = t.rows;
      names = names;
      cut = b.cut;
      text = t.text;
      is_head = b.is_head;
      named =
          record {
            each_row = map-link (λ x. is_project x ≡ true) (outcome_row e) Ok (named_of e) Some
                (λ r x is k. (row-names e r x k).0) t.rows names are t.rows_state;
            once = follow-distinct (outcome_kind e) fault.Repeated same_named turn (λ qs q. refl) names t.follow;
          };
      projects_alone = are;
      same_outcome = refl;
    }

-- What a draft has after one more row.

pub after-row : (e : Instance) (names : List Named) (r : Rec)
    → after_outcome_row e (project_marks e names) r
    ≡ result_map_both (project_marks e) (λ f. f)
    (rows_after (unless_repeated fault.Repeated same_named) names (outcome_row e r))
after-row e names r = by (is_outcome_row r)
  where
    by : (b : Bool) → cond b (project_after e (cell 1 r) (project_marks e names)) (Err fault.BadRow)
        ≡ result_map_both (project_marks e) (λ f. f)
        (rows_after (unless_repeated fault.Repeated same_named) names
        (cond b (project_named e (cell 1 r)) (Err fault.BadRow)))
    by true = project-marked e names (cell 1 r)
    by false = refl
