-- The text of a violation certificate is what its records state, one after another.
use Rattle.std.proofs.Common.{◌≡◌, ◌∙◌, ℕ, Bool, true, false, cond, List, [], ◌∷◌, length, refl, sym, ap, Option, Some, None, inl, inr}
use Rattle.std.specs.Prelude.{◌==◌, ◌⊎◌, Ok, Err, codes, is_some}
use Rattle.std.specs.Option.{ok_or, option_map}
use Rattle.std.specs.Result.{result_map_both}
use Rattle.pb_election.specs.Instance.{Instance, projects, voters}
use Rattle.pb_records.specs.Headed.{rows_after, unless_repeated}
use Rattle.pb_records.specs.Records.{Rec}
use Rattle.pb_records.specs.Cells.{cell}
use Rattle.pb_records.specs.Inside.Headed.{HeadsState}
use Rattle.pb_records.proofs.Each.{all-every}
use Rattle.pb_records.proofs.Headed.{States, distinct-follow, follow-distinct}
use Rattle.pb_records.proofs.Lists.{map-link}
use Rattle.pb_certificate.specs.Fields.{fields, project_in, same_fields, voter_in, whole_in}
use Rattle.pb_certificate.specs.Inside.Marks.{marked, project_after, project_marks, voter_after, voter_marks}
use Rattle.pb_certificate.specs.Inside.Violations.{after_violation_row, both_marks, with_demand, with_group}
use Rattle.pb_certificate.specs.NamedRows.{Named, is_kind, named_of, project_named, same_named, voter_named, was_named}
use Rattle.pb_certificate.specs.NamedRows.Named.{Project, Voter}
use Rattle.pb_certificate.specs.Violations.Kind.{ViolationHead, awaits_row, violation_head, violation_kind, violation_row}
use Rattle.pb_certificate.specs.Violations.Text.{IsViolationText, StateMeasure, is_version_1, is_version_2, satisfaction_by, version_1, version_2}
use Rattle.pb_certificate.specs.declared.violations.draft.Awaited.TheVariants.{Format, Satisfaction, Row}
use Rattle.pb_certificate.specs.declared.violations.measure.Measure.{Measure}
use Rattle.pb_certificate.specs.declared.violations.measure.Measure.TheVariants.{ByCount, ByCost}
use Rattle.pb_certificate.specs.declared.refusal.CertFault.TheVariants as fault
use Rattle.pb_certificate.proofs.Heads.{same-is}
use Rattle.pb_certificate.proofs.MarkLemmas.{marked-are}
use Rattle.pb_certificate.proofs.MarkedRows.{project-both, project-states, voter-both, voter-states}
use Rattle.pb_certificate.proofs.NamedRows.{project-kind, row-number, row-of, row-project, row-voter, turn, voter-kind}

-- The head.

-- behind the first record version 1 is whole, and version 2 awaits the measure
format-was : (r : Rec) (h : ViolationHead) → violation_head Format ByCount r ≡ Ok h
    → ((fields r ≡ version_1) × (h ≡ record { awaited = Row; measure = ByCount }))
    ⊎ ((fields r ≡ version_2) × (h ≡ record { awaited = Satisfaction; measure = ByCount }))
format-was r h is = by (is_version_1 r) (is_version_2 r) refl refl is
  where
    by : (one two : Bool) → is_version_1 r ≡ one → is_version_2 r ≡ two
        → cond one (Ok (record { awaited = Row; measure = ByCount }))
        (cond two (Ok (record { awaited = Satisfaction; measure = ByCount })) (Err fault.BadHead)) ≡ Ok h
        → ((fields r ≡ version_1) × (h ≡ record { awaited = Row; measure = ByCount }))
        ⊎ ((fields r ≡ version_2) × (h ≡ record { awaited = Satisfaction; measure = ByCount }))
    by true two is_one is_two e = inl (same-is (fields r) version_1 is_one, cc e)
    by false true is_one is_two e = inr (same-is (fields r) version_2 is_two, cc e)
    by false false is_one is_two e = cc e

measure-was : (m : Measure) (r : Rec) (h : ViolationHead) → violation_head Satisfaction m r ≡ Ok h
    → (fields r ≡ satisfaction_by h.measure) × (h.awaited ≡ Row)
measure-was m r h is =
    by (same_fields (fields r) (satisfaction_by ByCount)) (same_fields (fields r) (satisfaction_by ByCost)) refl refl is
  where
    by : (count cost : Bool) → same_fields (fields r) (satisfaction_by ByCount) ≡ count
        → same_fields (fields r) (satisfaction_by ByCost) ≡ cost
        → cond count (Ok (record { awaited = Row; measure = ByCount }))
        (cond cost (Ok (record { awaited = Row; measure = ByCost })) (Err fault.BadHead)) ≡ Ok h
        → (fields r ≡ satisfaction_by h.measure) × (h.awaited ≡ Row)
    by true cost is_count is_cost e =
        let same : record { awaited = Row; measure = ByCount } ≡ h = cc e in
        rw (sym same) (same-is (fields r) (satisfaction_by ByCount) is_count, refl)
    by false true is_count is_cost e =
        let same : record { awaited = Row; measure = ByCost } ≡ h = cc e in
        rw (sym same) (same-is (fields r) (satisfaction_by ByCost) is_cost, refl)
    by false false is_count is_cost e = cc e

-- behind a whole head no head record comes
none-more : (e : Instance) (h last : ViolationHead) (rs : List Rec) → awaits_row h.awaited ≡ true
    → HeadsState (violation_kind e) h rs last → (rs ≡ []) × (h ≡ last)
none-more e h last [] whole states = (refl, states)
none-more e h last (r ∷ rs) whole states = let short = states.1 in cc (whole, short)

states-measure : (e : Instance) (heads : List Rec) (last : ViolationHead)
    → HeadsState (violation_kind e) (record { awaited = Format; measure = ByCount }) heads last
    → awaits_row last.awaited ≡ true → StateMeasure last.measure heads
states-measure e [] last states whole = cc (rw (sym states) at whole)
states-measure e (r ∷ rs) last states whole = elim (format-was r states.0 states.2) [
  | inl one ↦
      let end = none-more e states.0 last rs (rw one.1 refl) states.3 in
      rw end.0 (one.0, ap (λ (h : ViolationHead). h.measure) (sym end.1 ∙ one.1))
  | inr two ↦ behind two.0 rs (rw two.1 at states.3)
]
  where
    behind : fields r ≡ version_2 → (rs : List Rec)
        → HeadsState (violation_kind e) (record { awaited = Satisfaction; measure = ByCount }) rs last
        → StateMeasure last.measure (r ∷ rs)
    behind two [] more = cc (rw (sym more) at whole)
    behind two (k ∷ ks) more =
        let was = measure-was ByCount k more.0 more.2 in
        let end = none-more e more.0 last ks (rw was.1 refl) more.3 in
        rw end.0 (two, rw (sym end.1) was.0)

measure-states : (e : Instance) (m : Measure) (heads : List Rec) → StateMeasure m heads
    → HeadsState (violation_kind e) (record { awaited = Format; measure = ByCount }) heads
    (record { awaited = Row; measure = m })
measure-states e m [] s = absurd s
measure-states e m (r ∷ []) s = (record { awaited = Row; measure = ByCount }, refl, rw s.0 refl, rw s.1 refl)
measure-states e ByCount (r ∷ k ∷ []) s = (
  record { awaited = Satisfaction; measure = ByCount },
  refl,
  rw s.0 refl,
  (record { awaited = Row; measure = ByCount }, refl, rw s.1 refl, refl),
)
measure-states e ByCost (r ∷ k ∷ []) s = (
  record { awaited = Satisfaction; measure = ByCount },
  refl,
  rw s.0 refl,
  (record { awaited = Row; measure = ByCost }, refl, rw s.1 refl, refl),
)
measure-states e m (r ∷ k ∷ l ∷ ls) s = absurd s

-- What a row states.

row-names : (e : Instance) (r : Rec) (x : Named) → violation_row e r ≡ Ok x → named_of e r ≡ Some x
row-names e r x h =
    by (length (fields r) == 2) (is_kind (codes "voter") r) (is_kind (codes "project") r) (is_some (whole_in (cell 1 r)))
    (voter_in e (cell 1 r)) (project_in e (cell 1 r)) refl refl refl refl refl h
  where
    by : (two voter project digits : Bool) (i j : Option ℕ) → (length (fields r) == 2) ≡ two
        → is_kind (codes "voter") r ≡ voter → is_kind (codes "project") r ≡ project → voter_in e (cell 1 r) ≡ i
        → project_in e (cell 1 r) ≡ j
        → cond two
        (cond voter (cond digits (ok_or (option_map Voter i) fault.UnknownVoter) (Err fault.BadNumber))
        (cond project (ok_or (option_map Project j) fault.UnknownProject) (Err fault.BadRow)))
        (Err fault.BadRow) ≡ Ok x
        → named_of e r ≡ Some x
    by false voter project digits i j a b c is_i is_j k = cc k
    by true true project false i j a b c is_i is_j k = cc k
    by true true project true None j a b c is_i is_j k = cc k
    by true true project true (Some i) j a b c is_i is_j k = let same : Voter i ≡ x = cc k in
        voter-states e r i a b is_i ∙ ap Some same
    by true false false digits i j a b c is_i is_j k = cc k
    by true false true digits i None a b c is_i is_j k = cc k
    by true false true digits i (Some j) a b c is_i is_j k = let same : Project j ≡ x = cc k in
        project-states e r j a c is_j ∙ ap Some same

names-row : (e : Instance) (r : Rec) (x : Named) → named_of e r ≡ Some x → violation_row e r ≡ Ok x
names-row e r (Voter i) named =
    let row = row-of e r (Voter i) named in
    rw (ap length row.shape, (voter-kind e r i row).0, row-voter e r i row, row-number e r i row) refl
names-row e r (Project j) named =
    let row = row-of e r (Project j) named in
    let kinds = project-kind e r j row in
    rw (ap length row.shape, kinds.0, kinds.1, row-project e r j row) refl

-- The text.

pub text-states : (recs : List Rec) (e : Instance) (m : Measure) (s t : List ℕ) → IsViolationText recs e m s t
    → States (violation_kind e) recs
text-states recs e m s t v =
    record {
      so_far = record { head = record { awaited = Row; measure = m }; rows = v.names };
      taken =
          record {
            heads = v.heads;
            rows = v.rows;
            cut = v.cut;
            text = v.text;
            heads_state = measure-states e m v.heads v.measure;
            behind = λ short. cc short;
            rows_state = map-link (λ x. Unit {0}) (named_of e) Some (violation_row e) Ok
                (λ r x any named. names-row e r x named) v.rows v.names (all-every (λ x. Unit {0}) v.names (λ x. tt))
                v.named.each_row;
            follow = distinct-follow (violation_kind e) fault.Repeated same_named turn (λ qs q. refl) v.names v.named.once;
          };
      whole = refl;
    }

pub states-text : (recs : List Rec) (e : Instance) (s : States (violation_kind e) recs)
    → IsViolationText recs e s.so_far.head.measure (marked (voter_marks e s.so_far.rows))
    (marked (project_marks e s.so_far.rows))
states-text recs e s =
    let t = s.taken in
    let names = s.so_far.rows in
    record {
      heads = t.heads;
      rows = t.rows;
      names = names;
      cut = t.cut;
      text = t.text;
      measure = states-measure e t.heads s.so_far.head t.heads_state s.whole;
      named =
          record {
            each_row = map-link (λ x. Unit {0}) (violation_row e) Ok (named_of e) Some
                (λ r x any states. row-names e r x states) t.rows names (all-every (λ x. Unit {0}) names (λ x. tt))
                t.rows_state;
            once = follow-distinct (violation_kind e) fault.Repeated same_named turn (λ qs q. refl) names t.follow;
          };
      same_group = marked-are (λ i. was_named names (Voter i)) (voters e);
      same_demand = marked-are (λ j. was_named names (Project j)) (projects e);
    }

-- What a draft has after one more row.

pub after-row : (e : Instance) (names : List Named) (r : Rec)
    → after_violation_row e (both_marks e names) r
    ≡ result_map_both (both_marks e) (λ f. f)
    (rows_after (unless_repeated fault.Repeated same_named) names (violation_row e r))
after-row e names r =
    by (length (fields r) == 2) (is_kind (codes "voter") r) (is_kind (codes "project") r)
  where
    by : (two voter project : Bool)
        → cond two
        (cond voter (with_group (project_marks e names) (voter_after e (cell 1 r) (voter_marks e names)))
        (cond project (with_demand (voter_marks e names) (project_after e (cell 1 r) (project_marks e names)))
        (Err fault.BadRow)))
        (Err fault.BadRow)
        ≡ result_map_both (both_marks e) (λ f. f)
        (rows_after (unless_repeated fault.Repeated same_named) names
        (cond two
        (cond voter (voter_named e (cell 1 r)) (cond project (project_named e (cell 1 r)) (Err fault.BadRow)))
        (Err fault.BadRow)))
    by false voter project = refl
    by true true project = voter-both e names (cell 1 r)
    by true false true = project-both e names (cell 1 r)
    by true false false = refl
