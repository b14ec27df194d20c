-- What holds of a record at which no fault stands, by the role of its place: the other way round from Clear.
use Rattle.std.specs.Cmp.{first_so, second_so}
use Rattle.std.proofs.Common.{◌≡◌, ◌≤◌, ◌+◌, List, [], ◌∷◌, inl, inr, rules, tests, Bool, true, false, Option, None, length}
use Rattle.std.specs.Prelude.{IsTrue, ◌&&◌, ◌==◌, find, nat_lt, not}
use Rattle.std.specs.List.{AllByRecursion, list_any}
use Rattle.std.specs.Option.{option_map_or}
use Rattle.std.proofs.lemmas.Bool.{cases_Bool, or_parts, not-false}
use Rattle.pb_records.specs.Records.{Field, Rec}
use Rattle.pb_election.specs.declared.refusal.ElectionFault.{ElectionFault}
use Rattle.pb_election.specs.declared.sections.RecordRole.TheVariants.{First, Header, Inside}
use Rattle.pb_election.specs.declared.sections.Section.{Section}
use Rattle.pb_election.specs.declared.sections.Section.TheVariants.{Meta, Projects, Votes}
use Rattle.pb_election.specs.Names.{is_among}
use Rattle.pb_election.specs.Markers.{is_marker, marks}
use Rattle.pb_records.specs.Cells.{is_text}
use Rattle.pb_election.specs.declared.refusal.ElectionFault.TheVariants as fault
use Rattle.pb_election.specs.declared.keys.Key.TheVariants.{Budget, VoteType}
use Rattle.pb_election.specs.Rows.{ballot_in, cost_in, has_key, id_in, is_approval, is_id, is_known, key_in, needed_columns, read_columns, occurrences, value_in}
use Rattle.pb_election.specs.Instance.{most_approvals, most_projects, most_voters}
use Rattle.pb_election.specs.Faults.{Before, in_order, is_no_money, lowest_fault, stands}
use Rattle.pb_election.specs.Text.{IsHeader}

none-stands : (t : ElectionFault → Bool) (fs : List ElectionFault) → ◌≡◌ {A = Option ElectionFault} (find t fs) None
    → AllByRecursion (λ f. t f ≡ false) fs
none-stands t [] h = tt
none-stands t (f ∷ fs) h =
    elim (cases_Bool (t f)) [
      | inl stands ↦ cc (rw stands at h)
      | inr not_there ↦ (not_there, none-stands t fs (rw not_there at h))
    ]

-- each fault does not stand
record NoFault (b : Before) (r : Rec) : Type 0 where
  text : stands b r fault.NotUtf8 ≡ false
  no_meta : stands b r fault.NoMeta ≡ false
  no_header : stands b r fault.NoHeader ≡ false
  missing_section : stands b r fault.MissingSection ≡ false
  unexpected : stands b r fault.UnexpectedSection ≡ false
  missing_key : stands b r fault.MissingKey ≡ false
  repeated_key : stands b r fault.RepeatedKey ≡ false
  not_approval : stands b r fault.NotApproval ≡ false
  bad_money : stands b r fault.BadMoney ≡ false
  missing_column : stands b r fault.MissingColumn ≡ false
  repeated_column : stands b r fault.RepeatedColumn ≡ false
  bad_id : stands b r fault.BadId ≡ false
  repeated_project : stands b r fault.RepeatedProject ≡ false
  unknown_project : stands b r fault.UnknownProject ≡ false
  too_many : stands b r fault.TooMany ≡ false

none : (b : Before) (r : Rec) → lowest_fault b r ≡ None → NoFault b r
unfolding lowest_fault
none b r h =
    let n = none-stands (stands b r) in_order h in
    let m = n.1.1.1.1.1.1.1 in
    record {
      text = n.0;
      no_meta = n.1.0;
      no_header = n.1.1.0;
      missing_section = n.1.1.1.0;
      unexpected = n.1.1.1.1.0;
      missing_key = n.1.1.1.1.1.0;
      repeated_key = n.1.1.1.1.1.1.0;
      not_approval = m.0;
      bad_money = m.1.0;
      missing_column = m.1.1.0;
      repeated_column = m.1.1.1.0;
      bad_id = m.1.1.1.1.0;
      repeated_project = m.1.1.1.1.1.0;
      unknown_project = m.1.1.1.1.1.1.0;
      too_many = m.1.1.1.1.1.1.1.0;
    }

pub taken-first : (b : Before) (r : Rec) → b.role ≡ First → lowest_fault b r ≡ None
    → (is_text r ≡ true) × (marks Meta r ≡ true)
taken-first b r e h =
    let n = none b r h in
    (not-false (is_text r) n.text, not-false (marks Meta r) (rw e at n.no_meta))

pub taken-header : (s : Section) (b : Before) (r : Rec) → b.role ≡ Header s → lowest_fault b r ≡ None
    → (is_text r ≡ true) × (is_marker r ≡ false) × IsHeader s r
taken-header s b r e h =
    let n = none b r h in
    let misses : list_any (λ name. occurrences name r == 0) (needed_columns s) ≡ false = rw e at n.missing_column in
    let repeats : list_any (λ name. nat_lt 1 (occurrences name r)) (read_columns s) ≡ false =
    rw e at n.repeated_column in (
      not-false (is_text r) n.text,
      rw e at n.no_header,
      record { needed = needed (needed_columns s) misses; once = once (read_columns s) repeats },
    )
  where
    needed : (names : List Field) → list_any (λ name. occurrences name r == 0) names ≡ false
        → AllByRecursion (λ name. 1 ≤ occurrences name r) names
    needed [] k = tt
    needed (name ∷ names) k =
        let o = or_parts (occurrences name r == 0) (list_any (λ name. occurrences name r == 0) names) k in
        (search (rules, tests, o.0), needed names o.1)

    once : (names : List Field) → list_any (λ name. nat_lt 1 (occurrences name r)) names ≡ false
        → AllByRecursion (λ name. occurrences name r ≤ 1) names
    once [] k = tt
    once (name ∷ names) k =
        let o = or_parts (nat_lt 1 (occurrences name r)) (list_any (λ name. nat_lt 1 (occurrences name r)) names) k in
        (search (rules, tests, o.0), once names o.1)

-- what is asked of a row where it has a key
where-it-has : (has wrong : Bool) → (has && wrong) ≡ false → has ≡ true → wrong ≡ false
where-it-has true wrong h e = h
where-it-has false wrong h e = cc e

-- the marker of PROJECTS
pub taken-projects-marker : (b : Before) (r : Rec) → b.role ≡ Inside Meta → is_marker r ≡ true → lowest_fault b r ≡ None
    → (is_text r ≡ true) × (marks Projects r ≡ true) × (b.has_stood Budget ≡ true) × (b.has_stood VoteType ≡ true)
taken-projects-marker b r e m h =
    let n = none b r h in
    let marks_it = not-false (marks Projects r) (rw (e, m) at n.unexpected) in
    let keys = not-false (b.has_stood Budget && b.has_stood VoteType) (rw (e, marks_it) at n.missing_key) in (
      not-false (is_text r) n.text,
      marks_it,
      first_so (b.has_stood Budget) (b.has_stood VoteType) keys,
      second_so (b.has_stood Budget) (b.has_stood VoteType) keys,
    )

-- a row of META
pub taken-meta-row : (b : Before) (r : Rec) → b.role ≡ Inside Meta → is_marker r ≡ false → lowest_fault b r ≡ None
    → (is_text r ≡ true) × (option_map_or b.has_stood (key_in r) false ≡ false)
    × (has_key VoteType r ≡ true → IsTrue (is_approval (value_in r)))
    × (has_key Budget r ≡ true → is_no_money (value_in r) ≡ false)
taken-meta-row b r e m h =
    let n = none b r h in
    let approval : (has_key VoteType r && not (is_approval (value_in r))) ≡ false = rw (e, m) at n.not_approval in
    let money = (or_parts (has_key Budget r && is_no_money (value_in r)) false (rw (e, m) at n.bad_money)).0 in (
      not-false (is_text r) n.text,
      rw (e, m) at n.repeated_key,
      (λ has. not-false (is_approval (value_in r))
          (where-it-has (has_key VoteType r) (not (is_approval (value_in r))) approval has)),
      where-it-has (has_key Budget r) (is_no_money (value_in r)) money,
    )

-- the marker of VOTES
pub taken-votes-marker : (b : Before) (r : Rec) → b.role ≡ Inside Projects → is_marker r ≡ true
    → lowest_fault b r ≡ None → (is_text r ≡ true) × (marks Votes r ≡ true)
taken-votes-marker b r e m h =
    let n = none b r h in
    (not-false (is_text r) n.text, not-false (marks Votes r) (rw (e, m) at n.unexpected))

-- a row of PROJECTS
pub taken-project-row : (b : Before) (r : Rec) → b.role ≡ Inside Projects → is_marker r ≡ false
    → lowest_fault b r ≡ None
    → (is_text r ≡ true) × IsTrue (is_id (id_in b.columns r)) × (is_no_money (cost_in b.columns r) ≡ false)
    × (is_among b.ids (id_in b.columns r) ≡ false) × (length b.ids + 1 ≤ most_projects)
taken-project-row b r e m h =
    let n = none b r h in
    let few = (or_parts (nat_lt most_projects (length b.ids + 1)) false (rw (e, m) at n.too_many)).0 in (
      not-false (is_text r) n.text,
      not-false (is_id (id_in b.columns r)) (rw (e, m) at n.bad_id),
      rw (e, m) at n.bad_money,
      rw (e, m) at n.repeated_project,
      search (rules, tests, few),
    )

-- a row of VOTES
pub taken-vote-row : (b : Before) (r : Rec) → b.role ≡ Inside Votes → lowest_fault b r ≡ None
    → (is_text r ≡ true) × (is_marker r ≡ false) × IsTrue (is_known b.vote_column b.ids r)
    × (b.voters + 1 ≤ most_voters) × (b.approvals + length (ballot_in b.vote_column b.ids r) ≤ most_approvals)
taken-vote-row b r e h =
    let n = none b r h in
    let m : is_marker r ≡ false = rw e at n.unexpected in
    let few = or_parts (nat_lt most_voters (b.voters + 1))
    (nat_lt most_approvals (b.approvals + length (ballot_in b.vote_column b.ids r))) (rw (e, m) at n.too_many) in (
      not-false (is_text r) n.text,
      m,
      not-false (is_known b.vote_column b.ids r) (rw (e, m) at n.unknown_project),
      search (rules, tests, few.0),
      search (rules, tests, few.1),
    )
