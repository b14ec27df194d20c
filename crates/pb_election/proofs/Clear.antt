-- Records at which no fault stands, by the role of their place.
use Rattle.std.proofs.Common.{◌≡◌, ◌≤◌, ◌+◌, List, [], ◌∷◌, refl, rules, tests, true, false, Some, None, length}
use Rattle.std.specs.Prelude.{IsTrue, ◌&&◌, ◌==◌, nat_lt, not}
use Rattle.std.specs.List.{AllByRecursion, list_any}
use Rattle.std.specs.Option.{option_map_or}
use Rattle.pb_money.specs.Money.{IsMoney, millionths}
use Rattle.pb_money.proofs.Laws.{money-is}
use Rattle.pb_records.specs.Records.{Field, Rec}
use Rattle.pb_election.specs.Instance.{most_approvals, most_projects, most_voters}
use Rattle.pb_election.specs.declared.keys.Key.TheVariants.{Budget, VoteType}
use Rattle.pb_election.specs.declared.sections.RecordRole.TheVariants.{First, Header, Inside}
use Rattle.pb_election.specs.declared.sections.Section.{Section}
use Rattle.pb_election.specs.declared.sections.Section.TheVariants.{Meta, Projects, Votes}
use Rattle.pb_election.specs.Names.{is_among}
use Rattle.pb_records.specs.Cells.{is_text}
use Rattle.pb_election.specs.Markers.{marker_of}
use Rattle.pb_election.specs.Rows.{ballot_in, cost_in, has_key, id_in, is_approval, is_id, is_known, key_in, needed_columns, read_columns, occurrences, value_in}
use Rattle.pb_election.specs.Faults.{Before, is_no_money, lowest_fault, lowest_fault_at_end}
use Rattle.pb_election.specs.Text.{IsHeader}

pub clear-first : (b : Before) (r : Rec) → b.role ≡ First → is_text r ≡ true → marker_of r ≡ Some Meta
    → lowest_fault b r ≡ None
unfolding lowest_fault
clear-first b r e t m = rw (e, t, m) refl

pub clear-header : (s : Section) (b : Before) (r : Rec) → b.role ≡ Header s → is_text r ≡ true → marker_of r ≡ None
    → IsHeader s r → lowest_fault b r ≡ None
unfolding lowest_fault
clear-header s b r e t m h = rw (e, t, m, needed (needed_columns s) h.needed, once (read_columns s) h.once) refl
  where
    needed : (names : List Field) → AllByRecursion (λ name. 1 ≤ occurrences name r) names
        → list_any (λ name. occurrences name r == 0) names ≡ false
    needed [] k = refl
    needed (name ∷ names) k =
        let z : (occurrences name r == 0) ≡ false = search (rules, tests, k.0) in
        rw (z, needed names k.1) refl

    once : (names : List Field) → AllByRecursion (λ name. occurrences name r ≤ 1) names
        → list_any (λ name. nat_lt 1 (occurrences name r)) names ≡ false
    once [] k = refl
    once (name ∷ names) k =
        let z : nat_lt 1 (occurrences name r) ≡ false = search (rules, tests, k.0) in
        rw (z, once names k.1) refl

pub is-money : (text : Field) → IsMoney text → is_no_money text ≡ false
is-money text h = rw (money-is text (millionths text) h) refl

pub clear-meta-row : (b : Before) (r : Rec) → b.role ≡ Inside Meta → is_text r ≡ true → marker_of r ≡ None
    → option_map_or b.has_stood (key_in r) false ≡ false
    → (has_key VoteType r && not (is_approval (value_in r))) ≡ false
    → (has_key Budget r && is_no_money (value_in r)) ≡ false → lowest_fault b r ≡ None
unfolding lowest_fault
clear-meta-row b r e t m k v c = rw (e, t, m, k, v, c) refl

pub clear-projects : (b : Before) (r : Rec) → b.role ≡ Inside Meta → is_text r ≡ true → marker_of r ≡ Some Projects
    → b.has_stood Budget ≡ true → b.has_stood VoteType ≡ true → lowest_fault b r ≡ None
unfolding lowest_fault
clear-projects b r e t m k v = rw (e, t, m, k, v) refl

pub clear-project-row : (b : Before) (r : Rec) → b.role ≡ Inside Projects → is_text r ≡ true → marker_of r ≡ None
    → IsTrue (is_id (id_in b.columns r)) → IsMoney (cost_in b.columns r)
    → is_among b.ids (id_in b.columns r) ≡ false → length b.ids + 1 ≤ most_projects → lowest_fault b r ≡ None
unfolding lowest_fault
clear-project-row b r e t m i c d n =
    let few : nat_lt most_projects (length b.ids + 1) ≡ false = search (rules, tests, n) in
    rw (e, t, m, i, is-money (cost_in b.columns r) c, d, few) refl

pub clear-votes : (b : Before) (r : Rec) → b.role ≡ Inside Projects → is_text r ≡ true → marker_of r ≡ Some Votes
    → lowest_fault b r ≡ None
unfolding lowest_fault
clear-votes b r e t m = rw (e, t, m) refl

pub clear-vote-row : (b : Before) (r : Rec) → b.role ≡ Inside Votes → is_text r ≡ true → marker_of r ≡ None
    → IsTrue (is_known b.vote_column b.ids r)
    → b.voters + 1 ≤ most_voters → b.approvals + length (ballot_in b.vote_column b.ids r) ≤ most_approvals
    → lowest_fault b r ≡ None
unfolding lowest_fault
clear-vote-row b r e t m k n a =
    let few : nat_lt most_voters (b.voters + 1) ≡ false = search (rules, tests, n) in
    let few_approvals : nat_lt most_approvals (b.approvals + length (ballot_in b.vote_column b.ids r)) ≡ false =
    search (rules, tests, a) in
    rw (e, t, m, k, few, few_approvals) refl

pub clear-end : (b : Before) → b.role ≡ Inside Votes → lowest_fault_at_end b ≡ None
unfolding lowest_fault_at_end
clear-end b e = rw e refl
