-- An election that has a text is within the limits, and its ids and ballots keep their rules.
use Rattle.std.proofs.Common.{◌≡◌, ◌≤◌, ◌∙◌, ◌+◌, ◌++◌, ℕ, zero, suc, List, [], ◌∷◌, refl, sym, arith, Bool, true, Option, Some, None, length}
use Rattle.std.specs.Prelude.{IfSome, IsSomeAnd, IsTrue, filter, map, unwrap_or}
use Rattle.std.specs.List.{AllByRecursion, enumerate_from, list_all}
use Rattle.std.specs.Option.{option_map_or}
use Rattle.std.specs.Str.{chars, is_utf8}
use Rattle.std.proofs.lemmas.List.{length-map}
use Rattle.std.proofs.lemmas.List.Sums.{count_by-le-length}
use Rattle.std.proofs.lemmas.Bool.{and_parts}
use Rattle.csv.specs.Records.{field_at}
use Rattle.pb_money.specs.Money.{IsMoney, millionths, most_money}
use Rattle.pb_records.specs.Records.{Field, Rec}
use Rattle.pb_records.proofs.Each.{all-back, all-both, all-every, all-front, all-map, all-weaker}
use Rattle.pb_election.specs.Instance.{Instance, IsSet}
use Rattle.pb_election.specs.declared.columns.Columns.{Columns}
use Rattle.pb_election.specs.declared.keys.Key.TheVariants.{Budget}
use Rattle.pb_records.specs.Cells.{is_text}
use Rattle.pb_election.specs.Names.{is_among}
use Rattle.pb_election.specs.Rows.{ballot_in, ballots_in, columns_of, cost_in, costs_in, funded_in, id_in, ids_in, is_id, positions_of, says_neither, stated_value, field_in, vote_column}
use Rattle.pb_election.specs.Text.{IsElection, IsId, PbText, part_records}
use Rattle.pb_records.proofs.Cleaning.{clean-clean, is_utf8-clean, clean-nil}
use Rattle.pb_election.proofs.Sets.{set-lower}

-- Ballots.

-- the positions of the ids that pass a test are a set
positions-set : (test : ℕ × Field → Bool) (n m : ℕ) (ids : List Field) → n + length ids ≤ m + 1
    → IsSet n m (map (λ (p : ℕ × Field). p.0) (filter test (enumerate_from n ids)))
positions-set test n m [] l = tt
positions-set test n m (id ∷ ids) l = grind (arith, set-lower, positions-set test (n + 1) m ids)

ballot-set : (names ids : List Field) → IsSet 1 (length ids) (positions_of names ids)
unfolding positions_of
ballot-set names ids = positions-set (λ p. is_among names p.1) 1 (length ids) ids (omega arith)

ballots-sets : (column : Option ℕ) (ids : List Field) (rows : List Rec)
    → AllByRecursion (IsSet 1 (length ids)) (ballots_in column ids rows)
ballots-sets column ids rows = grind (arith, all-map, all-every, ballot-set)

-- Ids.

utf8-nil : is_utf8 [] ≡ true
unfolding is_utf8 chars
utf8-nil = refl

field-text : (r : Rec) (i : ℕ) → is_text r ≡ true → is_utf8 (unwrap_or (field_at r i) []) ≡ true
unfolding is_text field_at
field-text [] i h = utf8-nil
field-text (f ∷ fs) zero h = (and_parts (is_utf8 f) (list_all is_utf8 fs) h).0
field-text (f ∷ fs) (suc i) h = field-text fs i (and_parts (is_utf8 f) (list_all is_utf8 fs) h).1

field_in-id : (o : Option ℕ) (r : Rec) → is_text r ≡ true → IsTrue (is_id (field_in o r)) → IsId (field_in o r)
field_in-id o r t h = grind (arith, utf8-nil, clean-nil, is_utf8-clean, field-text, clean-clean)

ids-are : (columns : Columns) (rows : List Rec) → AllByRecursion (λ r. IsTrue (is_text r)) rows
    → AllByRecursion (λ row. IsTrue (is_id (id_in columns row))) rows → AllByRecursion IsId (ids_in columns rows)
ids-are columns rows text is =
    all-map IsId (id_in columns) rows
    (all-both (λ r. IsTrue (is_text r)) (λ r. IsTrue (is_id (id_in columns r))) (λ r. IsId (id_in columns r)) rows
    (λ r. field_in-id columns.id r) text is)

-- Costs, marks and counts.

costs-small : (columns : Columns) (rows : List Rec) → AllByRecursion (λ row. IsMoney (cost_in columns row)) rows
    → AllByRecursion (λ c. c ≤ most_money) (costs_in columns rows)
costs-small columns rows h = grind (arith, all-map, all-weaker)

marks-many : (columns : Columns) (rows : List Rec)
    → IfSome (funded_in columns rows) (λ marks. length marks ≡ length (ids_in columns rows))
marks-many columns rows = grind (arith, length-map)

limit-small : (o : Option Field) → IsSomeAnd o IsMoney → option_map_or millionths o 0 ≤ most_money
limit-small None h = absurd h
limit-small (Some text) h = h.small

pub sound : (recs : List Rec) (e : Instance) → PbText recs e → IsElection e
sound recs e p =
    let columns = columns_of p.projects.header in
    let ids = ids_in columns p.projects.rows in
    let many : length ids ≡ length p.projects.rows = length-map p.projects.rows (id_in columns) in
    let text : AllByRecursion (λ r. IsTrue (is_text r))
    (part_records p.meta ++ (part_records p.projects ++ part_records p.votes)) = rw p.cut at p.text in
    let of_projects =
    all-front (λ r. IsTrue (is_text r)) (part_records p.projects) (part_records p.votes)
    (all-back (λ r. IsTrue (is_text r)) (part_records p.meta) (part_records p.projects ++ part_records p.votes)
    text) in
    rw p.states (record {
      limit = limit-small (stated_value Budget p.meta.rows) p.meta_rows.budget;
      ids = ids-are columns p.projects.rows of_projects.1.1 p.project_rows.ids;
      distinct = p.project_rows.distinct;
      as_many_costs = length-map p.projects.rows (λ row. millionths (cost_in columns row)) ∙ sym many;
      costs = costs-small columns p.projects.rows p.project_rows.costs;
      as_many_selected = marks-many columns p.projects.rows;
      other_selected = rw many (count_by-le-length (says_neither columns) p.projects.rows);
      ballots = ballots-sets (vote_column p.votes.header) ids p.votes.rows;
      few_projects = rw many p.project_rows.few;
      few_voters = rw (length-map p.votes.rows (ballot_in (vote_column p.votes.header) ids)) p.vote_rows.few;
      few_approvals = p.vote_rows.few_approvals;
    })
