-- In the text of an election no fault stands anywhere.
use Rattle.std.proofs.Common.{◌≡◌, ◌≤◌, ◌∙◌, ◌+◌, ◌++◌, ℕ, suc, zero, List, [], ◌∷◌, refl, sym, ap, subst, arith, inl, inr, true, false, Option, Some, None, append_assoc, append-nil, length, length-append, take, drop}
use Rattle.std.specs.Prelude.{IsTrue, IsSomeAnd, not, slice_get}
use Rattle.std.specs.List.{AllByRecursion, list_any}
use Rattle.std.specs.Option.{option_map_or}
use Rattle.std.proofs.lemmas.Bool.{cases_Bool}
use Rattle.std.proofs.lemmas.List.{length-map, map-append}
use Rattle.std.proofs.lemmas.List.Elements.{filter-append}
use Rattle.std.proofs.lemmas.List.Sums.{sum_by-append}
use Rattle.pb_money.specs.Money.{IsMoney}
use Rattle.pb_records.specs.Records.{Field, Rec}
use Rattle.pb_records.proofs.Each.{all-front}
use Rattle.pb_election.specs.Instance.{Instance, approvals}
use Rattle.pb_election.specs.declared.refusal.ElectionFault.{ElectionFault}
use Rattle.pb_election.specs.declared.columns.Columns.{Columns}
use Rattle.pb_election.specs.declared.keys.Key.{Key}
use Rattle.pb_election.specs.declared.keys.Key.TheVariants.{Budget, VoteType}
use Rattle.pb_election.specs.declared.sections.RecordRole.TheVariants.{Header, Inside}
use Rattle.pb_election.specs.declared.sections.Section.{Section}
use Rattle.pb_election.specs.declared.sections.Section.TheVariants.{Meta, Projects, Votes}
use Rattle.pb_election.specs.Names.{is_among}
use Rattle.pb_records.specs.Cells.{is_blank, is_text, nonblank}
use Rattle.pb_election.specs.Markers.{is_marker, marker_of, marks}
use Rattle.pb_election.specs.Rows.{ballot_in, ballots_in, columns_of, cost_in, has_key, id_in, ids_in, is_approval, is_id, is_known, key_in, stated_value, value_in, vote_column}
use Rattle.pb_records.specs.FirstFault.{NoFault, fault_after}
use Rattle.pb_election.specs.Faults.{PbFault, before_of, election_form, first_of, header_of, lowest_fault, lowest_fault_at_end, rest_of, role_of, rows_of, up_to_marker}
use Rattle.pb_election.specs.Text.{AreMetaRows, AreProjectRows, AreVoteRows, EachKeyOnce, IsHeader, IsPart, Part, part_records, PbText}
use Rattle.pb_election.proofs.FoundParts.{behind, behind-here, found, past, up-all, up-part}
use Rattle.pb_election.proofs.Distinct.{distinct-at}
use Rattle.pb_election.proofs.KeyLemmas.{key-new, key-there, stated_value-here}
use Rattle.pb_election.proofs.Clear.{clear-end, clear-first, clear-header, clear-meta-row, clear-project-row, clear-projects, clear-vote-row, clear-votes, is-money}
use Rattle.pb_election.proofs.Spots.{at_header, at_marker, at_row, at-place, in_rest, past-end, role-header, role-rows, spot}
use Rattle.pb_election.proofs.BeginningLemmas.{count-part, count-two}

all-at : (P : Rec → Type 0) (xs : List Rec) (r : Rec) (zs : List Rec) → AllByRecursion P (xs ++ r ∷ zs) → P r
all-at P [] r zs h = h.0
all-at P (x ∷ xs) r zs h = all-at P xs r zs h.1

-- the value of a stated key at its row
value-at : (key : Key) (P : Field → Type 0) (xs : List Rec) (r : Rec) (zs : List Rec) → EachKeyOnce (xs ++ r ∷ zs)
    → IsSomeAnd (stated_value key (xs ++ r ∷ zs)) P → has_key key r ≡ true → P (value_in r)
value-at key P xs r zs once s has = rw (stated_value-here key xs r zs once has) at s

module _ (a b c : Part) (ha : IsPart Meta a) (hb : IsPart Projects b) (hc : IsPart Votes c) where
  -- among the rows of META
  found-a : (xs zs : List Rec) → a.rows ≡ xs ++ zs → found Meta (a.marker ∷ a.header ∷ xs) ≡ a.header ∷ xs
  found-a xs zs e =
      let m : marks Meta a.marker ≡ true = rw ha.marker refl in
      ap up_to_marker (behind-here Meta a.marker (a.header ∷ xs) m)
      ∙ up-all (a.header ∷ xs) (ha.others.0, all-front (λ r. marker_of r ≡ None) xs zs (rw e at ha.others.1))

  -- among the rows of PROJECTS
  found-b : (xs zs : List Rec) → b.rows ≡ xs ++ zs
      → found Projects (part_records a ++ (b.marker ∷ b.header ∷ xs)) ≡ b.header ∷ xs
  found-b xs zs e =
      let m : marks Projects b.marker ≡ true = rw hb.marker refl in
      ap up_to_marker
      (past Projects a Meta (b.marker ∷ b.header ∷ xs) ha refl ∙ behind-here Projects b.marker (b.header ∷ xs) m)
      ∙ up-all (b.header ∷ xs) (hb.others.0, all-front (λ r. marker_of r ≡ None) xs zs (rw e at hb.others.1))

  -- among the rows of VOTES
  found-c : (xs zs : List Rec) → c.rows ≡ xs ++ zs
      → found Votes (part_records a ++ (part_records b ++ (c.marker ∷ c.header ∷ xs))) ≡ c.header ∷ xs
  found-c xs zs e =
      let m : marks Votes c.marker ≡ true = rw hc.marker refl in
      ap up_to_marker
      (past Votes a Meta (part_records b ++ (c.marker ∷ c.header ∷ xs)) ha refl
      ∙ past Votes b Projects (c.marker ∷ c.header ∷ xs) hb refl ∙ behind-here Votes c.marker (c.header ∷ xs) m)
      ∙ up-all (c.header ∷ xs) (hc.others.0, all-front (λ r. marker_of r ≡ None) xs zs (rw e at hc.others.1))

  found-b-votes : (xs : List Rec) → found Projects (part_records a ++ (part_records b ++ (c.marker ∷ xs))) ≡ behind b
  found-b-votes xs =
      let m : marks Projects b.marker ≡ true = rw hb.marker refl in
      let n : is_marker c.marker ≡ true = rw hc.marker refl in
      ap up_to_marker
      (past Projects a Meta (part_records b ++ (c.marker ∷ xs)) ha refl
      ∙ behind-here Projects b.marker (behind b ++ (c.marker ∷ xs)) m)
      ∙ up-part (behind b) c.marker xs hb.others n

  found-a-all : found Meta (part_records a) ≡ behind a
  found-a-all =
      let m : marks Meta a.marker ≡ true = rw ha.marker refl in
      ap up_to_marker (behind-here Meta a.marker (behind a) m) ∙ up-all (behind a) ha.others

  -- a row of META
  meta-row : (xs : List Rec) (r : Rec) (zs : List Rec) → AreMetaRows a.rows → a.rows ≡ xs ++ r ∷ zs → is_text r ≡ true
      → lowest_fault (before_of (a.marker ∷ a.header ∷ xs)) r ≡ None
  unfolding before_of
  meta-row xs r zs w e t =
      let f = found-a xs (r ∷ zs) e in
      let once : EachKeyOnce (xs ++ r ∷ zs) = rw e at w.once in
      let rows : rows_of Meta (a.marker ∷ a.header ∷ xs) ≡ xs = ap rest_of f in
      let role : role_of (a.marker ∷ a.header ∷ xs) ≡ Inside Meta =
      role-rows [] Meta a.marker a.header xs ha.marker
      (ha.others.0, all-front (λ r. marker_of r ≡ None) xs (r ∷ zs) (rw e at ha.others.1)) in
      clear-meta-row (before_of (a.marker ∷ a.header ∷ xs)) r role t
      (all-at (λ r. marker_of r ≡ None) xs r zs (rw e at ha.others.1))
      (subst (λ (l : List Rec). option_map_or (λ key. list_any (has_key key) l) (key_in r) false ≡ false) (sym rows)
      (key-new xs r zs once))
      (elim (cases_Bool (has_key VoteType r)) [
        | inl has ↦
            rw (has, value-at VoteType (λ v. IsTrue (is_approval v)) xs r zs once (rw e at w.vote_type) has) refl
        | inr hasnt ↦ rw hasnt refl
      ])
      (elim (cases_Bool (has_key Budget r)) [
        | inl has ↦ rw (has, is-money (value_in r) (value-at Budget IsMoney xs r zs once (rw e at w.budget) has)) refl
        | inr hasnt ↦ rw hasnt refl
      ])

  -- the marker of PROJECTS
  projects-marker : AreMetaRows a.rows → is_text b.marker ≡ true
      → lowest_fault (before_of (part_records a)) b.marker ≡ None
  unfolding before_of
  projects-marker w t =
      let rows : rows_of Meta (part_records a) ≡ a.rows = ap rest_of found-a-all in
      let role : role_of (part_records a) ≡ Inside Meta =
      role-rows [] Meta a.marker a.header a.rows ha.marker ha.others in
      let budget = key-there Budget IsMoney a.rows w.budget in
      let vote_type = key-there VoteType (λ v. IsTrue (is_approval v)) a.rows w.vote_type in
      clear-projects (before_of (part_records a)) b.marker role t hb.marker
      (ap (list_any (has_key Budget)) rows ∙ budget) (ap (list_any (has_key VoteType)) rows ∙ vote_type)

  -- a row of PROJECTS
  project-row : (xs : List Rec) (r : Rec) (zs : List Rec) → AreProjectRows (columns_of b.header) b.rows
      → b.rows ≡ xs ++ r ∷ zs → is_text r ≡ true
      → lowest_fault (before_of (part_records a ++ (b.marker ∷ b.header ∷ xs))) r ≡ None
  unfolding before_of
  project-row xs r zs w e t =
      let before = part_records a ++ (b.marker ∷ b.header ∷ xs) in
      let columns = columns_of b.header in
      let f = found-b xs (r ∷ zs) e in
      let role : role_of before ≡ Inside Projects =
      role-rows (part_records a) Projects b.marker b.header xs hb.marker
      (hb.others.0, all-front (λ r. marker_of r ≡ None) xs (r ∷ zs) (rw e at hb.others.1))
      ∙ rw (count-part Meta a ha) refl
      in
      let cols : columns_of (header_of Projects before) ≡ columns = ap (λ l. columns_of (first_of l)) f in
      let rows : rows_of Projects before ≡ xs = ap rest_of f in
      let ids : ids_in columns (xs ++ r ∷ zs) ≡ ids_in columns xs ++ (id_in columns r ∷ ids_in columns zs) =
      map-append (id_in columns) xs (r ∷ zs) in
      let new = distinct-at (ids_in columns xs) (id_in columns r) (ids_in columns zs) (rw (e, ids) at w.distinct) in
      let size : length xs + 1 ≤ 20000 = let n = length-append xs (r ∷ zs) in let m : length (xs ++ r ∷ zs) ≤ 20000 =
      rw e at w.few in omega (arith, n, m) in
      let many : length (ids_in columns xs) ≡ length xs = length-map xs (id_in columns) in
      clear-project-row (before_of before) r role t (all-at (λ r. marker_of r ≡ None) xs r zs (rw e at hb.others.1))
      (subst (λ (cs : Columns). IsTrue (is_id (id_in cs r))) (sym cols)
      (all-at (λ row. IsTrue (is_id (id_in columns row))) xs r zs (rw e at w.ids)))
      (subst (λ (cs : Columns). IsMoney (cost_in cs r)) (sym cols)
      (all-at (λ row. IsMoney (cost_in columns row)) xs r zs (rw e at w.costs)))
      (subst (λ (cs : Columns). is_among (ids_in cs (rows_of Projects before)) (id_in cs r) ≡ false) (sym cols)
      (rw rows new))
      (subst (λ (cs : Columns). length (ids_in cs (rows_of Projects before)) + 1 ≤ 20000) (sym cols)
      (rw (rows, many) size))

  -- the marker of VOTES
  votes-marker : is_text c.marker ≡ true → lowest_fault (before_of (part_records a ++ part_records b)) c.marker ≡ None
  unfolding before_of
  votes-marker t =
      let role : role_of (part_records a ++ part_records b) ≡ Inside Projects =
      role-rows (part_records a) Projects b.marker b.header b.rows hb.marker hb.others
      ∙ rw (count-part Meta a ha) refl in
      clear-votes (before_of (part_records a ++ part_records b)) c.marker role t hc.marker

  role-c : (xs zs : List Rec) → c.rows ≡ xs ++ zs
      → role_of (part_records a ++ (part_records b ++ (c.marker ∷ c.header ∷ xs))) ≡ Inside Votes
  role-c xs zs e =
      rw (← append_assoc (part_records a) (part_records b) (c.marker ∷ c.header ∷ xs))
      (role-rows (part_records a ++ part_records b) Votes c.marker c.header xs hc.marker
      (hc.others.0, all-front (λ r. marker_of r ≡ None) xs zs (rw e at hc.others.1)) ∙ rw (count-two a b ha hb) refl)

  -- a row of VOTES
  vote-row : (xs : List Rec) (r : Rec) (zs : List Rec)
      → AreVoteRows (vote_column c.header) (ids_in (columns_of b.header) b.rows) c.rows → c.rows ≡ xs ++ r ∷ zs
      → is_text r ≡ true
      → lowest_fault (before_of (part_records a ++ (part_records b ++ (c.marker ∷ c.header ∷ xs)))) r ≡ None
  unfolding before_of
  vote-row xs r zs w e t =
      let before = part_records a ++ (part_records b ++ (c.marker ∷ c.header ∷ xs)) in
      let ids = ids_in (columns_of b.header) b.rows in
      let vote = vote_column c.header in
      let f = found-b-votes (c.header ∷ xs) in
      let g = found-c xs (r ∷ zs) e in
      let same_ids : ids_in (columns_of (header_of Projects before)) (rows_of Projects before) ≡ ids =
      ap (λ l. ids_in (columns_of (first_of l)) (rest_of l)) f in
      let same_vote : vote_column (header_of Votes before) ≡ vote = ap (λ l. vote_column (first_of l)) g in
      let rows : rows_of Votes before ≡ xs = ap rest_of g in
      let split : ballots_in vote ids (xs ++ r ∷ zs)
      ≡ ballots_in vote ids xs ++ (ballot_in vote ids r ∷ ballots_in vote ids zs) =
      map-append (ballot_in vote ids) xs (r ∷ zs) in
      let total : approvals (ballots_in vote ids xs ++ (ballot_in vote ids r ∷ ballots_in vote ids zs)) ≤ 20000000 =
      rw (e, split) at w.few_approvals in
      let parts = sum_by-append length (ballots_in vote ids xs) (ballot_in vote ids r ∷ ballots_in vote ids zs) in
      let first = sum_by-append length (ballot_in vote ids r ∷ []) (ballots_in vote ids zs) in
      let size : length xs + 1 ≤ 1000000 = let n = length-append xs (r ∷ zs) in
      let m : length (xs ++ r ∷ zs) ≤ 1000000 = rw e at w.few in omega (arith, n, m) in
      let sizes : approvals (ballots_in vote ids xs) + length (ballot_in vote ids r) ≤ 20000000 =
      omega (arith, parts, first, total) in
      clear-vote-row (before_of before) r (role-c xs (r ∷ zs) e) t
      (all-at (λ r. marker_of r ≡ None) xs r zs (rw e at hc.others.1))
      (rw (same_ids, same_vote) (all-at (λ row. IsTrue (is_known vote ids row)) xs r zs (rw e at w.known)))
      (rw rows size)
      (rw (same_ids, same_vote, rows) sizes)

  -- the end
  at-end : lowest_fault_at_end (before_of (part_records a ++ (part_records b ++ part_records c))) ≡ None
  unfolding before_of
  at-end = clear-end (before_of (part_records a ++ (part_records b ++ part_records c)))
      (role-c c.rows [] (sym (append-nil c.rows)))

-- the parts of a text, and what is known of each
pub record Whole (a b c : Part) : Type 0 where
  pub meta : IsPart Meta a
  pub projects : IsPart Projects b
  pub votes : IsPart Votes c
  pub project_header : IsHeader Projects b.header
  pub vote_header : IsHeader Votes c.header
  pub meta_rows : AreMetaRows a.rows
  pub project_rows : AreProjectRows (columns_of b.header) b.rows
  pub vote_rows : AreVoteRows (vote_column c.header) (ids_in (columns_of b.header) b.rows) c.rows

meta-header : (h : Rec) → IsHeader Meta h
meta-header h = record { needed = tt; once = tt }

first-place : (r : Rec) → is_text r ≡ true → marker_of r ≡ Some Meta → lowest_fault (before_of []) r ≡ None
unfolding before_of role_of
first-place r t m = clear-first (before_of []) r refl t m

header-place : (before : List Rec) (s : Section) (h : Rec) → role_of before ≡ Header s → is_text h ≡ true
    → marker_of h ≡ None → IsHeader s h → lowest_fault (before_of before) h ≡ None
unfolding before_of
header-place before s h e t m k = clear-header s (before_of before) h e t m k

clear-votes-part : (a b c : Part) → Whole a b c → (more : List Rec) (r : Rec) (left : List Rec)
    → more ++ r ∷ left ≡ part_records c → is_text r ≡ true
    → lowest_fault (before_of (part_records a ++ (part_records b ++ more))) r ≡ None
clear-votes-part a b c w more r left h t =
    elim (spot c [] more r left (h ∙ sym (append-nil (part_records c)))) [
      | at_marker e m ↦
          rw (e, append-nil (part_records b), m) (votes-marker a b c w.meta w.projects w.votes (rw m at t))
      | at_header e m ↦
          let role : role_of (part_records a ++ (part_records b ++ (c.marker ∷ []))) ≡ Header Votes =
          rw (← append_assoc (part_records a) (part_records b) (c.marker ∷ []))
          (role-header (part_records a ++ part_records b) Votes c.marker w.votes.marker
          ∙ rw (count-two a b w.meta w.projects) refl)
          in
          rw (e, m)
          (header-place (part_records a ++ (part_records b ++ (c.marker ∷ []))) Votes c.header role (rw m at t)
          w.votes.others.0 w.vote_header)
      | at_row zs xs e m ↦ rw e (vote-row a b c w.meta w.projects w.votes xs r zs w.vote_rows m t)
      | in_rest rest e m ↦ absurd (not-nil rest r left m)
    ]
  where
    not-nil : (xs : List Rec) (x : Rec) (ys : List Rec) → xs ++ x ∷ ys ≡ [] → ⊥
    not-nil [] x ys e = cc e
    not-nil (z ∷ zs) x ys e = cc e

clear-projects-part : (a b c : Part) → Whole a b c → (more : List Rec) (r : Rec) (left : List Rec)
    → more ++ r ∷ left ≡ part_records b ++ part_records c → is_text r ≡ true
    → lowest_fault (before_of (part_records a ++ more)) r ≡ None
clear-projects-part a b c w more r left h t =
    elim (spot b (part_records c) more r left h) [
      | at_marker e m ↦
          rw (e, append-nil (part_records a), m)
          (projects-marker a b c w.meta w.projects w.votes w.meta_rows (rw m at t))
      | at_header e m ↦
          let role : role_of (part_records a ++ (b.marker ∷ [])) ≡ Header Projects =
          role-header (part_records a) Projects b.marker w.projects.marker
          ∙ rw (count-part Meta a w.meta) refl
          in
          rw (e, m)
          (header-place (part_records a ++ (b.marker ∷ [])) Projects b.header role (rw m at t) w.projects.others.0
          w.project_header)
      | at_row zs xs e m ↦ rw e (project-row a b c w.meta w.projects w.votes xs r zs w.project_rows m t)
      | in_rest rest e m ↦ rw e (clear-votes-part a b c w rest r left m t)
    ]

-- no fault stands at a record of a whole text
clear-at : (a b c : Part) → Whole a b c → (before : List Rec) (r : Rec) (left : List Rec)
    → before ++ r ∷ left ≡ part_records a ++ (part_records b ++ part_records c) → is_text r ≡ true
    → lowest_fault (before_of before) r ≡ None
clear-at a b c w before r left h t =
    elim (spot a (part_records b ++ part_records c) before r left h) [
      | at_marker e m ↦ rw e (first-place r t (ap marker_of m ∙ w.meta.marker))
      | at_header e m ↦
          let role : role_of (a.marker ∷ []) ≡ Header Meta = role-header [] Meta a.marker w.meta.marker in
          rw (e, m) (header-place (a.marker ∷ []) Meta a.header role (rw m at t) w.meta.others.0 (meta-header a.header))
      | at_row zs xs e m ↦ rw e (meta-row a b c w.meta w.projects w.votes xs r zs w.meta_rows m t)
      | in_rest rest e m ↦ rw e (clear-projects-part a b c w rest r left m t)
    ]

whole-of : (recs : List Rec) (e : Instance) (p : PbText recs e) → Whole p.meta p.projects p.votes
whole-of recs e p = grind arith

-- no fault stands at any place of the text of an election
pub text-faultless : (recs : List Rec) (e : Instance) → PbText recs e → NoFault election_form recs
unfolding election_form
text-faultless recs e p zero = refl
text-faultless recs e p (suc k) = by (slice_get recs k) refl
  where
    by : (o : Option Rec) → slice_get recs k ≡ o → fault_after election_form (take k recs) o ≡ None
    by None h =
        let all : nonblank (take k recs) ≡ part_records p.meta ++ (part_records p.projects ++ part_records p.votes) =
        ap nonblank (past-end recs k h) ∙ p.cut in
        rw all (at-end p.meta p.projects p.votes p.is_meta p.is_projects p.is_votes)
    by (Some r) h =
        elim (cases_Bool (is_blank r)) [
          | inl blank ↦ rw blank refl
          | inr not_blank ↦
              let here : nonblank (r ∷ drop (suc k) recs) ≡ r ∷ nonblank (drop (suc k) recs) = rw not_blank refl in
              let split : nonblank recs ≡ nonblank (take k recs) ++ (r ∷ nonblank (drop (suc k) recs)) =
              ap nonblank (at-place recs k r h)
              ∙ filter-append (λ r. not (is_blank r)) (take k recs) (r ∷ drop (suc k) recs)
              ∙ ap (λ l. nonblank (take k recs) ++ l) here
              in
              let t : is_text r ≡ true =
              all-at (λ r. IsTrue (is_text r)) (nonblank (take k recs)) r (nonblank (drop (suc k) recs))
              (rw split at p.text) in
              rw not_blank
              (clear-at p.meta p.projects p.votes (whole-of recs e p) (nonblank (take k recs)) r
              (nonblank (drop (suc k) recs)) (sym split ∙ p.cut) t)
        ]

pub apart : (recs : List Rec) (e : Instance) (record_number : ℕ) (f : ElectionFault) → PbText recs e → PbFault recs record_number f → ⊥
apart recs e record_number f p q = let n = text-faultless recs e p record_number in let h = q.here in cc (n, h)
