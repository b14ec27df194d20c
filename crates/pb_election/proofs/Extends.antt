-- A beginning and one more record, at which no fault stands.
use Rattle.std.proofs.Common.{◌≡◌, ◌≤◌, ◌∙◌, ◌+◌, ◌++◌, ℕ, List, [], ◌∷◌, refl, arith, inl, inr, Bool, true, false, Option, Some, None, append_assoc, length, length-append, zero-add}
use Rattle.std.specs.Prelude.{IfSome, IsSomeAnd, IsTrue, count_by, find, if◌then◌else◌, is_some, Result, Ok, Err}
use Rattle.std.specs.List.{IsDistinct, list_any}
use Rattle.std.specs.Option.{option_map_or}
use Rattle.std.specs.Str.{bytes_eq}
use Rattle.std.proofs.lemmas.Bool.{cases_Bool, or_parts}
use Rattle.std.proofs.lemmas.Cmp.{nat_list_eq_equiv}
use Rattle.std.proofs.lemmas.List.{length-map, map-append}
use Rattle.std.proofs.lemmas.List.Folds.{find-append, list_any-append}
use Rattle.std.proofs.lemmas.List.Sums.{sum_by-append}
use Rattle.std.proofs.lemmas.Map.Keys.{IsDistinct-push}
use Rattle.pb_money.specs.Money.{IsMoney, money_of}
use Rattle.pb_money.specs.declared.MoneyFault.{MoneyFault}
use Rattle.pb_money.proofs.Laws.{is-money, money-value}
use Rattle.pb_records.specs.Records.{Field, Rec}
use Rattle.pb_records.proofs.Each.{all-push}
use Rattle.pb_election.specs.Instance.{approvals}
use Rattle.pb_election.specs.declared.keys.Key.{Key}
use Rattle.pb_election.specs.declared.keys.Key.TheVariants.{Budget, VoteType}
use Rattle.pb_election.specs.declared.sections.Section.{Section}
use Rattle.pb_election.specs.declared.sections.Section.TheVariants.{Meta, Projects, Votes}
use Rattle.pb_election.specs.Names.{is_among}
use Rattle.pb_election.specs.Markers.{is_marker, marker_of, marks}
use Rattle.pb_records.specs.Cells.{is_text}
use Rattle.pb_election.specs.Rows.{ballot_in, ballots_in, columns_of, cost_in, has_key, id_in, ids_in, is_approval, is_id, is_known, key_in, stated_value, value_in, vote_column}
use Rattle.pb_election.specs.Faults.{is_no_money, lowest_fault}
use Rattle.pb_election.specs.Text.{EachKeyOnce, IsPart, Part}
use Rattle.pb_election.specs.Inside.SoFar.{before_next, has_stood, keys_in, next}
use Rattle.pb_election.specs.Inside.Beginnings.{Beginning, AtStart, AfterMeta, InMeta, AfterProjects, InProjects, AfterVotes, InVotes, AllMeta, Good, GoodMeta, GoodProjects, GoodVotes, so_far_of, beginning_records}
use Rattle.pb_election.proofs.KeyLemmas.{count-append, none-found, once-at, once-by}
use Rattle.pb_election.proofs.Taken.{taken-first, taken-header, taken-meta-row, taken-project-row, taken-projects-marker, taken-vote-row, taken-votes-marker}

abbrev pub part_of : Rec → Rec → Part
part_of m h = record { marker = m; header = h; rows = [] }

abbrev pub more : Part → Rec → Part
more a r = record a { rows = a.rows ++ (r ∷ []) }

abbrev pub extend : Beginning → Rec → Beginning
extend AtStart r = AfterMeta r
extend (AfterMeta m) r = InMeta (part_of m r)
extend (InMeta a) r = if is_marker r then AfterProjects a r else InMeta (more a r)
extend (AfterProjects a m) r = InProjects a (part_of m r)
extend (InProjects a b) r = if is_marker r then AfterVotes a b r else InProjects a (more b r)
extend (AfterVotes a b m) r = InVotes a b (part_of m r)
extend (InVotes a b c) r = InVotes a b (more c r)

pub text-extend : (x : Beginning) (r : Rec) → beginning_records (extend x r) ≡ beginning_records x ++ (r ∷ [])
text-extend x r = grind (arith, append_assoc)

marks-section : (s : Section) (r : Rec) → marks s r ≡ true → marker_of r ≡ Some s
marks-section s r h = grind arith

no-marker : (r : Rec) → is_marker r ≡ false → marker_of r ≡ None
no-marker r h = grind arith

part-more : (s : Section) (a : Part) (r : Rec) → IsPart s a → marker_of r ≡ None → IsPart s (more a r)
part-more s a r h e = record { marker = h.marker; others = (h.others.0, all-push _ a.rows r h.others.1 e) }

part-new : (s : Section) (m h : Rec) → marker_of m ≡ Some s → is_marker h ≡ false → IsPart s (part_of m h)
part-new s m h e k = record { marker = e; others = (no-marker h k, tt) }

-- One more row of META.

any-other : (p : Rec → Bool) (xs : List Rec) (r : Rec) → p r ≡ false → list_any p (xs ++ (r ∷ [])) ≡ list_any p xs
any-other p xs r e = grind (arith, list_any-append)

any-new : (p : Rec → Bool) (xs : List Rec) (r : Rec) → p r ≡ true → list_any p (xs ++ (r ∷ [])) ≡ true
any-new p xs r e = grind (arith, list_any-append)

stated_value-other : (key : Key) (xs : List Rec) (r : Rec) → has_key key r ≡ false
    → stated_value key (xs ++ (r ∷ [])) ≡ stated_value key xs
stated_value-other key xs r e = grind (arith, find-append)

stated_value-new : (key : Key) (xs : List Rec) (r : Rec) → list_any (has_key key) xs ≡ false → has_key key r ≡ true
    → stated_value key (xs ++ (r ∷ [])) ≡ Some (value_in r)
stated_value-new key xs r none e = simp (find-append, none-found, e)

count-push : (p : Rec → Bool) (xs : List Rec) (r : Rec) → count_by p xs ≤ 1 → (p r ≡ true → list_any p xs ≡ false)
    → count_by p (xs ++ (r ∷ [])) ≤ 1
count-push p xs r h new =
    elim (cases_Bool (p r)) [
      | inl e ↦
          let one : count_by p (r ∷ []) ≡ 1 = rw e refl in
          omega (arith, count-append p xs (r ∷ []), one, none-count xs (new e))
      | inr e ↦
          let one : count_by p (r ∷ []) ≡ 0 = rw e refl in
          omega (arith, count-append p xs (r ∷ []), one)
    ]
  where
    none-count : (xs : List Rec) → list_any p xs ≡ false → count_by p xs ≡ 0
    none-count [] k = refl
    none-count (y ∷ ys) k =
        let o = or_parts (p y) (list_any p ys) k in
        rw o.0 (none-count ys o.1)

-- a key that did not stand before
new-key : (xs : List Rec) (r : Rec) (key : Key) → option_map_or (has_stood (keys_in xs)) (key_in r) false ≡ false
    → has_key key r ≡ true → list_any (has_key key) xs ≡ false
new-key xs r key h e = grind arith

once-push : (xs : List Rec) (r : Rec) → EachKeyOnce xs → option_map_or (has_stood (keys_in xs)) (key_in r) false ≡ false
    → EachKeyOnce (xs ++ (r ∷ []))
once-push xs r h new = grind (arith, once-by, count-push, once-at, new-key)

-- what is stated keeps its rule with one more row, whose value keeps it where it has the key
stated_value-push : (key : Key) (P : Field → Type 0) (xs : List Rec) (r : Rec) → IfSome (stated_value key xs) P
    → option_map_or (has_stood (keys_in xs)) (key_in r) false ≡ false → (has_key key r ≡ true → P (value_in r))
    → IfSome (stated_value key (xs ++ (r ∷ []))) P
stated_value-push key P xs r h new here = grind (arith, cases_Bool, stated_value-new, new-key, stated_value-other)

money-is : (text : Field) → is_no_money text ≡ false → IsMoney text
money-is text h = by (money_of text) refl
  where
    by : (o : Result ℕ MoneyFault) → money_of text ≡ o → IsMoney text
    by (Err f) e = cc (rw e at h)
    by (Ok v) e =
        let m = is-money text v e in
        rw (money-value text v m) at m

good-meta : (a : Part) (r : Rec) → GoodMeta a → marker_of r ≡ None
    → option_map_or (has_stood (keys_in a.rows)) (key_in r) false ≡ false
    → (has_key VoteType r ≡ true → IsTrue (is_approval (value_in r)))
    → (has_key Budget r ≡ true → is_no_money (value_in r) ≡ false) → GoodMeta (more a r)
good-meta a r h m new type money =
    record {
      part = part-more Meta a r h.part m;
      once = once-push a.rows r h.once new;
      budget = stated_value-push Budget IsMoney a.rows r h.budget new (λ e. money-is (value_in r) (money e));
      vote_type = stated_value-push VoteType (λ value. IsTrue (is_approval value)) a.rows r h.vote_type new type;
    }

-- what is read of one more row of META
next-meta : (a : Part) (r : Rec) (o : Option Key) → key_in r ≡ o → is_marker r ≡ false
    → option_map_or (has_stood (keys_in a.rows)) o false ≡ false
    → next (so_far_of (InMeta a)) r ≡ so_far_of (InMeta (more a r))
next-meta a r o e m new = grind (arith, any-other, stated_value-other, any-new, stated_value-new)

-- META with a budget and the vote type is whole
some-stated : (key : Key) (P : Field → Type 0) (xs : List Rec) → IfSome (stated_value key xs) P
    → list_any (has_key key) xs ≡ true → IsSomeAnd (stated_value key xs) P
some-stated key P xs h any = by (find (has_key key) xs) refl
  where
    is-found : (xs : List Rec) → list_any (has_key key) xs ≡ true → is_some (find (has_key key) xs) ≡ true
    is-found [] k = cc k
    is-found (x ∷ xs) k =
        elim (cases_Bool (has_key key x)) [
          | inl e ↦ rw e refl
          | inr e ↦ rw e (is-found xs (rw e at k))
        ]

    by : (o : Option Rec) → find (has_key key) xs ≡ o → IsSomeAnd (stated_value key xs) P
    by None e = let f = is-found xs any in cc (rw e at f)
    by (Some r) e = rw e (rw e at h)

pub all-meta : (a : Part) → GoodMeta a → list_any (has_key Budget) a.rows ≡ true
    → list_any (has_key VoteType) a.rows ≡ true → AllMeta a
all-meta a h budget type =
    record {
      part = h.part;
      rows = record {
        once = h.once;
        budget = some-stated Budget IsMoney a.rows h.budget budget;
        vote_type = some-stated VoteType (λ value. IsTrue (is_approval value)) a.rows h.vote_type type;
      };
    }

-- One more row of PROJECTS.

good-projects : (b : Part) (r : Rec) → GoodProjects b → marker_of r ≡ None
    → IsTrue (is_id (id_in (columns_of b.header) r)) → is_no_money (cost_in (columns_of b.header) r) ≡ false
    → is_among (ids_in (columns_of b.header) b.rows) (id_in (columns_of b.header) r) ≡ false
    → length (ids_in (columns_of b.header) b.rows) + 1 ≤ 20000 → GoodProjects (more b r)
good-projects b r h m id money new few =
    let columns = columns_of b.header in
    record {
      part = part-more Projects b r h.part m;
      header = h.header;
      rows = record {
        ids = all-push (λ row. IsTrue (is_id (id_in columns row))) b.rows r h.rows.ids id;
        costs = all-push (λ row. IsMoney (cost_in columns row)) b.rows r h.rows.costs
            (money-is (cost_in columns r) money);
        distinct =
            simp map-append
            (IsDistinct-push nat_list_eq_equiv (ids_in columns b.rows) (id_in columns r) h.rows.distinct new);
        few = omega (arith, length-append b.rows (r ∷ []), length-map b.rows (id_in columns), few);
      };
    }

next-project : (a b : Part) (r : Rec) → is_marker r ≡ false
    → next (so_far_of (InProjects a b)) r ≡ so_far_of (InProjects a (more b r))
next-project a b r m = grind (arith, map-append, count-append, zero-add)

-- One more row of VOTES.

good-votes : (b c : Part) (r : Rec) → GoodVotes b c → marker_of r ≡ None
    → IsTrue (is_known (vote_column c.header) (ids_in (columns_of b.header) b.rows) r)
    → length (ballots_in (vote_column c.header) (ids_in (columns_of b.header) b.rows) c.rows) + 1 ≤ 1000000
    → approvals (ballots_in (vote_column c.header) (ids_in (columns_of b.header) b.rows) c.rows)
    + length (ballot_in (vote_column c.header) (ids_in (columns_of b.header) b.rows) r) ≤ 20000000
    → GoodVotes b (more c r)
good-votes b c r h m known few sizes =
    grind (arith, part-more, all-push, length-append, length-map, map-append, sum_by-append)

next-vote : (a b c : Part) (r : Rec) → next (so_far_of (InVotes a b c)) r ≡ so_far_of (InVotes a b (more c r))
next-vote a b c r = simp map-append

-- One more record.

pub record Extends (x : Beginning) (r : Rec) : Type 0 where
  pub good : Good (extend x r)
  pub next : next (so_far_of x) r ≡ so_far_of (extend x r)
  pub text : is_text r ≡ true

distinct-nil : IsDistinct bytes_eq []
unfolding IsDistinct
distinct-nil = tt

extends-meta : (a : Part) (r : Rec) → GoodMeta a → lowest_fault (before_next (so_far_of (InMeta a))) r ≡ None
    → Extends (InMeta a) r
extends-meta a r h l =
    elim (cases_Bool (is_marker r)) [
      | inl m ↦
          let t = taken-projects-marker (before_next (so_far_of (InMeta a))) r refl m l in
          record { good = rw m (all-meta a h t.2 t.3, marks-section Projects r t.1); next = rw m refl; text = t.0 }
      | inr m ↦
          let t = taken-meta-row (before_next (so_far_of (InMeta a))) r refl m l in
          let same : so_far_of (InMeta (more a r)) ≡ so_far_of (extend (InMeta a) r) = rw m refl in
          record {
            good = rw m (good-meta a r h (no-marker r m) t.1 t.2 t.3);
            next = next-meta a r (key_in r) refl m t.1 ∙ same;
            text = t.0;
          }
    ]

extends-projects : (a b : Part) (r : Rec) → AllMeta a → GoodProjects b
    → lowest_fault (before_next (so_far_of (InProjects a b))) r ≡ None → Extends (InProjects a b) r
extends-projects a b r h k l =
    elim (cases_Bool (is_marker r)) [
      | inl m ↦
          let t = taken-votes-marker (before_next (so_far_of (InProjects a b))) r refl m l in
          record { good = rw m (h, k, marks-section Votes r t.1); next = rw m refl; text = t.0 }
      | inr m ↦
          let t = taken-project-row (before_next (so_far_of (InProjects a b))) r refl m l in
          let same : so_far_of (InProjects a (more b r)) ≡ so_far_of (extend (InProjects a b) r) = rw m refl in
          record {
            good = rw m (h, good-projects b r k (no-marker r m) t.1 t.2 t.3 t.4);
            next = next-project a b r m ∙ same;
            text = t.0;
          }
    ]

pub extends : (x : Beginning) (r : Rec) → Good x → lowest_fault (before_next (so_far_of x)) r ≡ None → Extends x r
extends AtStart r h l = grind (arith, taken-first, marks-section)
extends (AfterMeta m) r h l =
    let t = taken-header Meta (before_next (so_far_of (AfterMeta m))) r refl l in
    record {
      good =
          record {
            part = part-new Meta m r h t.1;
            once = (omega arith, (omega arith, (omega arith, (omega arith, tt))));
            budget = tt;
            vote_type = tt;
          };
      next = refl;
      text = t.0;
    }
extends (InMeta a) r h l = extends-meta a r h l
extends (AfterProjects a m) r h l =
    let t = taken-header Projects (before_next (so_far_of (AfterProjects a m))) r refl l in
    record {
      good = (
        h.0,
        record {
          part = part-new Projects m r h.1 t.1;
          header = t.2;
          rows = record { ids = tt; costs = tt; distinct = distinct-nil; few = omega arith };
        },
      );
      next = refl;
      text = t.0;
    }
extends (InProjects a b) r h l = extends-projects a b r h.0 h.1 l
extends (AfterVotes a b m) r h l =
    let t = taken-header Votes (before_next (so_far_of (AfterVotes a b m))) r refl l in
    record {
      good = (
        h.0,
        h.1,
        record {
          part = part-new Votes m r h.2 t.1;
          header = t.2;
          rows = record { known = tt; few = omega arith; few_approvals = omega arith };
        },
      );
      next = refl;
      text = t.0;
    }
extends (InVotes a b c) r h l =
    let t = taken-vote-row (before_next (so_far_of (InVotes a b c))) r refl l in
    record {
      good = (h.0, h.1, good-votes b c r h.2 (no-marker r t.1) t.2 t.3 t.4);
      next = next-vote a b c r;
      text = t.0;
    }
