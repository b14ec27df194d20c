-- The text of a price certificate is what its records state, one after another.
use Rattle.std.proofs.Common.{◌≡◌, ◌∙◌, ◌<◌, ◌≤◌, ◌+◌, ◌^◌, ℕ, zero, suc, true, false, List, [], ◌∷◌, ◌++◌, length, refl, sym, ap, subst, arith, Option, Some, None, append-nil, append_assoc, drop, length-append}
use Rattle.std.specs.Prelude.{Ok, codes, filter_map, map, nat_le}
use Rattle.std.specs.List.{AllByRecursion, IsDistinct}
use Rattle.std.specs.List.Sorted.{IsNonDecreasing}
use Rattle.std.specs.Result.{result_map_both}
use Rattle.std.proofs.lemmas.Bool.{le-ltb}
use Rattle.std.proofs.lemmas.List.Elements.{All-from_recursion}
use Rattle.pb_election.specs.Instance.{Instance, all_voters, projects}
use Rattle.pb_records.specs.Records.{Field, Rec}
use Rattle.pb_records.specs.Cells.{nonblank}
use Rattle.pb_records.specs.Inside.Headed.{Follow, HeadsState, Taken}
use Rattle.pb_records.proofs.Distinct.{apart-more, each-nil}
use Rattle.pb_records.proofs.Each.{all-every, all-weaker}
use Rattle.pb_records.proofs.Headed.{States, none-same}
use Rattle.pb_records.proofs.Lists.{filter_map-all, map-link}
use Rattle.pb_certificate.specs.Fields.{StatesNumber, fields, project_in, voter_in}
use Rattle.pb_certificate.specs.Inside.Prices.PriorRows.{RiseFrom}
use Rattle.pb_certificate.specs.Prices.{Prices}
use Rattle.pb_certificate.specs.Prices.Kind.{Awaited, awaits_row, price_kind}
use Rattle.pb_certificate.specs.Prices.Kind.Awaited.{Name, Denominator, Budget, Columns, Row}
use Rattle.pb_certificate.specs.Prices.RowFaults.{last_voter, price_row, row_fault, stated_unless}
use Rattle.pb_certificate.specs.Prices.Text.{IsPriceHead, IsPriceText, Payment, numerator_of, payment_by, payment_of, payments_stated, price_columns, price_name, same_pair}
use Rattle.pb_certificate.specs.declared.refusal.CertFault.{CertFault}
use Rattle.pb_certificate.proofs.Cells.{cell-is}
use Rattle.pb_certificate.proofs.Numbers.{whole-is}
use Rattle.pb_certificate.proofs.Heads.{fields-were, head-number-is, number-was}
use Rattle.pb_certificate.proofs.OnPrices.RowSteps.{MayFollow, in-order-push, last_voter-push, may-follow, once-push, voters_of}
use Rattle.pb_certificate.proofs.OnPrices.Texts.{stated-length}

-- The head.

-- head records that are whole are four
heads-are : (e : Instance) (heads : List Rec) (d b : ℕ) → HeadsState (price_kind e) Name heads (Row d b)
    → IsPriceHead d b heads
heads-are e [] d b states = cc states
heads-are e (h ∷ rs) d b states =
    let name = fields-were h price_name Denominator states.0 states.2 in
    behind-name name.0 rs (rw (sym name.1) at states.3)
  where
    behind-columns : (x y z : Rec) (d' b' : ℕ) → fields h ≡ price_name
        → StatesNumber (codes "denominator") 1 (10 ^ 9) x d' → StatesNumber (codes "voter_budget") 0 (10 ^ 21) y b'
        → fields z ≡ price_columns → (rs : List Rec)
        → HeadsState (price_kind e) (Row d' b') rs (Row d b) → IsPriceHead d b (h ∷ x ∷ y ∷ z ∷ rs)
    behind-columns x y z d' b' name denominator budget columns [] more =
        let same_d : d' ≡ d = cc more in
        let same_b : b' ≡ b = cc more in
        record {
          name = h;
          denominator_of = x;
          budget_of = y;
          columns = z;
          cut = refl;
          is_name = name;
          is_denominator = rw (sym same_d) denominator;
          is_budget = rw (sym same_b) budget;
          are_columns = columns;
        }
    behind-columns x y z d' b' name denominator budget columns (r ∷ rs) more = let short = more.1 in cc short

    behind-budget : (x y : Rec) (d' b' : ℕ) → fields h ≡ price_name
        → StatesNumber (codes "denominator") 1 (10 ^ 9) x d' → StatesNumber (codes "voter_budget") 0 (10 ^ 21) y b'
        → (rs : List Rec) → HeadsState (price_kind e) (Columns d' b') rs (Row d b) → IsPriceHead d b (h ∷ x ∷ y ∷ rs)
    behind-budget x y d' b' name denominator budget [] more = cc more
    behind-budget x y d' b' name denominator budget (z ∷ rs) more =
        let columns = fields-were z price_columns (Row d' b') more.0 more.2 in
        behind-columns x y z d' b' name denominator budget columns.0 rs (rw (sym columns.1) at more.3)

    behind-denominator : (x : Rec) (d' : ℕ) → fields h ≡ price_name
        → StatesNumber (codes "denominator") 1 (10 ^ 9) x d' → (rs : List Rec)
        → HeadsState (price_kind e) (Budget d') rs (Row d b) → IsPriceHead d b (h ∷ x ∷ rs)
    behind-denominator x d' name denominator [] more = cc more
    behind-denominator x d' name denominator (y ∷ rs) more =
        let budget = number-was (codes "voter_budget") 0 (10 ^ 21) (λ n. Columns d' n) y more.0 more.2 in
        behind-budget x y d' budget.0 name denominator budget.1 rs (rw (sym budget.2) at more.3)

    behind-name : fields h ≡ price_name → (rs : List Rec) → HeadsState (price_kind e) Denominator rs (Row d b)
        → IsPriceHead d b (h ∷ rs)
    behind-name name [] more = cc more
    behind-name name (x ∷ rs) more =
        let denominator = number-was (codes "denominator") 1 (10 ^ 9) (λ n. Budget n) x more.0 more.2 in
        behind-denominator x denominator.0 name denominator.1 rs (rw (sym denominator.2) at more.3)

heads-state : (e : Instance) (name x y columns : Rec) (d b : ℕ) → fields name ≡ price_name
    → StatesNumber (codes "denominator") 1 (10 ^ 9) x d → StatesNumber (codes "voter_budget") 0 (10 ^ 21) y b
    → fields columns ≡ price_columns
    → HeadsState (price_kind e) Name (name ∷ x ∷ y ∷ columns ∷ []) (Row d b)
heads-state e name x y columns d b is_name is_x is_y are_columns = (
  Denominator,
  refl,
  rw is_name refl,
  (
    Budget d,
    refl,
    ap (result_map_both (λ n. Budget n) (λ f. f)) (head-number-is (codes "denominator") 1 (10 ^ 9) d x is_x),
    (
      Columns d b,
      refl,
      ap (result_map_both (λ n. Columns d n) (λ f. f)) (head-number-is (codes "voter_budget") 0 (10 ^ 21) b y is_y),
      (Row d b, refl, rw are_columns refl, refl),
    ),
  ),
)

-- What a row states.

-- its three fields, and its payment
record Cells (e : Instance) (r : Rec) (q : Payment) : Type 0 where
  v : Field
  c : Field
  x : Field
  shape : fields r ≡ v ∷ c ∷ x ∷ []
  voter : voter_in e v ≡ Some q.voter
  project : project_in e c ≡ Some q.project
  numerator : numerator_of x ≡ Some q.numerator

cells-by : (e : Instance) (r : Rec) (q : Payment) (fs : List Field) → fields r ≡ fs → payment_by e fs ≡ Some q
    → Cells e r q
cells-by e r q fs s h = grind arith

no-fault : (e : Instance) (r : Rec) (q : Payment) → Cells e r q → row_fault e r ≡ None
no-fault e r q row =
    rw (
      ap length row.shape,
      cell-is r (row.v ∷ row.c ∷ row.x ∷ []) 0 row.shape,
      cell-is r (row.v ∷ row.c ∷ row.x ∷ []) 1 row.shape,
      cell-is r (row.v ∷ row.c ∷ row.x ∷ []) 2 row.shape,
      row.voter,
      whole-is _ _ row.v q.voter row.voter,
      row.project,
      row.numerator,
    ) refl

states-row : (e : Instance) (r : Rec) (q : Payment) → payment_of e r ≡ Some q → price_row e r ≡ Ok q
states-row e r q h = rw (no-fault e r q (cells-by e r q (fields r) refl h), h) refl

row-states : (e : Instance) (r : Rec) (q : Payment) → price_row e r ≡ Ok q → payment_of e r ≡ Some q
row-states e r q h = by (row_fault e r) (payment_of e r) refl h
  where
    by : (f : Option CertFault) (p : Option Payment) → payment_of e r ≡ p → stated_unless f p ≡ Ok q → payment_of e r ≡ Some q
    by (Some f) p is k = cc k
    by None None is k = cc k
    by None (Some p) is k = let same : p ≡ q = cc k in is ∙ ap Some same

-- what rows state
rows-state : (e : Instance) (rows : List Rec) (qs : List Payment) → map (payment_of e) rows ≡ map Some qs
    → map (price_row e) rows ≡ map Ok qs
rows-state e rows qs =
    map-link (λ q. Unit {0}) (payment_of e) Some (price_row e) Ok (λ r q any h. states-row e r q h) rows qs
    (all-every (λ q. Unit {0}) qs (λ q. tt))

pub rows-pay : (e : Instance) (rows : List Rec) (qs : List Payment) → map (price_row e) rows ≡ map Ok qs
    → map (payment_of e) rows ≡ map Some qs
rows-pay e rows qs =
    map-link (λ q. Unit {0}) (price_row e) Ok (payment_of e) Some (λ r q any h. row-states e r q h) rows qs
    (all-every (λ q. Unit {0}) qs (λ q. tt))

-- The payments, one after another.

-- voters that do not fall rise from the first on
rest-rises : (low : ℕ) (xs : List ℕ) → IsNonDecreasing (low ∷ xs) → RiseFrom low xs
rest-rises low [] h = tt
rest-rises low (x ∷ xs) h = (
  h 0 1 0 (omega arith) (omega arith),
  rest-rises x xs (λ i j d below within. h (suc i) (suc j) d (omega arith) (omega arith)),
)

all-rise : (xs : List ℕ) → IsNonDecreasing xs → RiseFrom 0 xs
all-rise [] h = tt
all-rise (x ∷ xs) h = (omega arith, rest-rises x xs h)

-- and the other way round
rise-low : (low : ℕ) (xs : List ℕ) → RiseFrom low xs → AllByRecursion (λ y. low ≤ y) xs
rise-low low [] h = tt
rise-low low (x ∷ xs) h =
    let first : low ≤ x = h.0 in
    (first, all-weaker (λ y. x ≤ y) (λ y. low ≤ y) xs (λ y above. omega arith) (rise-low x xs h.1))

-- a number in front of larger ones
pub cons-rises : (x : ℕ) (xs : List ℕ) → AllByRecursion (λ y. x ≤ y) xs → IsNonDecreasing xs → IsNonDecreasing (x ∷ xs)
cons-rises x xs first rest zero zero d below within = omega arith
cons-rises x xs first rest zero (suc j) d below within = All-from_recursion (λ y. x ≤ y) xs first j d (omega arith)
cons-rises x xs first rest (suc i) zero d below within = absurd (omega arith)
cons-rises x xs first rest (suc i) (suc j) d below within = rest i j d (omega arith) (omega arith)

pub nil-rises : IsNonDecreasing []
nil-rises i j d below within = absurd (omega arith)

rises : (low : ℕ) (xs : List ℕ) → RiseFrom low xs → IsNonDecreasing xs
rises low [] h = nil-rises
rises low (x ∷ xs) h = cons-rises x xs (rise-low x xs h.1) (rises x xs h.1)

pair-turned : (p q : Payment) → same_pair p q ≡ same_pair q p
pair-turned p q = grind arith

few-enough : (n : ℕ) → n < 10000000 → nat_le 10000000 n ≡ false
few-enough n h = grind arith

-- payments that stand in order, once each, and aren't too many, may follow one another
follow-from : (e : Instance) (done qs : List Payment) → RiseFrom (last_voter done) (voters_of qs)
    → AllByRecursion (λ q. AllByRecursion (λ p. same_pair p q ≡ false) done) qs → IsDistinct same_pair qs
    → length done + length qs ≤ 10000000 → Follow (price_kind e) done qs
unfolding IsDistinct
follow-from e done [] rise apart once few = tt
follow-from e done (q ∷ qs) rise apart once few =
    let low : last_voter done ≤ q.voter = rise.0 in
    let many : length (done ++ (q ∷ [])) ≡ length done + 1 = length-append done (q ∷ []) in (
      rw (le-ltb q.voter (last_voter done) low, none-same same_pair pair-turned q done apart.0, few-enough (length done) (omega arith)) refl,
      follow-from e (done ++ (q ∷ [])) qs
          (subst (λ (n : ℕ). RiseFrom n (voters_of qs)) (sym (last_voter-push done q)) rise.1)
          (apart-more same_pair done q qs apart.1 once.0) once.1 (omega arith),
    )

-- payments that stand in order, once each, and aren't too many
record Behind (qs : List Payment) : Type 0 where
  in_order : RiseFrom 0 (voters_of qs)
  once : IsDistinct same_pair qs
  few : length qs ≤ 10000000

behind-more : (e : Instance) (done qs : List Payment) → Behind done → Follow (price_kind e) done qs → Behind (done ++ qs)
behind-more e done [] b f = rw (append-nil done) b
behind-more e done (q ∷ qs) b f =
    let after : MayFollow done q = may-follow done q f.0 in
    let fresh : length done < 10000000 = after.few in
    let many : length (done ++ (q ∷ [])) ≡ length done + 1 = length-append done (q ∷ []) in
    subst Behind (append_assoc done (q ∷ []) qs)
    (behind-more e (done ++ (q ∷ [])) qs
    (record {
      in_order = in-order-push done q b.in_order after.not_lower;
      once = once-push done q b.once after.fresh;
      few = omega arith;
    }) f.1)

follow-behind : (e : Instance) (qs : List Payment) → Follow (price_kind e) [] qs → Behind qs
unfolding IsDistinct
follow-behind e qs f = behind-more e [] qs (record { in_order = tt; once = tt; few = omega arith }) f

-- The text.

pub text-states : (recs : List Rec) (e : Instance) (p : Prices) → IsPriceText recs e p → States (price_kind e) recs
text-states recs e p t =
    record {
      so_far = record { head = Row p.denominator p.budget; rows = t.payments };
      taken =
          record {
            heads = t.head ∷ t.denominator ∷ t.budget ∷ t.columns ∷ [];
            rows = t.rows;
            cut = t.cut;
            text = t.text;
            heads_state = heads-state e t.head t.denominator t.budget t.columns p.denominator p.budget t.is_head
                t.is_denominator t.is_budget t.is_columns;
            behind = λ short. cc short;
            rows_state = rows-state e t.rows t.payments t.each_row;
            follow = follow-from e [] t.payments (all-rise (voters_of t.payments) t.in_order)
                (each-nil same_pair t.payments) t.once
                (let many = stated-length (payment_of e) t.rows t.payments t.each_row in let few : length t.rows
                ≤ 10000000 = t.few in omega arith);
          };
      whole = refl;
    }

-- the prices that the records of a file state
abbrev pub prices-by : Instance → ℕ → ℕ → List Payment → Prices
prices-by e d b qs =
    record {
      projects = projects e;
      denominator = d;
      budget = b;
      payments = map (payments_stated e qs) (all_voters e);
    }

-- the head records, and what the rows state
pub heads-of : (e : Instance) (before : List Rec) (d b : ℕ) (qs : List Payment)
    → (t : Taken (price_kind e) before (record { head = Row d b; rows = qs })) → IsPriceHead d b t.heads
heads-of e before d b qs t = heads-are e t.heads d b t.heads_state

pub taken-text : (recs : List Rec) (e : Instance) (d b : ℕ) (qs : List Payment)
    → Taken (price_kind e) (nonblank recs) (record { head = Row d b; rows = qs })
    → IsPriceText recs e (prices-by e d b qs)
taken-text recs e d b qs t =
    let h = heads-of e (nonblank recs) d b qs t in
    let each = rows-pay e t.rows qs t.rows_state in
    let behind = follow-behind e qs t.follow in
    let many = stated-length (payment_of e) t.rows qs each in
    let few : length qs ≤ 10000000 = behind.few in
    record {
      head = h.name;
      denominator = h.denominator_of;
      budget = h.budget_of;
      columns = h.columns;
      rows = t.rows;
      payments = qs;
      cut = t.cut ∙ ap (λ (rs : List Rec). rs ++ t.rows) h.cut;
      text = t.text;
      is_head = h.is_name;
      is_denominator = h.is_denominator;
      is_budget = h.is_budget;
      is_columns = h.are_columns;
      each_row = each;
      in_order = rises 0 (voters_of qs) behind.in_order;
      once = behind.once;
      few = omega arith;
      each_project = refl;
      same_payments = refl;
    }

pub states-text : (recs : List Rec) (e : Instance) → States (price_kind e) recs → (p : Prices) × IsPriceText recs e p
states-text recs e s = by s.so_far.head s.so_far.rows s.taken s.whole
  where
    by : (h : Awaited) (qs : List Payment) → Taken (price_kind e) (nonblank recs) (record { head = h; rows = qs })
        → awaits_row h ≡ true → (p : Prices) × IsPriceText recs e p
    by Name qs t whole = cc whole
    by Denominator qs t whole = cc whole
    by (Budget d) qs t whole = cc whole
    by (Columns d b) qs t whole = cc whole
    by (Row d b) qs t whole = (prices-by e d b qs, taken-text recs e d b qs t)

-- the payments that the rows behind a head state
pub given-behind : (e : Instance) (before : List Rec) (d b : ℕ) (qs : List Payment)
    → Taken (price_kind e) before (record { head = Row d b; rows = qs })
    → filter_map (payment_of e) (drop 4 before) ≡ qs
given-behind e before d b qs t =
    rw (t.cut, (heads-of e before d b qs t).cut)
    (filter_map-all (payment_of e) t.rows qs (rows-pay e t.rows qs t.rows_state))
