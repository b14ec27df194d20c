-- One more row of a price certificate.
use Rattle.std.proofs.Common.{◌≡◌, ◌∙◌, ◌≤◌, ◌^◌, ℕ, Bool, true, false, List, [], ◌∷◌, ◌++◌, length, refl, sym, ap, subst, inl, inr, arith, Some, None, drop}
use Rattle.std.specs.Prelude.{◌⊎◌, MatchResult, Option, Result, Ok, Err, filter_map, map}
use Rattle.std.specs.Result.{result_err}
use Rattle.std.proofs.lemmas.Bool.{false≢true}
use Rattle.pb_election.specs.Instance.{Instance}
use Rattle.pb_records.specs.Headed.{after}
use Rattle.pb_records.specs.Records.{Rec}
use Rattle.pb_records.specs.Cells.{is_text, nonblank}
use Rattle.pb_records.specs.Inside.Headed.{Taken}
use Rattle.pb_records.specs.Inside.Position.{MeetsEnd, MeetsRecord, MeetsTriple, Position}
use Rattle.pb_records.specs.Inside.Lines.{IsTriple}
use Rattle.pb_records.specs.declared.lines.Triple.{Triple}
use Rattle.pb_records.proofs.BlankText.{not-text-is-full}
use Rattle.pb_records.proofs.Headed.{form-here, nothing-taken, taken-more}
use Rattle.pb_certificate.specs.Faults.{certificate_records, no_memory, price_form}
use Rattle.pb_certificate.specs.Inside.Prices.Places.{Comes, StandsBehind}
use Rattle.pb_certificate.specs.Inside.Prices.Head.{ReadsHead, StandsInHead}
use Rattle.pb_certificate.specs.Prices.Kind.{price_kind}
use Rattle.pb_certificate.specs.Prices.Kind.Awaited.{Name, Row}
use Rattle.pb_certificate.specs.Prices.RowFaults.{as_payment, payment_fault, row_fault}
use Rattle.pb_certificate.specs.Prices.Text.{IsPriceText, Payment, payment_of}
use Rattle.pb_certificate.specs.Inside.Prices.PriorRows.{RefusesPayment, TakesPayment, TakesRecord}
use Rattle.pb_certificate.specs.Inside.Prices.RowReader.{Advances, IsReading, place_of}
use Rattle.pb_certificate.specs.Prices.Rows.{IsBetweenRows, IsInHead, RefusesNext, given}
use Rattle.pb_certificate.specs.declared.prices.row.PriceRow.{PriceRow}
use Rattle.pb_certificate.specs.declared.prices.prior_rows.PriorRows.{PriorRows}
use Rattle.pb_certificate.specs.declared.prices.row_reader.RowReader.{RowReader}
use Rattle.pb_certificate.specs.declared.refusal.CertFault.{CertFault}
use Rattle.pb_certificate.specs.declared.refusal.CertRefusal.{CertRefusal}
use Rattle.pb_certificate.proofs.OnPrices.HeadSteps.{bytes-refused}
use Rattle.pb_certificate.proofs.OnPrices.PlaceSteps.{at-end, goes-behind, refused-at}
use Rattle.pb_certificate.proofs.OnPrices.Stated.{given-behind, heads-of, prices-by, rows-pay, taken-text}
use Rattle.pb_certificate.proofs.OnPrices.Texts.{within-some}

-- whether a record comes, where that is known
pub comes-record : (old from new : Position) (b : Bool) → Comes from new (Ok b) → from ≡ old → b ≡ true
    → MeetsRecord old new
comes-record old from new true c same is = subst (λ (x : Position). MeetsRecord x new) same c
comes-record old from new false c same is = absurd (false≢true is)

pub comes-end : (old from new : Position) (b : Bool) → Comes from new (Ok b) → from ≡ old → b ≡ false → MeetsEnd old new
comes-end old from new false c same is = subst (λ (x : Position). MeetsEnd x new) same c
comes-end old from new true c same is = absurd (false≢true (sym is))

-- what a reader has given
pub given-is : (r : RowReader) (h : IsReading r) → given (place_of r) ≡ h.payments
given-is r h =
    ap (λ (recs : List Rec). filter_map (payment_of r.election.now) (drop 4 recs)) h.stands.behind
    ∙ given-behind r.election.now h.before r.denominator r.budget h.payments h.taken

-- a reader stands between rows
pub between-rows : (r : RowReader) → IsReading r → IsBetweenRows (place_of r)
between-rows r h =
    let e = r.election.now in
    record {
      heads = h.taken.heads;
      rows = h.taken.rows;
      behind = h.stands.behind ∙ h.taken.cut;
      is_head = heads-of e h.before r.denominator r.budget h.payments h.taken;
      each_row = rows-pay e h.taken.rows h.payments h.taken.rows_state ∙ ap (map Some) (sym (given-is r h));
      within = h.stands.within;
      clear = h.stands.clear;
    }

-- the bounds of the numbers that the head states
pub head-bounds : (r : RowReader) → IsReading r
    → (1 ≤ r.denominator) × (r.denominator ≤ 10 ^ 9) × (r.budget ≤ 10 ^ 21)
head-bounds r h =
    let head = heads-of r.election.now h.before r.denominator r.budget h.payments h.taken in
    let denominator = within-some 1 (10 ^ 9) head.is_denominator.0 r.denominator head.is_denominator.2 in
    let budget = within-some 0 (10 ^ 21) head.is_budget.0 r.budget head.is_budget.2 in
    (denominator.0, denominator.1, budget.1)

-- what one more row gives
after-row : (e : Instance) (d b : ℕ) (qs : List Payment) (r : Rec) (q : Payment) → row_fault e r ≡ None
    → payment_of e r ≡ Some q → payment_fault qs q ≡ None
    → after (price_kind e) (record { head = Row d b; rows = qs }) r
    ≡ Ok (record { head = Row d b; rows = qs ++ (q ∷ []) })
after-row e d b qs r q none states may = rw (none, states, may) refl

-- a row is given
row-taken : (old : RowReader) (cursor : Position) (prior : PriorRows) (q : PriceRow) → IsReading old
    → MeetsRecord old.cursor cursor → TakesPayment old.election.now cursor.row old.prior prior q
    → length prior.last_payers.items ≡ length old.prior.last_payers.items
    → Advances old (record old { cursor = cursor; prior = prior }) (Ok (Some q))
unfolding price_form
row-taken old cursor prior q h m t many =
    let e = old.election.now in
    let recs = certificate_records old.bytes.now in
    let r = cursor.row in
    let admitted = t.admits h.payments h.remembers in
    let more = after-row e old.denominator old.budget h.payments r (as_payment q) t.no_fault t.states admitted.0 in
    let clear = form-here (price_kind e) h.before (record { head = Row old.denominator old.budget; rows = h.payments })
    r h.taken m.is_utf8 ∙ ap result_err more in
    let reading : IsReading (record old { cursor = cursor; prior = prior }) =
    record {
      before = h.before ++ (r ∷ []);
      payments = h.payments ++ (as_payment q ∷ []);
      taken = taken-more (price_kind e) h.before (record { head = Row old.denominator old.budget; rows = h.payments })
          (record { head = Row old.denominator old.budget; rows = h.payments ++ (as_payment q ∷ []) }) r h.taken
          m.is_utf8 more;
      stands = goes-behind (price_form e) recs old.cursor cursor h.before h.stands m clear;
      remembers = admitted.1;
      each_project = many ∙ h.each_project;
    } in (
      record {
        record_of = r;
        next =
            record {
              blanks = m.blanks;
              rest = cursor.left;
              are_blank = m.are_blank;
              is_full = m.is_full;
              cut = sym h.stands.left ∙ m.cut;
              at = m.at;
            };
        states = t.states;
        same = refl;
        between = between-rows (record old { cursor = cursor; prior = prior }) reading;
        given_then = given-is (record old { cursor = cursor; prior = prior }) reading
            ∙ ap (λ (qs : List Payment). qs ++ (as_payment q ∷ [])) (sym (given-is old h));
        voter = t.voter;
        project = t.project;
        small = t.small;
        follows =
            subst (λ (qs : List Payment). payment_fault qs (as_payment q) ≡ None) (sym (given-is old h)) admitted.0;
      },
      reading,
    )

-- the same where the row was given by its numbers
triple-taken : (old : RowReader) (cursor : Position) (t : Triple) (prior : PriorRows) (q : PriceRow)
    → IsReading old → (m : MeetsTriple t old.cursor cursor)
    → TakesPayment old.election.now m.row old.prior prior q
    → length prior.last_payers.items ≡ length old.prior.last_payers.items
    → Advances old (record old { cursor = cursor; prior = prior }) (Ok (Some q))
triple-taken old cursor t prior q h m takes many =
    let given = row-taken old (record cursor { row = m.row }) prior q h m.met takes many in
    let r = given.1 in (
      given.0,
      record {
        before = r.before;
        payments = r.payments;
        taken = r.taken;
        stands =
            record {
              within = r.stands.within;
              left = r.stands.left;
              behind = r.stands.behind;
              text = r.stands.text;
              clear = r.stands.clear;
            };
        remembers = r.remembers;
        each_project = r.each_project;
      },
    )

-- a row is refused
row-fault : (e : Instance) (d b : ℕ) (qs : List Payment) (r : Rec) (f : CertFault) → row_fault e r ≡ Some f
    → result_err (after (price_kind e) (record { head = Row d b; rows = qs }) r) ≡ Some f
row-fault e d b qs r f is = rw is refl

place-fault : (e : Instance) (d b : ℕ) (qs : List Payment) (r : Rec) (q : Payment) (f : CertFault)
    → row_fault e r ≡ None → payment_of e r ≡ Some q → payment_fault qs q ≡ Some f
    → result_err (after (price_kind e) (record { head = Row d b; rows = qs }) r) ≡ Some f
place-fault e d b qs r q f none states is = rw (none, states, is) refl

row-form : (old : RowReader) (r : Rec) (f : CertFault) (h : IsReading old) → is_text r ≡ true
    → (row_fault old.election.now r ≡ Some f) ⊎ RefusesPayment old.election.now r old.prior f
    → price_form old.election.now h.before (Some r) ≡ Some f
unfolding price_form
row-form old r f h text why =
    let e = old.election.now in
    form-here (price_kind e) h.before (record { head = Row old.denominator old.budget; rows = h.payments }) r h.taken text
    ∙ elim why [
      | inl by_itself ↦ row-fault e old.denominator old.budget h.payments r f by_itself
      | inr by_place ↦ place-fault e old.denominator old.budget h.payments r by_place.payment f by_place.no_fault
          by_place.states (by_place.stops h.payments h.remembers)
    ]

row-refused : (old : RowReader) (new : Position) (f : CertFault) → IsReading old → MeetsRecord old.cursor new
    → (row_fault old.election.now new.row ≡ Some f) ⊎ RefusesPayment old.election.now new.row old.prior f
    → RefusesNext (place_of old) (record { fault = f; record_number = new.record_number })
row-refused old new f h m why =
    let e = old.election.now in
    record {
      record_of = new.row;
      next =
          record {
            blanks = m.blanks;
            rest = new.left;
            are_blank = m.are_blank;
            is_full = m.is_full;
            cut = sym h.stands.left ∙ m.cut;
            at = m.at;
          };
      first =
          (refused-at (price_form e) (certificate_records old.bytes.now) old.cursor new h.before f h.stands m (row-form old new.row f h m.is_utf8 why)).first;
    }

-- a row is given or refused
pub row-answered : (old : RowReader) (cursor : Position) (prior : PriorRows) (taken : Result PriceRow CertFault)
    (record_number : ℕ) (r : Result (Option PriceRow) CertRefusal) → IsReading old → MeetsRecord old.cursor cursor
    → TakesRecord old.election.now cursor.row old.prior prior taken
    → length prior.last_payers.items ≡ length old.prior.last_payers.items → record_number ≡ cursor.record_number
    → MatchResult taken (λ q. r ≡ Ok (Some q)) (λ f. r ≡ Err (record { fault = f; record_number = record_number }))
    → Advances old (record old { cursor = cursor; prior = prior }) r
row-answered old cursor prior taken record_number r h m takes many at is = grind (arith, row-taken, row-refused)

pub triple-answered : (old : RowReader) (cursor : Position) (t : Triple) (prior : PriorRows)
    (taken : Result PriceRow CertFault) (record_number : ℕ) (r : Result (Option PriceRow) CertRefusal) → IsReading old
    → MeetsTriple t old.cursor cursor
    → ((r : Rec) → IsTriple t r → TakesRecord old.election.now r old.prior prior taken)
    → length prior.last_payers.items ≡ length old.prior.last_payers.items → record_number ≡ cursor.record_number
    → MatchResult taken (λ q. r ≡ Ok (Some q)) (λ f. r ≡ Err (record { fault = f; record_number = record_number }))
    → Advances old (record old { cursor = cursor; prior = prior }) r
triple-answered old cursor t prior (Ok q) record_number r h m takes many at is =
    rw is (triple-taken old cursor t prior q h m (takes m.row m.fields) many)
triple-answered old cursor t prior (Err f) record_number r h m takes many at is =
    rw (is, at) (inr (row-refused old (record cursor { row = m.row }) f h m.met (takes m.row m.fields)))

-- no record is met
pub next-refused : (old : RowReader) (new : Position) (r : CertRefusal) → IsReading old
    → Comes old.cursor new (Err r) → (r ≡ no_memory) ⊎ RefusesNext (place_of old) r
next-refused old new r h comes = elim comes [
  | inl memory ↦ inl memory
  | inr bad ↦
      elim (bytes-refused old.election.now (certificate_records old.bytes.now) h.before old.cursor new r
      h.stands (inr bad)) [
        | inl memory ↦ inl memory
        | inr refused ↦ inr (record {
          record_of = bad.2.bad;
          next =
              record {
                blanks = bad.2.blanks;
                rest = bad.2.rest;
                are_blank = bad.2.are_blank;
                is_full = not-text-is-full bad.2.bad bad.2.is_not_utf8;
                cut = sym h.stands.left ∙ bad.2.cut;
                at = bad.1 ∙ bad.2.at;
              };
          first = refused.first;
        })
      ]
]

-- the end
pub none-left : (old : RowReader) (cursor : Position) → IsReading old → MeetsEnd old.cursor cursor
    → Advances old (record old { cursor = cursor }) (Ok None)
none-left old cursor h m =
    let e = old.election.now in
    let recs = certificate_records old.bytes.now in
    let end = at-end (price_form e) recs old.cursor cursor h.before h.stands m in
    let reading : IsReading (record old { cursor = cursor }) =
    record {
      before = h.before;
      payments = h.payments;
      taken = h.taken;
      stands = end.0;
      remembers = h.remembers;
      each_project = h.each_project;
    } in (
      record {
        no_row_left = ap nonblank (sym h.stands.left) ∙ m.are_blank;
        same = refl;
        between = between-rows (record old { cursor = cursor }) reading;
        given_then = given-is (record old { cursor = cursor }) reading ∙ sym (given-is old h);
        states =
            subst (λ (qs : List Payment). IsPriceText recs e (prices-by e old.denominator old.budget qs))
            (sym (given-is old h))
            (taken-text recs e old.denominator old.budget h.payments
            (subst
            (λ (all : List Rec). Taken (price_kind e) all
            (record { head = Row old.denominator old.budget; rows = h.payments })) (sym end.1) h.taken));
      },
      reading,
    )

-- the start
at-start : (e : Instance) (recs : List Rec) (c : Position) → c.record_number ≡ 0 → c.left ≡ recs
    → StandsBehind (price_form e) recs c []
unfolding price_form
at-start e recs c record_number left = grind arith

pub opened : (e : Instance) (recs : List Rec) (c : Position) → c.record_number ≡ 0 → c.left ≡ recs
    → StandsInHead e recs c [] Name
unfolding price_form
opened e recs c record_number left =
    record { stands = at-start e recs c record_number left; taken = nothing-taken (price_kind e) }

pub refused-in-head : (recs : List Rec) (e : Instance) (new : Position) (r : CertRefusal) → ReadsHead e recs new (Err r)
    → IsInHead recs r
refused-in-head recs e new r h = elim h [ inl memory ↦ inl memory | inr at ↦ inr at.1 ]
