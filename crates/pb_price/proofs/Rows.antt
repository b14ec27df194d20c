-- The rows of a certificate, one after another.
use Rattle.std.proofs.Common.{◌≡◌, ℕ, ◌+◌, ◌-◌, ◌<◌, ◌≤◌, false, List, [], ◌∷◌, ◌++◌, length, drop, take, refl, sym, ◌∙◌, ap, subst, arith, length-append, length-drop}
use Rattle.std.specs.Prelude.{◌&&◌, ◌==◌, filter_map, map, not}
use Rattle.std.specs.List.{list_any}
use Rattle.std.proofs.lemmas.Bool.{and_left, and_right, eq-eqb, ne_eqb}
use Rattle.std.proofs.lemmas.List.{length_push, take-append-drop, append-nil}
use Rattle.std.proofs.lemmas.List.Elements.{filter-append}
use Rattle.pb_money.specs.Grains.{payment_grains}
use Rattle.pb_records.proofs.Lists.{filter_map-all}
use Rattle.pb_election.specs.Instance.{Instance, IsProject, IsVoter}
use Rattle.pb_records.specs.Records.{Rec}
use Rattle.pb_records.specs.Cells.{is_blank, nonblank}
use Rattle.pb_certificate.specs.Prices.RowFaults.{as_payment, last_number, last_voter}
use Rattle.pb_certificate.specs.Prices.Text.{IsPriceText, Payment, payment_of, same_pair, stated}
use Rattle.pb_certificate.specs.Prices.{Prices}
use Rattle.pb_certificate.specs.Prices.Rows.{ComesNext, GivesRow, Rows, given}
use Rattle.pb_certificate.specs.declared.prices.row.PriceRow.{PriceRow}
use Rattle.pb_certificate.proofs.OnPrices.RowSteps.{may-follow}
use Rattle.pb_certificate.proofs.OnPrices.Texts.{stated-length}
use Rattle.pb_price.specs.Inside.Tallies.{CanTakeRow, TakesRow, Tallied}
use Rattle.pb_price.specs.Inside.Tallying.{taken_from}
use Rattle.pb_price.specs.declared.open_tally.OpenTally.{OpenTally}

none-before : (q x : Payment) (qs : List Payment) → list_any (same_pair q) (x ∷ qs) ≡ false
    → (((x.voter == q.voter) && (x.project == q.project)) ≡ false) × (list_any (same_pair q) qs ≡ false)
none-before q x qs h = grind arith

pub stated-none : (qs : List Payment) (q : Payment) → list_any (same_pair q) qs ≡ false
    → stated qs q.voter q.project ≡ 0
stated-none [] q h = refl
stated-none (x ∷ xs) q h = let parts = none-before q x xs h in rw parts.0 (stated-none xs q parts.1)

pub stated-here : (qs : List Payment) (q : Payment) → list_any (same_pair q) qs ≡ false
    → stated (qs ++ (q ∷ [])) q.voter q.project ≡ q.numerator
stated-here [] q h = rw (eq-eqb q.voter q.voter refl, eq-eqb q.project q.project refl) refl
stated-here (x ∷ xs) q h = let parts = none-before q x xs h in rw parts.0 (stated-here xs q parts.1)

pub stated-other : (qs : List Payment) (q : Payment) (i c : ℕ) → ((q.voter == i) && (q.project == c)) ≡ false
    → stated (qs ++ (q ∷ [])) i c ≡ stated qs i c
stated-other [] q i c h = rw h refl
stated-other (x ∷ xs) q i c h = rw (stated-other xs q i c h) refl

-- the row that is given is taken

pub takes-row : (old new : Rows) (q : PriceRow) → GivesRow old new q → TakesRow (taken_from old) (taken_from new) q
takes-row old new q g =
    let f = may-follow (given old) (as_payment q) g.follows in
    record {
      budget = ap (λ x. payment_grains x.budget) g.same;
      rows = ap length g.given_then ∙ length_push (given old) (as_payment q);
      none_yet = stated-none (given old) (as_payment q) f.fresh;
      here = ap (λ qs. stated qs q.voter q.project) g.given_then ∙ stated-here (given old) (as_payment q) f.fresh;
      voters =
          λ i c ne.
          (ap (λ qs. stated qs i c) g.given_then
          ∙ stated-other (given old) (as_payment q) i c
          (and_left (q.voter == i) (q.project == c) (ne_eqb q.voter i (λ e. ne (sym e)))));
      projects =
          λ i c ne.
          (ap (λ qs. stated qs i c) g.given_then
          ∙ stated-other (given old) (as_payment q) i c
          (and_right (q.voter == i) (q.project == c) (ne_eqb q.project c (λ e. ne (sym e)))));
    }

pub can-take : (e : Instance) (old new : Rows) (q : PriceRow) (t : OpenTally) → GivesRow old new q → old.election ≡ e
    → Tallied e (taken_from old) t → t.tally.closed ≤ last_voter (given old) - 1 → CanTakeRow e t q
can-take e old new q t g is h closed =
    let f = may-follow (given old) (as_payment q) g.follows in
    let voter : IsVoter e q.voter = subst (λ x. IsVoter x q.voter) is g.voter in
    record {
      taken = taken_from old;
      tallied = h;
      voter = voter;
      project = subst (λ x. IsProject x q.project) is g.project;
      small = g.small;
      follows = omega (arith, closed, f.not_lower, voter.0);
      none_yet = stated-none (given old) (as_payment q) f.fresh;
      few = omega (arith, f.few);
    }

pub few-then : (old new : Rows) (q : PriceRow) → GivesRow old new q → length (given new) ≤ 10000000
few-then old new q g = grind (arith, may-follow, length_push)

last-of : (n : ℕ) (qs : List Payment) (q : Payment)
    → last_number n (map (λ (p : Payment). p.voter) (qs ++ (q ∷ []))) ≡ q.voter
last-of n [] q = refl
last-of n (x ∷ xs) q = last-of x.voter xs q

pub last-then : (old new : Rows) (q : PriceRow) → GivesRow old new q → last_voter (given new) ≡ q.voter
last-then old new q g = ap last_voter g.given_then ∙ last-of 0 (given old) (as_payment q)

-- fewer records are left
pub falls : (old new : Rows) (r : Rec) → ComesNext old new.record_number r → new.records ≡ old.records
    → length new.records - new.record_number < length old.records - old.record_number
falls old new r n same =
    let left : length old.records - old.record_number ≡ length n.blanks + length (r ∷ n.rest) =
    sym (length-drop old.record_number old.records) ∙ ap length n.cut ∙ length-append n.blanks (r ∷ n.rest) in
    omega (arith, ap length same, n.at, left)

all-behind : (recs : List Rec) (n : ℕ) → nonblank (drop n recs) ≡ [] → nonblank (take n recs) ≡ nonblank recs
all-behind recs n none =
    sym (ap nonblank (sym (take-append-drop n recs)) ∙ filter-append (λ r. not (is_blank r)) (take n recs) (drop n recs)
    ∙ ap (λ ys. nonblank (take n recs) ++ ys) none ∙ append-nil (nonblank (take n recs)))

pub rows-are : (s : Rows) (p : Prices) (t : IsPriceText s.records s.election p) → nonblank (drop s.record_number s.records) ≡ []
    → drop 4 (nonblank (take s.record_number s.records)) ≡ t.rows
rows-are s p t none = ap (drop 4) (all-behind s.records s.record_number none ∙ t.cut)

pub given-is : (s : Rows) (p : Prices) (t : IsPriceText s.records s.election p) → nonblank (drop s.record_number s.records) ≡ []
    → given s ≡ t.payments
given-is s p t none = ap (filter_map (payment_of s.election)) (rows-are s p t none)
    ∙ filter_map-all (payment_of s.election) t.rows t.payments t.each_row

pub count-is : (s : Rows) (p : Prices) (t : IsPriceText s.records s.election p) → nonblank (drop s.record_number s.records) ≡ []
    → length (given s) ≡ length (drop 4 (nonblank s.records))
count-is s p t none =
    ap length (given-is s p t none) ∙ stated-length (payment_of s.election) t.rows t.payments t.each_row
    ∙ ap length (sym (ap (drop 4) t.cut))
