-- The canonical text states the prices that it was made of, and no others.
use Rattle.std.proofs.Common.{◌≡◌, ◌∙◌, ◌≤◌, ◌<◌, ◌+◌, ◌-◌, ◌^◌, ℕ, zero, suc, List, [], ◌∷◌, length, map, refl, sym, ap, subst, arith, true, Some, Option, get_or}
use Rattle.std.specs.Prelude.{codes, decimal, filter_map, flat_map, slice_index_or}
use Rattle.std.specs.List.{AllByRecursion, range_with_len, sum_by}
use Rattle.std.specs.Str.{is_utf8}
use Rattle.std.proofs.lemmas.List.{length-map, map-append}
use Rattle.std.proofs.lemmas.List.Concat.{length-flat_map}
use Rattle.std.proofs.lemmas.Str.{is_utf8-from_IsUtf8}
use Rattle.pb_money.specs.Digits.{drop_back, drop_front}
use Rattle.pb_records.proofs.Lists.{sum-mapped, map-same}
use Rattle.pb_election.specs.Instance.{Instance, all_projects, all_voters, projects, voters}
use Rattle.pb_records.specs.Records.{Rec}
use Rattle.pb_records.specs.Cells.{is_text}
use Rattle.pb_election.specs.Text.{IsElection}
use Rattle.pb_certificate.specs.Prices.Canon.{Canon, canonical_records, head_records, payment_rows, rows_of_voter}
use Rattle.pb_certificate.specs.Faults.{certificate_records}
use Rattle.pb_certificate.specs.Prices.{ArePrices, Prices, payments_of}
use Rattle.pb_certificate.specs.Prices.Text.{IsPriceText, Payment, above_0, payment_of, payments_stated}
use Rattle.pb_certificate.proofs.OnPrices.Canon.Fields.{IsShown, decimal-clean, decimal-some, decimal-text, fields-two, nonblank-all, number-within, row-shown, row-states, text-all, three-shown, two-shown}
use Rattle.pb_certificate.proofs.OnPrices.Payments.{each-of}
use Rattle.pb_certificate.proofs.OnPrices.Canon.ReadBack.{all-records, read-back, voter-map}
use Rattle.pb_certificate.proofs.OnPrices.Canon.StatedBack.{distinct, of_voter, of_voters, ordered, pairs-back, rising, stated-all}
use Rattle.pb_certificate.proofs.Unique.{price-text-same}
use Rattle.pb_certificate.proofs.OnPrices.Canon.Written.{IsPayment, each-payment, row_of}

-- Texts of the head.

head-text : (is_utf8 (codes "pb-prices") ≡ true) × (is_utf8 (codes "1") ≡ true) × (is_utf8 (codes "denominator") ≡ true)
    × (is_utf8 (codes "voter_budget") ≡ true)
unfolding lib.Utf8.encode
head-text = (
  is_utf8-from_IsUtf8 (codes "pb-prices") (codes "pb-prices", (refl, refl)),
  is_utf8-from_IsUtf8 (codes "1") (codes "1", (refl, refl)),
  is_utf8-from_IsUtf8 (codes "denominator") (codes "denominator", (refl, refl)),
  is_utf8-from_IsUtf8 (codes "voter_budget") (codes "voter_budget", (refl, refl)),
)

columns-text : (is_utf8 (codes "voter") ≡ true) × (is_utf8 (codes "project") ≡ true)
    × (is_utf8 (codes "payment") ≡ true)
unfolding lib.Utf8.encode
columns-text = (
  is_utf8-from_IsUtf8 (codes "voter") (codes "voter", (refl, refl)),
  is_utf8-from_IsUtf8 (codes "project") (codes "project", (refl, refl)),
  is_utf8-from_IsUtf8 (codes "payment") (codes "payment", (refl, refl)),
)

heads-shown : (d b : ℕ) → d < 10 ^ 64 → b < 10 ^ 64 → AllByRecursion IsShown (head_records d b)
unfolding drop_back drop_front
heads-shown d b hd hb = (
  two-shown (codes "pb-prices") (codes "1") head-text.0 head-text.1 refl refl,
  (
    two-shown (codes "denominator") (decimal d) head-text.2 (decimal-text d hd) refl refl,
    (
      two-shown (codes "voter_budget") (decimal b) head-text.3 (decimal-text b hb) refl refl,
      (
        three-shown (codes "voter") (codes "project") (codes "payment") columns-text.0 columns-text.1
            columns-text.2 refl refl,
        tt,
      ),
    ),
  ),
)

-- Lists over a range.

indexed : {A : Type 0} (f : ℕ → A) (d : A) (xs : List A) (a : ℕ) → ((k : ℕ) → k < length xs → f (a + k) ≡ get_or xs k d)
    → xs ≡ map f (range_with_len a (length xs))
indexed f d [] a h = refl
indexed f d (x ∷ xs) a h =
    let here : a + 0 ≡ a = omega arith in
    let first : x ≡ f a = sym (h 0 (omega arith)) ∙ ap f here in
    let rest =
    indexed f d xs (a + 1)
    (λ k l. (let past : a + 1 + k ≡ a + suc k = omega arith in ap f past ∙ h (suc k) (omega arith))) in
    λ k. first k ∷ rest k

stated-range : {A B : Type 0} (g : A → Option B) (rows : ℕ → List A) (pays : ℕ → List B) (n a : ℕ)
    → ((i : ℕ) → a ≤ i → i < a + n → map g (rows i) ≡ map Some (pays i))
    → map g (flat_map rows (range_with_len a n)) ≡ map Some (flat_map pays (range_with_len a n))
stated-range g rows pays zero a h = refl
stated-range g rows pays (suc n) a h = grind (arith, map-append, stated-range g rows pays n (a + 1))

-- The payments of some prices for an election.

by-voter : (e : Instance) (p : Prices) → ArePrices e p → p.payments ≡ map (payments_of p) (all_voters e)
by-voter e p a =
    let many : length p.payments ≡ voters e = a.fits.each_voter in
    let each : p.payments ≡ map (payments_of p) (range_with_len 1 (length p.payments)) =
    indexed (payments_of p) [] p.payments 1
    (λ k l. (let past : 1 + k - 1 ≡ k = omega arith in ap (λ (n : ℕ). slice_index_or p.payments n []) past)) in
    each ∙ ap (λ (n : ℕ). map (payments_of p) (range_with_len 1 n)) many

abbrev paid : Instance → Prices → List Payment
paid e p = of_voters (payments_of p) 1 (voters e)

voter-states : (e : Instance) (i : ℕ) (qs : List (ℕ × ℕ)) → IsElection e → 1 ≤ i → i ≤ voters e
    → AllByRecursion (IsPayment (projects e)) qs → map (payment_of e) (rows_of_voter e i qs) ≡ map Some (of_voter i qs)
voter-states e i [] s low high h = refl
voter-states e i (q ∷ qs) s low high h =
    let first = row-states e i q s (low, high) h.0 in
    let rest = voter-states e i qs s low high h.1 in
    λ k. first k ∷ rest k

rows-state : (e : Instance) (p : Prices) → IsElection e → ArePrices e p
    → map (payment_of e) (payment_rows e p) ≡ map Some (paid e p)
rows-state e p s a = grind (arith, stated-range, of_voter, voter-states, each-payment, voter-map)

rows-many : (e : Instance) (p : Prices) → ArePrices e p → length (payment_rows e p) ≤ 10000000
rows-many e p a =
    let rows : length (payment_rows e p) ≡ sum_by (λ i. length (rows_of_voter e i (payments_of p i))) (all_voters e) =
    length-flat_map (λ i. rows_of_voter e i (payments_of p i)) (all_voters e) in
    let each : sum_by (λ i. length (rows_of_voter e i (payments_of p i))) (all_voters e)
    ≡ sum_by (λ i. length (payments_of p i)) (all_voters e) =
    λ k. sum_by (λ i. length-map (payments_of p i) (row_of e i) k) (all_voters e) in
    let lists : sum_by length p.payments ≡ sum_by (λ i. length (payments_of p i)) (all_voters e) =
    ap (sum_by length) (by-voter e p a) ∙ sum-mapped length (payments_of p) (all_voters e) in
    omega arith

voter-stated : (e : Instance) (p : Prices) (i : ℕ) → ArePrices e p → 1 ≤ i → i ≤ voters e
    → payments_of p i ≡ payments_stated e (paid e p) i
voter-stated e p i a low high =
    let is_map = voter-map e p i a low high in
    let back = pairs-back (projects e) 1 (projects e) (payments_of p i) (omega arith) is_map.projects_rise
    (each-of (λ q. 0 < q.1) (payments_of p i) is_map.none_zero) in
    sym ((λ k. filter_map (λ j. above_0 j (stated-all (payments_of p) (voters e) 1 i j low (omega arith) k))
    (all_projects e)) ∙ back)

all-stated : (e : Instance) (p : Prices) → ArePrices e p
    → p.payments ≡ map (payments_stated e (paid e p)) (all_voters e)
all-stated e p a = by-voter e p a
    ∙ map-same (payments_of p) (payments_stated e (paid e p)) (voters e) 1
    (λ i low high. voter-stated e p i a low (omega arith))

-- The law.

shown : (e : Instance) (p : Prices) → IsElection e → ArePrices e p → AllByRecursion IsShown (canonical_records e p)
shown e p s a =
    all-records IsShown e p a (heads-shown p.denominator p.budget (omega arith) (omega arith))
    (λ i q low high h. row-shown e i q s (omega arith) h)

pub records-state : (e : Instance) (p : Prices) → IsElection e → ArePrices e p → IsPriceText (canonical_records e p) e p
unfolding drop_back drop_front
records-state e p s a =
    let d : p.denominator ≤ 10 ^ 9 = a.system.denominator.1 in
    let b : p.budget ≤ 10 ^ 21 = a.system.budget in
    let small_d : p.denominator < 10 ^ 64 = omega arith in
    let small_b : p.budget < 10 ^ 64 = omega arith in
    let all = shown e p s a in
    let same = nonblank-all (canonical_records e p) all in
    let order = ordered (payments_of p) (projects e) (voters e) 1
    (λ i low high. (voter-map e p i a low (omega arith)).projects_rise) in
    record {
      head = codes "pb-prices" ∷ codes "1" ∷ [];
      denominator = codes "denominator" ∷ decimal p.denominator ∷ [];
      budget = codes "voter_budget" ∷ decimal p.budget ∷ [];
      columns = codes "voter" ∷ codes "project" ∷ codes "payment" ∷ [];
      rows = payment_rows e p;
      payments = paid e p;
      cut = same;
      text = subst (AllByRecursion (λ r. is_text r ≡ true)) (sym same) (text-all (canonical_records e p) all);
      is_head = refl;
      is_denominator = (
        decimal p.denominator,
        fields-two (codes "denominator") (decimal p.denominator) refl (decimal-clean p.denominator small_d)
            (decimal-some p.denominator small_d),
        number-within 1 (10 ^ 9) p.denominator a.system.denominator.0 d small_d,
      );
      is_budget = (
        decimal p.budget,
        fields-two (codes "voter_budget") (decimal p.budget) refl (decimal-clean p.budget small_b)
            (decimal-some p.budget small_b),
        number-within 0 (10 ^ 21) p.budget (omega arith) b small_b,
      );
      is_columns = refl;
      each_row = rows-state e p s a;
      in_order = rising (paid e p) order;
      once = distinct (paid e p) order;
      few = rows-many e p a;
      each_project = a.fits.each_project;
      same_payments = all-stated e p a;
    }

pub states : (e : Instance) (p : Prices) → IsElection e → ArePrices e p
    → IsPriceText (certificate_records (Canon e p)) e p
states e p s a = subst (λ (recs : List Rec). IsPriceText recs e p) (sym (read-back e p s a)) (records-state e p s a)

pub no-other : (e : Instance) (p q : Prices) → IsElection e → ArePrices e p
    → IsPriceText (certificate_records (Canon e p)) e q → q ≡ p
no-other e p q s a t = price-text-same (certificate_records (Canon e p)) e q p t (states e p s a)
