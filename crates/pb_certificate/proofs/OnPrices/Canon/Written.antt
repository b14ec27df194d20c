-- The canonical text, as far as it has been written.
use Rattle.std.proofs.Common.{◌≡◌, ◌∙◌, ◌≤◌, ◌<◌, ◌+◌, ◌-◌, ◌^◌, ℕ, zero, suc, List, [], ◌∷◌, ◌++◌, length, map, refl, sym, ap, arith, add-one, append_assoc, append-nil, take, get_or}
use Rattle.std.specs.Prelude.{codes, decimal, flat_map}
use Rattle.std.specs.List.{AllByRecursion, range_with_len}
use Rattle.std.proofs.Math.Seq.{take-suc}
use Rattle.std.proofs.lemmas.Grind.{flat_map-append}
use Rattle.std.proofs.lemmas.List.{map-append, take_all}
use Rattle.csv.specs.Writing.{default_writer, row_text}
use Rattle.pb_records.proofs.Lists.{range-push}
use Rattle.pb_election.specs.Instance.{Instance, IsProject, IsSet, id_of, projects}
use Rattle.pb_records.specs.Records.{Rec}
use Rattle.pb_election.specs.Text.{IsElection, IsId}
use Rattle.pb_certificate.specs.Prices.Canon.{Canon, head_records, line, lines, payment_rows, rows_of_voter}
use Rattle.pb_certificate.specs.Prices.{IsPaymentMap, Prices, payments_of}
use Rattle.pb_certificate.proofs.OnPrices.Canon.Lines.{ArePlain, decimal-plain, id-plain, row-line}
use Rattle.pb_certificate.proofs.OnPrices.Payments.{each-of}

-- The head.

join-four : (a b c d h : List ℕ) → (((h ++ a) ++ b) ++ c) ++ d ≡ h ++ (a ++ (b ++ (c ++ (d ++ []))))
join-four a b c d h = simp (append_assoc, append-nil)

name-line : row_text default_writer (codes "pb-prices" ∷ codes "1" ∷ []) ≡ line (codes "pb-prices" ∷ codes "1" ∷ [])
name-line = row-line (codes "pb-prices") (codes "1") [] (refl, (refl, tt))

denominator-line : (d : ℕ) → d < 10 ^ 64 → row_text default_writer (codes "denominator" ∷ decimal d ∷ [])
    ≡ line (codes "denominator" ∷ decimal d ∷ [])
denominator-line d h = row-line (codes "denominator") (decimal d) [] (refl, (decimal-plain d h, tt))

budget-line : (b : ℕ) → b < 10 ^ 64 → row_text default_writer (codes "voter_budget" ∷ decimal b ∷ [])
    ≡ line (codes "voter_budget" ∷ decimal b ∷ [])
budget-line b h = row-line (codes "voter_budget") (decimal b) [] (refl, (decimal-plain b h, tt))

columns-line : row_text default_writer (codes "voter" ∷ codes "project" ∷ codes "payment" ∷ [])
    ≡ line (codes "voter" ∷ codes "project" ∷ codes "payment" ∷ [])
columns-line = row-line (codes "voter") (codes "project") (codes "payment" ∷ []) (refl, (refl, (refl, tt)))

pub heads-written : (d b : ℕ) (h0 h1 h2 h3 h4 : List ℕ) → d < 10 ^ 64 → b < 10 ^ 64
    → h1 ≡ h0 ++ row_text default_writer (codes "pb-prices" ∷ codes "1" ∷ [])
    → h2 ≡ h1 ++ row_text default_writer (codes "denominator" ∷ decimal d ∷ [])
    → h3 ≡ h2 ++ row_text default_writer (codes "voter_budget" ∷ decimal b ∷ [])
    → h4 ≡ h3 ++ row_text default_writer (codes "voter" ∷ codes "project" ∷ codes "payment" ∷ [])
    → h4 ≡ h0 ++ lines (head_records d b)
heads-written d b h0 h1 h2 h3 h4 hd hb e1 e2 e3 e4 =
    grind (arith, name-line, denominator-line, budget-line, columns-line, join-four)

-- The rows of a voter.

set-within : (low high : ℕ) (xs : List ℕ) → 1 ≤ low → IsSet low high xs → AllByRecursion (λ x. (1 ≤ x) × (x ≤ high)) xs
set-within low high [] l h = tt
set-within low high (x ∷ xs) l h = ((omega (arith, h.0), h.1), set-within (x + 1) high xs (omega arith) h.2)

-- what holds of each payment of a voter
pub record IsPayment (most_project : ℕ) (q : ℕ × ℕ) : Type 0 where
  pub low : 1 ≤ q.0
  pub high : q.0 ≤ most_project
  pub some : 0 < q.1
  pub small : q.1 ≤ 10 ^ 21

pub each-payment : (m : ℕ) (qs : List (ℕ × ℕ)) → IsPaymentMap m qs → AllByRecursion (IsPayment m) qs
each-payment m qs h =
    join qs (set-within 1 m (map (λ q. q.0) qs) (omega arith) h.projects_rise) (each-of (λ q. 0 < q.1) qs h.none_zero)
    (each-of (λ q. q.1 ≤ 10 ^ 21) qs h.none_large)
  where
    join : (ps : List (ℕ × ℕ)) → AllByRecursion (λ x. (1 ≤ x) × (x ≤ m)) (map (λ q. q.0) ps)
        → AllByRecursion (λ (q : ℕ × ℕ). 0 < q.1) ps → AllByRecursion (λ (q : ℕ × ℕ). q.1 ≤ 10 ^ 21) ps
        → AllByRecursion (IsPayment m) ps
    join [] a b c = tt
    join (p ∷ ps) a b c = (record { low = a.0.0; high = a.0.1; some = b.0; small = c.0 }, join ps a.1 b.1 c.1)

pub all-at : {A : Type 0} (P : A → Type 0) (xs : List A) (k : ℕ) (d : A) → AllByRecursion P xs → k < length xs
    → P (get_or xs k d)
all-at P [] k d h l = absurd (omega arith)
all-at P (x ∷ xs) zero d h l = h.0
all-at P (x ∷ xs) (suc k) d h l = all-at P xs k d h.1 (omega arith)

pub payment-at : (m : ℕ) (qs : List (ℕ × ℕ)) (k : ℕ) → IsPaymentMap m qs → k < length qs
    → IsPayment m (get_or qs k (0, 0))
payment-at m qs k h l = all-at (IsPayment m) qs k (0, 0) (each-payment m qs h) l

pub id-at : (e : Instance) (j : ℕ) → IsElection e → IsProject e j → IsId (id_of e j)
id-at e j s p = grind (arith, all-at)

-- the record of a payment
abbrev pub row_of : Instance → ℕ → ℕ × ℕ → Rec
row_of e i q = decimal i ∷ id_of e q.0 ∷ decimal q.1 ∷ []

pub row-plain : (e : Instance) (i : ℕ) (q : ℕ × ℕ) → IsElection e → i < 10 ^ 64 → IsPayment (projects e) q
    → ArePlain (row_of e i q)
row-plain e i q s v h = grind (arith, decimal-plain, id-plain, id-at)

pub lines-push : (rows : List Rec) (r : Rec) → lines (rows ++ (r ∷ [])) ≡ lines rows ++ line r
lines-push rows r = flat_map-append line rows (r ∷ []) ∙ ap (λ (x : List ℕ). lines rows ++ x) (append-nil (line r))

-- one more row of a voter
pub row-written : (e : Instance) (i : ℕ) (qs : List (ℕ × ℕ)) (k : ℕ) (old before after : List ℕ) → IsElection e
    → i < 10 ^ 64 → IsPaymentMap (projects e) qs → k < length qs
    → before ≡ old ++ lines (rows_of_voter e i (take k qs))
    → after ≡ before ++ row_text default_writer (row_of e i (get_or qs k (0, 0)))
    → after ≡ old ++ lines (rows_of_voter e i (take (k + 1) qs))
row-written e i qs k old before after s v h l b a =
    let q : ℕ × ℕ = get_or qs k (0, 0) in
    let text : row_text default_writer (row_of e i q) ≡ line (row_of e i q) =
    row-line (decimal i) (id_of e q.0) (decimal q.1 ∷ [])
    (row-plain e i q s v (payment-at (projects e) qs k h l)) in
    let more : take (k + 1) qs ≡ take k qs ++ (q ∷ []) = rw (add-one k) (take-suc qs k (0, 0) l) in
    let rows : rows_of_voter e i (take (k + 1) qs) ≡ rows_of_voter e i (take k qs) ++ (row_of e i q ∷ []) =
    ap (rows_of_voter e i) more ∙ map-append (row_of e i) (take k qs) (q ∷ []) in
    a ∙ ap (λ (x : List ℕ). before ++ x) text ∙ ap (λ (x : List ℕ). x ++ line (row_of e i q)) b
    ∙ append_assoc old (lines (rows_of_voter e i (take k qs))) (line (row_of e i q))
    ∙ ap (λ (x : List ℕ). old ++ x)
    (sym (lines-push (rows_of_voter e i (take k qs)) (row_of e i q)) ∙ ap lines (sym rows))

pub rows-written : (e : Instance) (i : ℕ) (qs : List (ℕ × ℕ)) (k : ℕ) (old now : List ℕ) → length qs ≤ k
    → now ≡ old ++ lines (rows_of_voter e i (take k qs)) → now ≡ old ++ lines (rows_of_voter e i qs)
rows-written e i qs k old now l h = h ∙ ap (λ (x : List (ℕ × ℕ)). old ++ lines (rows_of_voter e i x)) (take_all k qs l)

-- The rows of all voters.

-- one more voter
pub voter-written : (rows : ℕ → List Rec) (i : ℕ) (old before after : List ℕ) → 1 ≤ i
    → before ≡ old ++ lines (flat_map rows (range_with_len 1 (i - 1))) → after ≡ before ++ lines (rows i)
    → after ≡ old ++ lines (flat_map rows (range_with_len 1 i))
voter-written rows i old before after low b a =
    let past : suc (i - 1) ≡ i = omega arith in
    let here : 1 + (i - 1) ≡ i = omega arith in
    let range : range_with_len 1 i ≡ range_with_len 1 (i - 1) ++ (i ∷ []) =
    ap (range_with_len 1) (sym past) ∙ range-push 1 (i - 1)
    ∙ ap (λ (x : ℕ). range_with_len 1 (i - 1) ++ (x ∷ [])) here in
    let all : flat_map rows (range_with_len 1 i) ≡ flat_map rows (range_with_len 1 (i - 1)) ++ rows i =
    ap (flat_map rows) range ∙ flat_map-append rows (range_with_len 1 (i - 1)) (i ∷ [])
    ∙ ap (λ (x : List Rec). flat_map rows (range_with_len 1 (i - 1)) ++ x) (append-nil (rows i)) in
    a ∙ ap (λ (x : List ℕ). x ++ lines (rows i)) b
    ∙ append_assoc old (lines (flat_map rows (range_with_len 1 (i - 1)))) (lines (rows i))
    ∙ ap (λ (x : List ℕ). old ++ x)
    (sym (flat_map-append line (flat_map rows (range_with_len 1 (i - 1))) (rows i)) ∙ ap lines (sym all))

-- the rows of a voter
abbrev pub voter_rows : Instance → Prices → ℕ → List Rec
voter_rows e p i = rows_of_voter e i (payments_of p i)

-- the head, and then the rows
pub canon-written : (e : Instance) (p : Prices) (d b : ℕ) (h0 h1 h2 : List ℕ) → d ≡ p.denominator → b ≡ p.budget
    → h0 ≡ [] → h1 ≡ h0 ++ lines (head_records d b) → h2 ≡ h1 ++ lines (payment_rows e p) → h2 ≡ Canon e p
canon-written e p d b h0 h1 h2 ed eb e0 e1 e2 =
    e2 ∙ (λ i. ((e1 ∙ (λ j. e0 j ++ lines (head_records (ed j) (eb j)))) i) ++ lines (payment_rows e p))
    ∙ sym (flat_map-append line (head_records p.denominator p.budget) (payment_rows e p))
