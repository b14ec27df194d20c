-- The records of the canonical text are those that were written.
use Rattle.std.proofs.Common.{◌≡◌, ◌∙◌, ◌<◌, ◌≤◌, ◌+◌, ℕ, zero, suc, List, [], ◌∷◌, ◌++◌, length, refl, sym, ap, arith, Some}
use Rattle.std.specs.List.{AllByRecursion, range_with_len}
use Rattle.std.proofs.lemmas.List.{length-append}
use Rattle.csv.specs.Machine.{next_record}
use Rattle.csv.specs.Reading.{default_config, records_from}
use Rattle.csv.specs.declared.parser.State.TheVariants as st
use Rattle.csv.proofs.RoundTrip.{read-write}
use Rattle.pb_records.proofs.Each.{all-append, all-flat_map, all-map, all-range, all-weaker}
use Rattle.pb_election.specs.Instance.{Instance, projects, voters}
use Rattle.pb_records.specs.Records.{Rec, drop_marks}
use Rattle.pb_election.specs.Text.{IsElection}
use Rattle.pb_certificate.specs.Prices.Canon.{Canon, canonical_records, head_records, line, lines, payment_rows, rows_of_voter}
use Rattle.pb_certificate.specs.Faults.{certificate_records}
use Rattle.pb_certificate.specs.Prices.{ArePrices, IsPaymentMap, Prices, payments_of}
use Rattle.pb_certificate.proofs.OnPrices.Canon.Lines.{ArePlain, decimal-plain, row-line}
use Rattle.pb_certificate.proofs.OnPrices.Canon.Written.{IsPayment, each-payment, row-plain, row_of}

-- a record of two fields or more with no control byte
abbrev pub IsWritable : Rec → Type 0
IsWritable [] = ⊥
IsWritable (f ∷ []) = ⊥
IsWritable (f ∷ g ∷ fs) = ArePlain (f ∷ g ∷ fs)

-- such a record is read back, whatever follows it
read-line : (r : Rec) (tail : List ℕ) → IsWritable r
    → next_record default_config st.StartRecord [] [] (line r ++ tail) ≡ Some (r, st.StartRecord, tail)
read-line (f ∷ g ∷ fs) tail h =
    ap (λ (x : List ℕ). next_record default_config st.StartRecord [] [] (x ++ tail)) (sym (row-line f g fs h))
    ∙ read-write (f ∷ g ∷ fs) tail
read-line _ tail h = absurd h

read-lines : (rows : List Rec) (n : ℕ) → AllByRecursion IsWritable rows → length rows < n
    → records_from default_config n st.StartRecord (lines rows) ≡ rows
unfolding records_from next_record
read-lines rows zero h l = absurd (omega arith)
read-lines [] (suc n) h l = refl
read-lines (r ∷ rs) (suc n) h l =
    rw (read-line r (lines rs) h.0) (ap (λ (xs : List Rec). r ∷ xs) (read-lines rs n h.1 (omega arith)))

line-some : (r : Rec) → 1 ≤ length (line r)
unfolding line
line-some r = grind (arith, length-append)

lines-longer : (rows : List Rec) → length rows ≤ length (lines rows)
lines-longer [] = omega arith
lines-longer (r ∷ rs) = omega (arith, length-append (line r) (lines rs), line-some r, lines-longer rs)

-- Each record of the canonical text.

-- what one voter pays is a map over the projects of the election
pub voter-map : (e : Instance) (p : Prices) (i : ℕ) → ArePrices e p → 1 ≤ i → i ≤ voters e
    → IsPaymentMap (projects e) (payments_of p i)
voter-map e p i a low high = grind arith

-- what holds of each row of the canonical text
pub all-rows : (Q : Rec → Type 0) (e : Instance) (p : Prices) → ArePrices e p
    → ((i : ℕ) (q : ℕ × ℕ) → 1 ≤ i → i ≤ voters e → IsPayment (projects e) q → Q (row_of e i q))
    → AllByRecursion Q (payment_rows e p)
all-rows Q e p a h =
    all-flat_map Q (λ i. rows_of_voter e i (payments_of p i)) (range_with_len 1 (voters e))
    (all-range (λ i. AllByRecursion Q (rows_of_voter e i (payments_of p i))) 1 (voters e)
    (λ i low high. all-map Q (row_of e i) (payments_of p i)
    (all-weaker (IsPayment (projects e)) (λ q. Q (row_of e i q)) (payments_of p i) (λ q k. h i q low (omega arith) k)
    (each-payment (projects e) (payments_of p i) (voter-map e p i a low (omega arith))))))

pub all-records : (Q : Rec → Type 0) (e : Instance) (p : Prices) → ArePrices e p
    → AllByRecursion Q (head_records p.denominator p.budget)
    → ((i : ℕ) (q : ℕ × ℕ) → 1 ≤ i → i ≤ voters e → IsPayment (projects e) q → Q (row_of e i q))
    → AllByRecursion Q (canonical_records e p)
all-records Q e p a heads h =
    all-append Q (head_records p.denominator p.budget) (payment_rows e p) heads (all-rows Q e p a h)

writable : (e : Instance) (p : Prices) → IsElection e → ArePrices e p
    → AllByRecursion IsWritable (canonical_records e p)
writable e p s a =
    all-records IsWritable e p a (
      (refl, (refl, tt)),
      (
        (refl, (decimal-plain p.denominator (omega arith), tt)),
        ((refl, (decimal-plain p.budget (omega arith), tt)), ((refl, (refl, (refl, tt))), tt)),
      ),
    )
    (λ i q low high h. row-plain e i q s (omega arith) h)

-- the text starts with no byte order mark
no-mark : (e : Instance) (p : Prices) → drop_marks (Canon e p) ≡ Canon e p
unfolding drop_marks line
no-mark e p = refl

pub read-back : (e : Instance) (p : Prices) → IsElection e → ArePrices e p
    → certificate_records (Canon e p) ≡ canonical_records e p
read-back e p s a =
    ap (λ (x : List ℕ). records_from default_config (length x + 1) st.StartRecord x) (no-mark e p)
    ∙ read-lines (canonical_records e p) (length (Canon e p) + 1) (writable e p s a)
    (omega (arith, lines-longer (canonical_records e p)))
