-- One more row that is remembered.
use Rattle.std.proofs.Common.{◌≡◌, ◌≤◌, ◌<◌, ◌+◌, ◌-◌, ◌∙◌, ℕ, zero, suc, false, List, [], ◌∷◌, ◌++◌, length, refl, sym, ap, arith, Some, None, get_or, length-append}
use Rattle.std.specs.Prelude.{◌==◌, map, nat_lt}
use Rattle.std.specs.List.{list_any, range_with_len}
use Rattle.std.specs.Vec.{with_item}
use Rattle.std.proofs.lemmas.Bool.{eq-eqb, le-leb, lt-leb, ne_eqb}
use Rattle.std.proofs.lemmas.List.FromFn.{get_or-map-range_with_len, length-map-range_with_len}
use Rattle.std.proofs.Math.ListN.{replicate, set}
use Rattle.pb_certificate.specs.Prices.Text.{Payment, same_pair}
use Rattle.pb_certificate.specs.Prices.RowFaults.{last_voter, payment_fault}
use Rattle.pb_certificate.specs.Inside.Prices.PriorRows.{Remembers, last_payer}
use Rattle.pb_certificate.specs.declared.prices.prior_rows.PriorRows.{PriorRows}
use Rattle.pb_certificate.specs.declared.refusal.CertFault.TheVariants as fault
use Rattle.pb_certificate.proofs.MarkLemmas.{set-range}
use Rattle.pb_certificate.proofs.OnPrices.RowSteps.{in-order-push, last_voter-push, once-push, payer-here, payer-other, stood}

-- no row
zeros-range : (n a : ℕ) → replicate n 0 ≡ map (last_payer []) (range_with_len a n)
zeros-range zero a = refl
zeros-range (suc n) a = ap (λ xs. 0 ∷ xs) (zeros-range n (a + 1))

pub no-payers : (n : ℕ) (xs : List ℕ) → xs ≡ replicate n 0 → xs ≡ map (last_payer []) (range_with_len 1 (length xs))
no-payers n xs e =
    let all : xs ≡ map (last_payer []) (range_with_len 1 n) = e ∙ zeros-range n 1 in
    let many : length xs ≡ n = ap length all ∙ length-map-range_with_len (last_payer []) 1 n in
    all ∙ ap (λ k. map (last_payer []) (range_with_len 1 k)) (sym many)

-- the last payer that is remembered
payer-at : (t : PriorRows) (qs : List Payment) (j x : ℕ) → Remembers t qs → 1 ≤ j → j ≤ length t.last_payers.items
    → x ≡ get_or t.last_payers.items (j - 1) x → x ≡ last_payer qs j
payer-at t qs j x h low high is = grind (arith, get_or, get_or-map-range_with_len)

-- what the tests of a row say
pub record Tested (t : PriorRows) (q : Payment) (x : ℕ) : Type 0 where
  pub low_voter : 1 ≤ q.voter
  pub low_project : 1 ≤ q.project
  pub high_project : q.project ≤ length t.last_payers.items
  pub not_lower : t.last_voter ≤ q.voter
  pub payer : x ≡ get_or t.last_payers.items (q.project - 1) x

pub tested : (t : PriorRows) (q : Payment) (x : ℕ) → 1 ≤ q.voter → 1 ≤ q.project
    → q.project ≤ length t.last_payers.items → t.last_voter ≤ q.voter
    → x ≡ get_or t.last_payers.items (q.project - 1) x → Tested t q x
tested t q x a c d e f = record { low_voter = a; low_project = c; high_project = d; not_lower = e; payer = f }

not-lower : (t : PriorRows) (qs : List Payment) (q : Payment) (x : ℕ) → Remembers t qs → Tested t q x
    → nat_lt q.voter (last_voter qs) ≡ false
not-lower t qs q x h d = grind arith

any-stood : (t : PriorRows) (qs : List Payment) (q : Payment) (x : ℕ) → Remembers t qs → Tested t q x
    → list_any (same_pair q) qs ≡ (x == q.voter)
any-stood t qs q x h d =
    sym (stood qs q d.low_voter h.in_order (omega (arith, d.not_lower)))
    ∙ ap (λ (n : ℕ). n == q.voter) (sym (payer-at t qs q.project x h d.low_project d.high_project d.payer))

pub repeated : (t : PriorRows) (qs : List Payment) (q : Payment) (x : ℕ) → Remembers t qs → Tested t q x → x ≡ q.voter
    → payment_fault qs q ≡ Some fault.Repeated
repeated t qs q x h d same = rw (not-lower t qs q x h d, any-stood t qs q x h d, eq-eqb x q.voter same) refl

pub too-many : (t : PriorRows) (qs : List Payment) (q : Payment) (x : ℕ) → Remembers t qs → Tested t q x
    → (x ≡ q.voter → ⊥) → 10000000 ≤ t.rows → payment_fault qs q ≡ Some fault.TooMany
too-many t qs q x h d other many =
    rw (
      not-lower t qs q x h d,
      any-stood t qs q x h d,
      ne_eqb x q.voter other,
      le-leb 10000000 (length qs) (omega arith),
    ) refl

pub added : (t : PriorRows) (qs : List Payment) (q : Payment) (x : ℕ) → Remembers t qs → Tested t q x
    → (x ≡ q.voter → ⊥) → t.rows < 10000000
    → (payment_fault qs q ≡ None)
    × Remembers
    (record
    { rows = t.rows + 1; last_voter = q.voter; last_payers = with_item t.last_payers (q.project - 1) q.voter })
    (qs ++ (q ∷ []))
added t qs q x h d other few =
    let rows : t.rows ≡ length qs = h.rows in
    let fresh : list_any (same_pair q) qs ≡ false = any-stood t qs q x h d ∙ ne_eqb x q.voter other in
    let more = length-append qs (q ∷ []) in
    let place : 1 + (q.project - 1) ≡ q.project = omega (arith, d.low_project) in
    let m : ℕ = length t.last_payers.items in
    let payers : set t.last_payers.items (q.project - 1) q.voter
    ≡ map (last_payer (qs ++ (q ∷ []))) (range_with_len 1 m) =
    ap (λ (xs : List ℕ). set xs (q.project - 1) q.voter) h.last_payers_are
    ∙ set-range (last_payer qs) (last_payer (qs ++ (q ∷ []))) m 1 (q.project - 1) q.voter
    (omega (arith, d.low_project, d.high_project))
    (ap (last_payer (qs ++ (q ∷ []))) place ∙ payer-here qs q) (λ i ne. payer-other qs q i (λ e. ne (e ∙ sym place))) in
    let as_many : length (set t.last_payers.items (q.project - 1) q.voter) ≡ m =
    ap length payers ∙ length-map-range_with_len (last_payer (qs ++ (q ∷ []))) 1 m in (
      rw (not-lower t qs q x h d, fresh, lt-leb 10000000 (length qs) (omega arith)) refl,
      record {
        rows = omega arith;
        few = omega arith;
        last_voter_is = sym (last_voter-push qs q);
        last_payers_are = payers ∙ ap (λ n. map (last_payer (qs ++ (q ∷ []))) (range_with_len 1 n)) (sym as_many);
        in_order = in-order-push qs q h.in_order (omega (arith, d.not_lower));
        once = once-push qs q h.once fresh;
      },
    )
