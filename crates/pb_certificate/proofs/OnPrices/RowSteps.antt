-- One more payment after some others.
use Rattle.std.proofs.Common.{◌≡◌, ◌≢◌, ◌≤◌, ◌<◌, ◌∙◌, ℕ, Bool, true, false, List, [], ◌∷◌, ◌++◌, length, refl, sym, inl, inr, arith, None}
use Rattle.std.specs.Prelude.{◌==◌, ◌&&◌, ◌||◌, filter, map}
use Rattle.std.specs.List.{AllByRecursion, IsDistinct, list_any}
use Rattle.std.proofs.lemmas.Bool.{and_parts, cases_Bool, cases_eq, eq-eqb, eqb-true, false≢true, ne_eqb}
use Rattle.std.proofs.lemmas.List.{append-nil, map-append}
use Rattle.std.proofs.lemmas.List.Elements.{filter-append}
use Rattle.std.proofs.Math.Bool.{or-false}
use Rattle.pb_certificate.specs.Prices.Text.{Payment, same_pair}
use Rattle.pb_certificate.specs.Prices.RowFaults.{last_number, last_voter, payment_fault}
use Rattle.pb_certificate.specs.Inside.Prices.PriorRows.{RiseFrom, last_payer}
use Rattle.pb_records.proofs.Distinct.{distinct-push}
use Rattle.pb_records.proofs.Each.{all-fail, all-weaker}

abbrev pub voters_of : List Payment → List ℕ
voters_of qs = map (λ q. q.voter) qs

pub last-push : (n x : ℕ) (xs : List ℕ) → last_number n (xs ++ (x ∷ [])) ≡ x
last-push n x [] = refl
last-push n x (y ∷ ys) = last-push y x ys

pub last_voter-push : (qs : List Payment) (q : Payment) → last_voter (qs ++ (q ∷ [])) ≡ q.voter
last_voter-push qs q = grind (arith, map-append, last-push)

rise-push : (low x : ℕ) (xs : List ℕ) → RiseFrom low xs → last_number low xs ≤ x → RiseFrom low (xs ++ (x ∷ []))
rise-push low x [] h l = (l, tt)
rise-push low x (y ∷ ys) h l = (h.0, rise-push y x ys h.1 l)

pub in-order-push : (qs : List Payment) (q : Payment) → RiseFrom 0 (voters_of qs) → last_voter qs ≤ q.voter
    → RiseFrom 0 (voters_of (qs ++ (q ∷ [])))
in-order-push qs q h l = grind (arith, map-append, rise-push)

-- a pair stood before exactly where its project was last named by its voter
all-rise-low : (low n : ℕ) (xs : List ℕ) → RiseFrom low xs → n ≤ low → RiseFrom n xs
all-rise-low low n [] h l = tt
all-rise-low low n (x ∷ xs) h l = let first : low ≤ x = h.0 in (omega arith, h.1)

low-last : (low : ℕ) (xs : List ℕ) → RiseFrom low xs → low ≤ last_number low xs
low-last low [] h = omega arith
low-last low (x ∷ xs) h = let first : low ≤ x = h.0 in let rest = low-last x xs h.1 in omega arith

stood-by : (d i j n : ℕ) (qs : List Payment) → d ≤ i → RiseFrom d (voters_of qs) → last_number d (voters_of qs) ≤ i
    → (last_number d (map (λ q. q.voter) (filter (λ q. q.project == j) qs)) == i)
    ≡ (list_any (same_pair (record { voter = i; project = j; numerator = n })) qs || (d == i))
stood-by d i j n [] low h most = refl
stood-by d i j n (q ∷ qs) low h most = elim (cases_Bool (q.project == j)) [
  | inl named ↦
      let first : d ≤ q.voter = h.0 in
      let under = low-last q.voter (voters_of qs) h.1 in
      let rest = stood-by q.voter i j n qs (omega arith) h.1 most in
      let turned : (j == q.project) ≡ true = eq-eqb j q.project (sym (eqb-true q.project j named)) in
      rw (named, turned) (rest ∙ here first)
  | inr other ↦
      let first : d ≤ q.voter = h.0 in
      let rest = stood-by d i j n qs low (all-rise-low q.voter d (voters_of qs) h.1 first) (most-low first) in
      let turned : (j == q.project) ≡ false =
      ne_eqb j q.project (λ e. false≢true (sym other ∙ eq-eqb q.project j (sym e))) in
      rw (other, turned)
      (rest ∙ past (i == q.voter) (list_any (same_pair (record { voter = i; project = j; numerator = n })) qs)
      (d == i))
]
  where
    turn : (a b : ℕ) → (a == b) ≡ (b == a)
    turn a b =
        elim (cases_eq a b)
        [ inl e ↦ eq-eqb a b e ∙ sym (eq-eqb b a (sym e)) | inr e ↦ ne_eqb a b e ∙ sym (ne_eqb b a (λ k. e (sym k))) ]

    here : d ≤ q.voter → (list_any (same_pair (record { voter = i; project = j; numerator = n })) qs || (q.voter == i))
        ≡ ((((i == q.voter) && true) || list_any (same_pair (record { voter = i; project = j; numerator = n }))
        qs) || (d == i))
    here first =
        rw (turn i q.voter)
        (by (q.voter == i) (list_any (same_pair (record { voter = i; project = j; numerator = n })) qs) (d == i) refl
        refl)
      where
        by : (v s e : Bool) → (q.voter == i) ≡ v → (d == i) ≡ e → (s || v) ≡ (((v && true) || s) || e)
        by true true e is is_d = refl
        by true false e is is_d = refl
        by false true e is is_d = refl
        by false false true is is_d =
            let same : d ≡ i = eqb-true d i is_d in
            let under = low-last q.voter (voters_of qs) h.1 in
            let equal : q.voter ≡ i = omega arith in
            absurd (false≢true (sym is ∙ eq-eqb q.voter i equal))
        by false false false is is_d = refl

    past : (v s e : Bool) → (s || e) ≡ (((v && false) || s) || e)
    past true s e = refl
    past false s e = refl

    most-low : d ≤ q.voter → last_number d (voters_of qs) ≤ i
    most-low first = by qs most
      where
        by : (ps : List Payment) → last_number q.voter (voters_of ps) ≤ i → last_number d (voters_of ps) ≤ i
        by [] k = low
        by (p ∷ ps) k = k

pub stood : (qs : List Payment) (q : Payment) → 1 ≤ q.voter → RiseFrom 0 (voters_of qs) → last_voter qs ≤ q.voter
    → (last_payer qs q.project == q.voter) ≡ list_any (same_pair q) qs
stood qs q some h most =
    let none : (0 == q.voter) ≡ false = ne_eqb 0 q.voter (λ e. omega arith) in
    stood-by 0 q.voter q.project q.numerator qs (omega arith) h most ∙ by none
  where
    by : (0 == q.voter) ≡ false → (list_any (same_pair q) qs || (0 == q.voter)) ≡ list_any (same_pair q) qs
    by e = rw e (or-false (list_any (same_pair q) qs))

-- payments that differ from one of a new pair
apart : (qs : List Payment) (q : Payment) → list_any (same_pair q) qs ≡ false
    → AllByRecursion (λ p. same_pair p q ≡ false) qs
apart qs q h =
    all-weaker (λ p. same_pair q p ≡ false) (λ p. same_pair p q ≡ false) qs (turned q) (all-fail (same_pair q) qs h)
  where
    turned : (a b : Payment) → same_pair a b ≡ false → same_pair b a ≡ false
    turned a b e = elim (cases_Bool (same_pair b a)) [
      | inl yes' ↦
          let parts = and_parts (b.voter == a.voter) (b.project == a.project) yes' in
          let v : (a.voter == b.voter) ≡ true = eq-eqb a.voter b.voter (sym (eqb-true b.voter a.voter parts.0)) in
          let j : (a.project == b.project) ≡ true =
          eq-eqb a.project b.project (sym (eqb-true b.project a.project parts.1)) in
          let both : same_pair a b ≡ true = rw (v, j) refl in
          absurd (false≢true (sym e ∙ both))
      | inr no' ↦ no'
    ]

pub once-push : (qs : List Payment) (q : Payment) → IsDistinct same_pair qs → list_any (same_pair q) qs ≡ false
    → IsDistinct same_pair (qs ++ (q ∷ []))
once-push qs q once new = distinct-push same_pair qs q once (apart qs q new)

-- the last payers after one more
pub payer-here : (qs : List Payment) (q : Payment) → last_payer (qs ++ (q ∷ [])) q.project ≡ q.voter
payer-here qs q = grind (arith, eq-eqb, filter-append, map-append, last-push)

pub payer-other : (qs : List Payment) (q : Payment) (j : ℕ) → j ≢ q.project
    → last_payer (qs ++ (q ∷ [])) j ≡ last_payer qs j
payer-other qs q j other = grind (arith, ne_eqb, filter-append, append-nil)

-- a payment that may follow others
pub record MayFollow (qs : List Payment) (q : Payment) : Type 0 where
  pub not_lower : last_voter qs ≤ q.voter
  pub fresh : list_any (same_pair q) qs ≡ false
  pub few : length qs < 10000000

pub may-follow : (qs : List Payment) (q : Payment) → payment_fault qs q ≡ None → MayFollow qs q
may-follow qs q h = grind arith
