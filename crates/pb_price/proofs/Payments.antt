-- The payments of a voter, one after another.
use Rattle.std.proofs.Common.{◌≡◌, ℕ, zero, suc, ◌+◌, ◌^◌, ◌<◌, ◌≤◌, List, [], ◌∷◌, length, get_or, take, refl, sym, ◌∙◌, ap, inl, inr, arith}
use Rattle.std.specs.Prelude.{nat_lt}
use Rattle.std.proofs.lemmas.Bool.{cases_eq, cases_lt, eq-eqb, le-ltb, lt-ltb, ne_eqb}
use Rattle.std.proofs.lemmas.List.{length-map, take_all}
use Rattle.pb_election.specs.Instance.{Instance, IsSet, IsVoter, voters}
use Rattle.pb_certificate.specs.Prices.{IsPaymentMap, Prices, PricesFit, numerator_in, payment, payments_of}
use Rattle.pb_certificate.specs.declared.prices.row.PriceRow.{PriceRow}
use Rattle.pb_certificate.proofs.OnPrices.Texts.{paid_projects}
use Rattle.pb_cohesion.proofs.Loops.{set-at, set-length}
use Rattle.pb_price.specs.Inside.Tallies.{CanTakeRow, IsTallyOf, Taken, TakesRow, Tallied}
use Rattle.pb_price.proofs.Whole.{Agree, whole}
use Rattle.pb_price.specs.Inside.Tallying.{TakesUntil, pays_until}
use Rattle.pb_price.specs.declared.open_tally.OpenTally.{OpenTally}

-- the projects that are paid for

project-at : (qs : List (ℕ × ℕ)) (k : ℕ) (d : ℕ × ℕ) → k < length qs → get_or (paid_projects qs) k 0 ≡ (get_or qs k d).0
project-at [] k d h = absurd (omega arith)
project-at (q ∷ qs) zero d h = refl
project-at (q ∷ qs) (suc k) d h = project-at qs k d (omega arith)

in-set : (low high : ℕ) (qs : List (ℕ × ℕ)) (k : ℕ) (d : ℕ × ℕ) → IsSet low high (paid_projects qs) → k < length qs
    → (low ≤ (get_or qs k d).0) × ((get_or qs k d).0 ≤ high)
in-set low high qs k d s h = grind (arith, paid_projects, length-map, get_or, set-at, project-at)

few-payments : (n : ℕ) (qs : List (ℕ × ℕ)) → IsPaymentMap n qs → length qs ≤ n
few-payments n qs m = grind (arith, paid_projects, set-length, length-map)

-- what the front of the list has for a project, with one payment more
fresh : (low high : ℕ) (qs : List (ℕ × ℕ)) (k : ℕ) (d : ℕ × ℕ) → IsSet low high (paid_projects qs) → k < length qs
    → numerator_in (take k qs) (get_or qs k d).0 ≡ 0
fresh low high [] k d s h = absurd (omega arith)
fresh low high (q ∷ qs) zero d s h = refl
fresh low high (q ∷ qs) (suc k) d s h =
    let later : (q.0 + 1 ≤ (get_or qs k d).0) × ((get_or qs k d).0 ≤ high) =
    in-set (q.0 + 1) high qs k d s.2 (omega arith) in
    rw (ne_eqb q.0 (get_or qs k d).0 (λ e. omega (arith, later.0))) (fresh (q.0 + 1) high qs k d s.2 (omega arith))

here-suc : (low high : ℕ) (qs : List (ℕ × ℕ)) (k : ℕ) (d : ℕ × ℕ) → IsSet low high (paid_projects qs) → k < length qs
    → numerator_in (take (suc k) qs) (get_or qs k d).0 ≡ (get_or qs k d).1
here-suc low high [] k d s h = absurd (omega arith)
here-suc low high (q ∷ qs) zero d s h = rw (eq-eqb q.0 q.0 refl) refl
here-suc low high (q ∷ qs) (suc k) d s h =
    let later : (q.0 + 1 ≤ (get_or qs k d).0) × ((get_or qs k d).0 ≤ high) =
    in-set (q.0 + 1) high qs k d s.2 (omega arith) in
    rw (ne_eqb q.0 (get_or qs k d).0 (λ e. omega (arith, later.0))) (here-suc (q.0 + 1) high qs k d s.2 (omega arith))

other-suc : (qs : List (ℕ × ℕ)) (k c : ℕ) (d : ℕ × ℕ) → k < length qs → (c ≡ (get_or qs k d).0 → ⊥)
    → numerator_in (take (suc k) qs) c ≡ numerator_in (take k qs) c
other-suc [] k c d h ne = absurd (omega arith)
other-suc (q ∷ qs) zero c d h ne = rw (ne_eqb q.0 c (λ e. ne (sym e))) refl
other-suc (q ∷ qs) (suc k) c d h ne = rw (other-suc qs k c d (omega arith) ne) refl

-- the row of a payment, and what is taken with it
abbrev pub row_of : ℕ → ℕ × ℕ → PriceRow
row_of i x = record { voter = i; project = x.0; payment = x.1 }

abbrev pub with_next : Prices → ℕ → ℕ → Taken → Taken
with_next p i k a = record { budget = a.budget; pays = pays_until p i (k + 1); rows = a.rows + 1 }

pays-other : (p : Prices) (i k l a b : ℕ) → (a ≡ i → ⊥) → pays_until p i k a b ≡ pays_until p i l a b
pays-other p i k l a b ne = rw (ne_eqb a i ne) refl

pays-here : (p : Prices) (i k b : ℕ) → pays_until p i k i b ≡ numerator_in (take k (payments_of p i)) b
pays-here p i k b = rw (eq-eqb i i refl) refl

pub takes-next : (e : Instance) (p : Prices) (i k : ℕ) (d : ℕ × ℕ) (t : OpenTally) (u : TakesUntil e p i k t)
    → IsPaymentMap p.projects (payments_of p i) → k < length (payments_of p i)
    → TakesRow u.taken (with_next p i k u.taken) (row_of i (get_or (payments_of p i) k d))
takes-next e p i k d t u m w =
    let next : k + 1 ≡ suc k = omega arith in
    record {
      budget = refl;
      rows = refl;
      none_yet = u.pays_is i (get_or (payments_of p i) k d).0 ∙ pays-here p i k (get_or (payments_of p i) k d).0
          ∙ fresh 1 p.projects (payments_of p i) k d m.projects_rise w;
      here = pays-here p i (k + 1) (get_or (payments_of p i) k d).0
          ∙ ap (λ n. numerator_in (take n (payments_of p i)) (get_or (payments_of p i) k d).0) next
          ∙ here-suc 1 p.projects (payments_of p i) k d m.projects_rise w;
      voters = λ a b ne. (pays-other p i (k + 1) k a b ne ∙ sym (u.pays_is a b));
      projects = λ a b ne. (elim (cases_eq a i) [
        | inl is ↦
            ap (λ y. pays_until p i (k + 1) y b) is ∙ pays-here p i (k + 1) b
            ∙ ap (λ n. numerator_in (take n (payments_of p i)) b) next ∙ other-suc (payments_of p i) k b d w ne
            ∙ sym (pays-here p i k b) ∙ ap (λ y. pays_until p i k y b) (sym is) ∙ sym (u.pays_is a b)
        | inr other ↦ pays-other p i (k + 1) k a b other ∙ sym (u.pays_is a b)
      ]);
    }

pub can-take : (e : Instance) (p : Prices) (i k : ℕ) (d : ℕ × ℕ) (t : OpenTally) → TakesUntil e p i k t → PricesFit p e
    → IsPaymentMap p.projects (payments_of p i) → k < length (payments_of p i) → IsVoter e i
    → CanTakeRow e t (row_of i (get_or (payments_of p i) k d))
can-take e p i k d t u fits m w v =
    let at : (1 ≤ (get_or (payments_of p i) k d).0) × ((get_or (payments_of p i) k d).0 ≤ p.projects) =
    in-set 1 p.projects (payments_of p i) k d m.projects_rise w in
    record {
      taken = u.taken;
      tallied = u.tallied;
      voter = v;
      project = (at.0, omega (arith, at.1, fits.each_project));
      small = m.none_large k d w;
      follows = u.follows;
      none_yet = (takes-next e p i k d t u m w).none_yet;
      few = omega (
        arith,
        u.few,
        w,
        v.1,
        few-payments p.projects (payments_of p i) m,
        fits.each_project,
        u.tallied.tally.sound.few_projects,
        u.tallied.tally.sound.few_voters,
      );
    }

pub took-next : (e : Instance) (p : Prices) (i k : ℕ) (d : ℕ × ℕ) (t new : OpenTally) (u : TakesUntil e p i k t)
    → Tallied e (with_next p i k u.taken) new → new.tally.closed + 1 ≡ i → TakesUntil e p i (k + 1) new
took-next e p i k d t new u h at_hand = grind arith

-- all payments of a voter, and none of the next
all-of-voter : (p : Prices) (i k a b : ℕ) → 1 ≤ i → length (payments_of p i) ≤ k
    → pays_until p i k a b ≡ pays_until p (i + 1) 0 a b
all-of-voter p i k a b low end = elim (cases_eq a i) [
  | inl is ↦
      ap (λ y. pays_until p i k y b) is ∙ pays-here p i k b
      ∙ ap (λ qs. numerator_in qs b) (take_all k (payments_of p i) end)
      ∙ sym (rw (ne_eqb i (i + 1) (λ e. omega arith), lt-ltb 0 i (omega arith), lt-ltb i (i + 1) (omega arith)) refl)
      ∙ ap (λ y. pays_until p (i + 1) 0 y b) (sym is)
  | inr other ↦ elim (cases_eq a (i + 1)) [
    | inl is ↦
        ap (λ y. pays_until p i k y b) is
        ∙ rw (
          ne_eqb (i + 1) i (λ e. omega arith),
          le-ltb (i + 1) i (omega arith),
          lt-ltb 0 (i + 1) (omega arith),
          eq-eqb (i + 1) (i + 1) refl,
        ) refl
        ∙ ap (λ y. pays_until p (i + 1) 0 y b) (sym is)
    | inr other' ↦ rw (ne_eqb a i other, ne_eqb a (i + 1) other', same-test a i other) refl
  ]
]
  where
    same-test : (x y : ℕ) → (x ≡ y → ⊥) → nat_lt x y ≡ nat_lt x (y + 1)
    same-test x y ne = elim (cases_lt x y) [
      | inl less ↦ lt-ltb x y less ∙ sym (lt-ltb x (y + 1) (omega arith))
      | inr more ↦ le-ltb x y more ∙ sym (le-ltb x (y + 1) (omega arith))
    ]

pub took-voter : (e : Instance) (p : Prices) (i k : ℕ) (t : OpenTally) → TakesUntil e p i k t → IsVoter e i → PricesFit p e
    → IsPaymentMap p.projects (payments_of p i) → k ≡ length (payments_of p i) → TakesUntil e p (i + 1) 0 t
took-voter e p i k t u v fits m end = grind (arith, all-of-voter, few-payments)

-- all payments were taken
pub takes-all : (e : Instance) (p : Prices) (t : OpenTally) (u : TakesUntil e p (voters e + 1) 0 t)
    → Agree e u.taken.pays (payment p)
takes-all e p t u = grind arith

pub few-rows : (e : Instance) (p : Prices) (t : OpenTally) (u : TakesUntil e p (voters e + 1) 0 t) → u.taken.rows ≤ 10 ^ 12
few-rows e p t u = omega (arith, u.few, u.tallied.tally.sound.few_voters)

-- the tally of these prices, once all voters are closed
pub tally-of : (e : Instance) (p : Prices) (t new : OpenTally) (u : TakesUntil e p (voters e + 1) 0 t)
    → Tallied e u.taken new → new.tally.closed ≡ voters e → IsTallyOf e p new.tally
tally-of e p t new u h all = whole e u.taken new.tally p h.tally all u.budget_is (takes-all e p t u)
