-- How many payments are for projects that their voters do not approve.
use Rattle.std.proofs.Common.{◌≡◌, ℕ, ◌+◌, ◌≤◌, Bool, true, false, cond, List, length, refl, sym, ◌∙◌, ap, arith}
use Rattle.std.specs.Prelude.{◌&&◌, filter, map, nat_lt, not}
use Rattle.std.proofs.lemmas.List.{length-map}
use Rattle.std.proofs.lemmas.List.Concat.{length-flat_map}
use Rattle.std.proofs.lemmas.List.Sums.{length-filter}
use Rattle.pb_records.proofs.Lists.{filter-same, filter-none}
use Rattle.pb_election.specs.Instance.{Instance, IsProject, IsVoter, all_projects, all_voters, approves, projects, voters}
use Rattle.pb_certificate.specs.Prices.{Prices, payment}
use Rattle.pb_certificate.specs.declared.prices.row.PriceRow.{PriceRow}
use Rattle.pb_cohesion.specs.Conditions.{culprits_of_C1}
use Rattle.pb_cohesion.proofs.Sums.{range-same, sum-zero}
use Rattle.pb_cohesion.proofs.Culprits.{wrong}
use Rattle.pb_price.specs.Inside.Tallies.{Taken, TakesRow, pays_wrongly, wrong_count}
use Rattle.pb_price.proofs.Sums.{sum-one-changed, sum-one-more}

-- those of one voter
abbrev wrong_of : Instance → (ℕ → ℕ → ℕ) → ℕ → ℕ
wrong_of e f i = length (filter (pays_wrongly e f i) (all_projects e))

-- no payment
pub wrong-start : (e : Instance) → wrong_count e (λ i c. 0) ≡ 0
wrong-start e = range-same (wrong_of e (λ i c. 0)) (λ i. 0) 1 (voters e)
    (λ i low high. ap (λ (xs : List ℕ). length xs)
    (filter-none (pays_wrongly e (λ i c. 0) i) (projects e) 1 (λ c low' high'. refl))) ∙ sum-zero (all_voters e)

-- one more row
pub same-wrong : (e : Instance) (f g : ℕ → ℕ → ℕ) (i c : ℕ) → g i c ≡ f i c
    → pays_wrongly e g i c ≡ pays_wrongly e f i c
same-wrong e f g i c h = ap (λ n. nat_lt 0 n && not (approves e i c)) h

pub wrong-here : (e : Instance) (a b : Taken) (q : PriceRow) (approved : Bool) → TakesRow a b q
    → approved ≡ approves e q.voter q.project
    → pays_wrongly e b.pays q.voter q.project ≡ (nat_lt 0 q.payment && not approved)
wrong-here e a b q approved r is = grind arith

of-voter : (e : Instance) (a b : Taken) (q : PriceRow) (w : Bool) → TakesRow a b q → IsProject e q.project
    → pays_wrongly e b.pays q.voter q.project ≡ w → wrong_of e b.pays q.voter ≡ wrong_of e a.pays q.voter + cond w 1 0
of-voter e a b q w r ip is =
    length-filter (pays_wrongly e b.pays q.voter) (all_projects e)
    ∙ sum-one-more (λ c. cond (pays_wrongly e a.pays q.voter c) 1 0) (λ c. cond (pays_wrongly e b.pays q.voter c) 1 0)
    (projects e) 1 q.project (cond w 1 0) ip.0 (let high : q.project ≤ projects e = ip.1 in omega arith)
    (ap (λ n. cond (nat_lt 0 n && not (approves e q.voter q.project)) 1 0) r.none_yet) (ap (λ x. cond x 1 0) is)
    (λ c ne. ap (λ x. cond x 1 0) (same-wrong e a.pays b.pays q.voter c (r.projects q.voter c ne)))
    ∙ ap (λ n. n + cond w 1 0) (sym (length-filter (pays_wrongly e a.pays q.voter) (all_projects e)))

of-other : (e : Instance) (a b : Taken) (q : PriceRow) (i : ℕ) → TakesRow a b q → (i ≡ q.voter → ⊥)
    → wrong_of e b.pays i ≡ wrong_of e a.pays i
of-other e a b q i r ne = grind (arith, filter-same, same-wrong)

pub count-added : (e : Instance) (a b : Taken) (q : PriceRow) (approved : Bool) (n m : ℕ) → TakesRow a b q
    → IsVoter e q.voter → IsProject e q.project → approved ≡ approves e q.voter q.project
    → n ≡ wrong_count e a.pays → m ≡ cond (nat_lt 0 q.payment && not approved) (n + 1) n → m ≡ wrong_count e b.pays
count-added e a b q approved n m r iv ip is before after =
    after ∙ turn (nat_lt 0 q.payment && not approved)
    ∙ ap (λ k. k + cond (nat_lt 0 q.payment && not approved) 1 0) before
    ∙ sym (sum-one-changed (wrong_of e a.pays) (wrong_of e b.pays) (voters e) 1 q.voter
    (cond (nat_lt 0 q.payment && not approved) 1 0) iv.0 (let high : q.voter ≤ voters e = iv.1 in omega arith)
    (of-voter e a b q (nat_lt 0 q.payment && not approved) r ip (wrong-here e a b q approved r is))
    (λ i ne. of-other e a b q i r ne))
  where
    turn : (w : Bool) → cond w (n + 1) n ≡ n + cond w 1 0
    turn true = refl
    turn false = omega arith

pub count-few : (w : Bool) (n m rows : ℕ) → n ≤ rows → m ≡ cond w (n + 1) n → m ≤ rows + 1
count-few true n m rows h is = omega arith
count-few false n m rows h is = omega arith

-- all payments

abbrev pub wrong_pairs : Instance → Prices → ℕ → List (ℕ × ℕ)
wrong_pairs e p i = map (λ c. (i, c)) (filter (wrong e p i) (all_projects e))

pub count-culprits : (e : Instance) (f : ℕ → ℕ → ℕ) (p : Prices)
    → ((i c : ℕ) → IsVoter e i → IsProject e c → f i c ≡ payment p i c) → wrong_count e f ≡ length (culprits_of_C1 e p)
count-culprits e f p agree = grind (arith, range-same, filter-same, length-map, length-flat_map)
