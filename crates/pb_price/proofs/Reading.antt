-- The conditions as the sums tell them are the conditions on the prices.
use Rattle.std.proofs.Common.{◌≡◌, ℕ, ◌+◌, ◌*◌, ◌≤◌, Bool, true, false, List, [], ◌∷◌, ◌++◌, get_or, sym, ap, arith}
use Rattle.std.specs.Prelude.{◌&&◌, filter, map, Result, Ok, Err, IfOk, IfErr, MatchResult}
use Rattle.std.specs.List.{range_with_len}
use Rattle.std.proofs.lemmas.List.{map-append}
use Rattle.pb_money.specs.Grains.{cost_grains}
use Rattle.pb_records.proofs.Lists.{filter-same, map-same}
use Rattle.pb_election.specs.Instance.{Instance, all_projects, cost_of, projects, supporters}
use Rattle.pb_election.specs.Outcome.{has}
use Rattle.pb_certificate.specs.Faults.{no_memory}
use Rattle.pb_certificate.specs.Prices.{Prices}
use Rattle.pb_certificate.specs.declared.refusal.CertRefusal.{CertRefusal}
use Rattle.pb_cohesion.specs.Amounts.{cost, left, paid}
use Rattle.pb_cohesion.specs.Conditions.{culprits_of_C3, culprits_of_C4, culprits_of_C5, culprits_of_S5, most_of, sum_ℤ}
use Rattle.pb_cohesion.proofs.Firsts.{range-next}
use Rattle.pb_price.specs.Inside.Tallies.{AreSums, IsTallyOf, figures_of, has_more, in_vain, not_exactly, sums_of}
use Rattle.pb_price.specs.Margins.{AreMargins, margins_of_project}
use Rattle.pb_price.specs.declared.Margins.{Margins}
use Rattle.pb_price.specs.declared.ProjectMargins.{ProjectMargins}
use Rattle.pb_price.specs.declared.tally.ProjectSums.{ProjectSums}
use Rattle.pb_price.specs.declared.tally.Tally.{Tally}
use Rattle.pb_price.proofs.Ballots.{nothing}
use Rattle.pb_cohesion.proofs.Culprits.{filter-filter}

-- what the sums have for a project
pub paid-at : (e : Instance) (p : Prices) (sums : List ProjectSums) (c : ℕ) → AreSums e p sums → 1 ≤ c → c ≤ projects e
    → (sums_of sums c).paid ≡ paid e p c
paid-at e p sums c h low high = grind arith

pub left-at : (e : Instance) (p : Prices) (sums : List ProjectSums) (c : ℕ) → AreSums e p sums → 1 ≤ c → c ≤ projects e
    → (sums_of sums c).left ≡ sum_ℤ (left e p) (supporters e c)
left-at e p sums c h low high = grind arith

pub offer-at : (e : Instance) (p : Prices) (sums : List ProjectSums) (c : ℕ) → AreSums e p sums → 1 ≤ c → c ≤ projects e
    → (sums_of sums c).offer ≡ sum_ℤ (most_of e p) (supporters e c)
offer-at e p sums c h low high = grind arith

pub cost-at : (e : Instance) (p : Prices) (d c : ℕ) → p.denominator ≡ d → cost_grains (cost_of e c) d ≡ cost e p c
cost-at e p d c is = ap (cost_grains (cost_of e c)) (sym is)

-- the culprits among the projects of a mark, as the projects that fail one test
pub culprits-as : (test q mark : ℕ → Bool) (n : ℕ) → ((c : ℕ) → 1 ≤ c → c ≤ n → test c ≡ (mark c && q c))
    → filter test (range_with_len 1 n) ≡ filter q (filter mark (range_with_len 1 n))
culprits-as test q mark n same = grind (arith, filter-same, filter-filter)

pub exactly-is : (e : Instance) (w : List Bool) (p : Prices) (d : ℕ) (sums : List ProjectSums) → p.denominator ≡ d
    → AreSums e p sums → filter (not_exactly e w d sums) (all_projects e) ≡ culprits_of_C3 e w p
exactly-is e w p d sums is h = grind (arith, culprits-as, paid-at, cost-at)

pub vain-is : (e : Instance) (w : List Bool) (p : Prices) (sums : List ProjectSums) → AreSums e p sums
    → filter (in_vain w sums) (all_projects e) ≡ culprits_of_C4 e w p
vain-is e w p sums h = grind (arith, culprits-as, paid-at)

pub plain-is : (e : Instance) (w : List Bool) (p : Prices) (d : ℕ) (sums : List ProjectSums) → p.denominator ≡ d
    → AreSums e p sums → filter (has_more e w d false sums) (all_projects e) ≡ culprits_of_C5 e w p
plain-is e w p d sums is h = grind (arith, culprits-as, left-at, cost-at)

pub stable-is : (e : Instance) (w : List Bool) (p : Prices) (d : ℕ) (sums : List ProjectSums) → p.denominator ≡ d
    → AreSums e p sums → filter (has_more e w d true sums) (all_projects e) ≡ culprits_of_S5 e w p
stable-is e w p d sums is h = grind (arith, culprits-as, offer-at, cost-at)

figures-at : (e : Instance) (w : List Bool) (p : Prices) (d : ℕ) (sums : List ProjectSums) (c : ℕ) → p.denominator ≡ d
    → AreSums e p sums → 1 ≤ c → c ≤ projects e → figures_of e w d sums c ≡ margins_of_project e w p c
figures-at e w p d sums c is h low high = grind arith

pub margins-are : (e : Instance) (w : List Bool) (p : Prices) (d : ℕ) (sums : List ProjectSums) (m : Margins)
    → p.denominator ≡ d → AreSums e p sums → m.grains_per_unit ≡ 1000000 * d
    → m.projects.items ≡ map (figures_of e w d sums) (all_projects e) → AreMargins e w p m
margins-are e w p d sums m is h grains figures = grind (arith, map-same, figures-at)

-- the figures of a tally of these prices, or out of memory
pub margins-or-memory : (e : Instance) (w : List Bool) (p : Prices) (d : ℕ) (t : Tally) (r : Result Margins CertRefusal)
    → p.denominator ≡ d → IsTallyOf e p t
    → IfOk r (λ m. (q : Prices) → q.denominator ≡ d → IsTallyOf e q t → AreMargins e w q m)
    → IfErr r (λ x. x ≡ no_memory) → MatchResult r (λ m. AreMargins e w p m) (λ x. x ≡ no_memory)
margins-or-memory e w p d t (Ok m) is tally found memory = found p is tally
margins-or-memory e w p d t (Err x) is tally found memory = memory

-- the figures of one more project, which has number k + 1
pub figures-next : (e : Instance) (w : List Bool) (d : ℕ) (sums : List ProjectSums) (k : ℕ)
    (xs ys : List ProjectMargins) (x : ProjectMargins) → ys ≡ xs ++ (x ∷ [])
    → xs ≡ map (figures_of e w d sums) (range_with_len 1 k)
    → x.funded ≡ has w (k + 1) → x.supporters ≡ (get_or sums k nothing).supporters
    → x.cost ≡ cost_grains (cost_of e (k + 1)) d → x.paid ≡ (get_or sums k nothing).paid
    → x.left ≡ (get_or sums k nothing).left → x.offer ≡ (get_or sums k nothing).offer
    → ys ≡ map (figures_of e w d sums) (range_with_len 1 (k + 1))
figures-next e w d sums k xs ys x pushed before funded supporters cost paid left offer =
    grind (arith, map-append, range-next)
