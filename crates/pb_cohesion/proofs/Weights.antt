-- What weights come to over projects and voters, as loops find it.
use Rattle.std.proofs.Common.{◌≡◌, ℕ, ◌+◌, ◌*◌, ◌<◌, Bool, true, false, List, [], ◌∷◌, ◌++◌, append-nil, get_or, length, max, take, refl, sym, ◌∙◌, ap, subst, arith}
use Rattle.std.specs.Prelude.{◌&&◌, Some, filter, not, slice_get, sum_by}
use Rattle.std.specs.Option.{option_or}
use Rattle.std.proofs.lemmas.List.{take_more}
use Rattle.std.proofs.lemmas.List.Elements.{filter-append}
use Rattle.pb_election.specs.Instance.{Instance, IsSet, all_projects, ballot_of, cost_of, projects}
use Rattle.pb_election.specs.Outcome.{has}
use Rattle.pb_certificate.specs.Refutations.{Weights, weight}
use Rattle.pb_cohesion.specs.Amounts.{largest_by}
use Rattle.pb_cohesion.specs.Groups.{gets}
use Rattle.pb_cohesion.specs.RefutationFindings.{paid_at_least, paid_or_left_at_most}
use Rattle.pb_cohesion.specs.Refutations.{at_least, at_most, counts, gain, has_role, is_least, is_made_up, is_most, least_below, left_cost, missed, positive_part, stable_gain}
use Rattle.pb_cohesion.proofs.Ballots.{ballot-part, gets-ballot}
use Rattle.pb_cohesion.proofs.Counted.{largest-push}
use Rattle.pb_cohesion.proofs.Refuting.{funded-sum}
use Rattle.pb_cohesion.proofs.Sums.{sum-add, sum-filter, where_passes}

-- what is taken of a voter is what the unfunded projects of its ballot weigh
pub left-is : (e : Instance) (w : List Bool) (r : Weights) (i : ℕ) (b : List ℕ) (n : ℕ) → b ≡ ballot_of e i
    → IsSet 1 (projects e) b → n ≡ sum_by (weight r) (filter (λ j. not (has w j)) b) → n ≡ missed e w r i
left-is e w r i b n is rises n-is = grind (arith, ballot-part)

-- so often a payment of the voter counts at the most
pub counted-is : (e : Instance) (w : List Bool) (r : Weights) (i : ℕ) (b : List ℕ) (n z : ℕ) → b ≡ ballot_of e i
    → IsSet 1 (projects e) b → n ≡ largest_by (λ j. positive_part (counts r z j)) (filter (has w) b)
    → z ≡ missed e w r i → n ≡ gain e w r i
counted-is e w r i b n z is rises n-is z-is = grind (arith, gets-ballot)

-- so often its budget counts where prices are stable
pub stable-counted-is : (e : Instance) (w : List Bool) (r : Weights) (i : ℕ) (b : List ℕ) (n z : ℕ) → b ≡ ballot_of e i
    → IsSet 1 (projects e) b
    → n ≡ least_below (largest_by (λ j. positive_part (counts r z j)) (filter (has w) b)) (is_made_up r z (filter (has w) b))
    → z ≡ missed e w r i → n ≡ stable_gain e w r i
stable-counted-is e w r i b n z is rises n-is z-is =
    let kept : filter (has w) b ≡ gets e w i =
    ap (filter (has w)) is
    ∙ sym (gets-ballot e w i (subst (λ t. IsSet 1 (projects e) t) is rises)) in
    n-is
    ∙ ap (λ cs. least_below (largest_by (λ j. positive_part (counts r z j)) cs) (is_made_up r z cs)) kept
    ∙ ap (λ k. least_below (largest_by (λ j. positive_part (counts r k j)) (gets e w i)) (is_made_up r k (gets e w i))) z-is

-- the two sides of costs, project by project
pub at_least-is : (e : Instance) (w : List Bool) (r : Weights)
    → at_least e w r ≡ sum_by (paid_at_least e w r) (all_projects e) + r.cover * e.limit
at_least-is e w r =
    ap (λ n. n + r.cover * e.limit) (funded-sum e w (has_role is_least r) (λ c. weight r c * cost_of e c))

pub at_most-is : (e : Instance) (w : List Bool) (r : Weights)
    → at_most e w r ≡ sum_by (paid_or_left_at_most e w r) (all_projects e)
at_most-is e w r =
    ap (λ n. n + left_cost e w r) (funded-sum e w (has_role is_most r) (λ c. weight r c * cost_of e c))
    ∙ ap (λ n. sum_by (λ c. where_passes (has w c && has_role is_most r c) (weight r c * cost_of e c)) (all_projects e) + n)
    (sum-filter (λ c. weight r c * cost_of e c) (λ c. not (has w c)) (all_projects e))
    ∙ sym (sum-add (λ c. where_passes (has w c && has_role is_most r c) (weight r c * cost_of e c))
    (λ c. where_passes (not (has w c)) (weight r c * cost_of e c)) (all_projects e))

-- the first of a list with one more
pub first-with : (xs : List ℕ) (x : ℕ) → slice_get (xs ++ (x ∷ [])) 0 ≡ option_or (slice_get xs 0) (Some x)
first-with [] x = refl
first-with (y ∷ xs) x = refl

-- the largest value over the elements that pass a test, with one element more
pub largest-passing : (f : ℕ → ℕ) (q : ℕ → Bool) (xs : List ℕ) (k : ℕ) → k < length xs → q (get_or xs k 0) ≡ true
    → largest_by f (filter q (take (k + 1) xs)) ≡ max (largest_by f (filter q (take k xs))) (f (get_or xs k 0))
largest-passing f q xs k within pass =
    ap (λ ys. largest_by f (filter q ys)) (take_more xs k 0 within)
    ∙ ap (largest_by f) (filter-append q (take k xs) (get_or xs k 0 ∷ []))
    ∙ rw pass (largest-push f (filter q (take k xs)) (get_or xs k 0))

pub largest-failing : (f : ℕ → ℕ) (q : ℕ → Bool) (xs : List ℕ) (k : ℕ) → k < length xs → q (get_or xs k 0) ≡ false
    → largest_by f (filter q (take (k + 1) xs)) ≡ largest_by f (filter q (take k xs))
largest-failing f q xs k within fail =
    ap (λ ys. largest_by f (filter q ys)) (take_more xs k 0 within)
    ∙ ap (largest_by f) (filter-append q (take k xs) (get_or xs k 0 ∷ []))
    ∙ rw fail (ap (largest_by f) (append-nil (filter q (take k xs))))
