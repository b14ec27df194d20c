-- What voters pay and have left, as one payment is added.
use Rattle.std.proofs.Common.{◌≡◌, ℕ, ◌+◌, ◌*◌, ◌^◌, ◌≤◌, max, ◌∙◌, ap, arith}
use Rattle.std.specs.Prelude.{pos, ◌-ℤ◌}
use Rattle.std.specs.List.{range_with_len}
use Rattle.pb_money.specs.Grains.{payment_grains}
use Rattle.pb_election.specs.Instance.{Instance, IsProject, IsVoter, projects, voters}
use Rattle.pb_cohesion.specs.Conditions.{sum_ℤ}
use Rattle.pb_cohesion.proofs.Amounts.{max-is}
use Rattle.pb_cohesion.proofs.Sums.{range-same, sum-zero}
use Rattle.pb_price.specs.Inside.Tallies.{IsWithin, Taken, TakesRow, first_supporters, left_by, most_by, paid_by, spent_by, top_by}
use Rattle.pb_certificate.specs.declared.prices.row.PriceRow.{PriceRow}
use Rattle.pb_price.proofs.Sums.{largest-most, largest-one-more, largest-same, largest-zero, sum-most, sum-one-more}
use Rattle.pb_price.proofs.Signed.{signed-same}

-- a voter whose payments are the same has spent the same, and has the same left
pub spent-same : (e : Instance) (f g : ℕ → ℕ → ℕ) (i : ℕ) → ((c : ℕ) → g i c ≡ f i c) → spent_by e g i ≡ spent_by e f i
spent-same e f g i h = grind (arith, range-same)

pub top-same : (e : Instance) (f g : ℕ → ℕ → ℕ) (i : ℕ) → ((c : ℕ) → g i c ≡ f i c) → top_by e g i ≡ top_by e f i
top-same e f g i h = grind (arith, largest-same)

pub left-same : (b : ℕ) (e : Instance) (f g : ℕ → ℕ → ℕ) (i : ℕ) → ((c : ℕ) → g i c ≡ f i c)
    → left_by b e g i ≡ left_by b e f i
left-same b e f g i h = ap (λ s. pos b -ℤ pos s) (spent-same e f g i h)

pub most-same : (b : ℕ) (e : Instance) (f g : ℕ → ℕ → ℕ) (i : ℕ) → ((c : ℕ) → g i c ≡ f i c)
    → most_by b e g i ≡ most_by b e f i
most-same b e f g i h = grind (arith, top-same, left-same)

-- one that pays nothing
pub spent-none : (e : Instance) (f : ℕ → ℕ → ℕ) (i : ℕ) → ((c : ℕ) → f i c ≡ 0) → spent_by e f i ≡ 0
spent-none e f i h =
    range-same (λ c. payment_grains (f i c)) (λ c. 0) 1 (projects e) (λ c low high. ap payment_grains (h c))
    ∙ sum-zero (range_with_len 1 (projects e))

pub top-none : (e : Instance) (f : ℕ → ℕ → ℕ) (i : ℕ) → ((c : ℕ) → f i c ≡ 0) → top_by e f i ≡ 0
top-none e f i h =
    largest-same (λ c. payment_grains (f i c)) (λ c. 0) 1 (projects e) (λ c low high. ap payment_grains (h c))
    ∙ largest-zero 1 (projects e)

-- bounds
grains-most : (x : ℕ) → x ≤ 10 ^ 21 → payment_grains x ≤ 10 ^ 27
grains-most x h = omega arith

pub spent-most : (e : Instance) (f : ℕ → ℕ → ℕ) (i : ℕ) → ((i c : ℕ) → f i c ≤ 10 ^ 21)
    → spent_by e f i ≤ projects e * 10 ^ 27
spent-most e f i h = sum-most (λ c. payment_grains (f i c)) (10 ^ 27) 1 (projects e) (λ c. grains-most (f i c) (h i c))

pub top-most : (e : Instance) (f : ℕ → ℕ → ℕ) (i : ℕ) → ((i c : ℕ) → f i c ≤ 10 ^ 21) → top_by e f i ≤ 10 ^ 27
top-most e f i h = grind (arith, largest-most, grains-most)

pub paid-most : (e : Instance) (f : ℕ → ℕ → ℕ) (c : ℕ) → ((i c : ℕ) → f i c ≤ 10 ^ 21)
    → paid_by e f c ≤ voters e * 10 ^ 27
paid-most e f c h = sum-most (λ i. payment_grains (f i c)) (10 ^ 27) 1 (voters e) (λ i. grains-most (f i c) (h i c))

pub left-small : (b : ℕ) (e : Instance) (f : ℕ → ℕ → ℕ) (i : ℕ) → projects e ≤ 20000 → b ≤ 10 ^ 27
    → ((i c : ℕ) → f i c ≤ 10 ^ 21) → IsWithin (10 ^ 32) (left_by b e f i)
left-small b e f i few small h = grind (arith, spent-most)

pub most-small : (b : ℕ) (e : Instance) (f : ℕ → ℕ → ℕ) (i : ℕ) → b ≤ 10 ^ 27 → ((i c : ℕ) → f i c ≤ 10 ^ 21)
    → IsWithin (10 ^ 32) (most_by b e f i)
most-small b e f i small h = grind (arith, max-is, top-most)

-- one more row
pub paid-here : (e : Instance) (a b : Taken) (q : PriceRow) → TakesRow a b q → IsVoter e q.voter
    → paid_by e b.pays q.project ≡ paid_by e a.pays q.project + payment_grains q.payment
paid-here e a b q r v =
    sum-one-more (λ i. payment_grains (a.pays i q.project)) (λ i. payment_grains (b.pays i q.project)) (voters e) 1
    q.voter (payment_grains q.payment) v.0 (let high : q.voter ≤ voters e = v.1 in omega arith)
    (ap payment_grains r.none_yet) (ap payment_grains r.here) (λ i ne. ap payment_grains (r.voters i q.project ne))

pub paid-other : (e : Instance) (a b : Taken) (q : PriceRow) (c : ℕ) → TakesRow a b q → (c ≡ q.project → ⊥)
    → paid_by e b.pays c ≡ paid_by e a.pays c
paid-other e a b q c r ne = grind (arith, range-same)

pub spent-here : (e : Instance) (a b : Taken) (q : PriceRow) → TakesRow a b q → IsProject e q.project
    → spent_by e b.pays q.voter ≡ spent_by e a.pays q.voter + payment_grains q.payment
spent-here e a b q r p =
    sum-one-more (λ c. payment_grains (a.pays q.voter c)) (λ c. payment_grains (b.pays q.voter c)) (projects e) 1
    q.project (payment_grains q.payment) p.0 (let high : q.project ≤ projects e = p.1 in omega arith)
    (ap payment_grains r.none_yet) (ap payment_grains r.here) (λ c ne. ap payment_grains (r.projects q.voter c ne))

pub top-here : (e : Instance) (a b : Taken) (q : PriceRow) → TakesRow a b q → IsProject e q.project
    → top_by e b.pays q.voter ≡ max (top_by e a.pays q.voter) (payment_grains q.payment)
top-here e a b q r p =
    largest-one-more (λ c. payment_grains (a.pays q.voter c)) (λ c. payment_grains (b.pays q.voter c)) (projects e) 1
    q.project (payment_grains q.payment) p.0 (let high : q.project ≤ projects e = p.1 in omega arith)
    (ap payment_grains r.none_yet) (ap payment_grains r.here) (λ c ne. ap payment_grains (r.projects q.voter c ne))

-- what the supporters among the first so many voters have left and can offer, where those pay the same
pub lefts-same : (x : ℕ) (e : Instance) (f g : ℕ → ℕ → ℕ) (n c : ℕ) → ((i k : ℕ) → i ≤ n → g i k ≡ f i k)
    → sum_ℤ (left_by x e g) (first_supporters e n c) ≡ sum_ℤ (left_by x e f) (first_supporters e n c)
lefts-same x e f g n c h = grind (arith, signed-same, left-same)

pub offers-same : (x : ℕ) (e : Instance) (f g : ℕ → ℕ → ℕ) (n c : ℕ) → ((i k : ℕ) → i ≤ n → g i k ≡ f i k)
    → sum_ℤ (most_by x e g) (first_supporters e n c) ≡ sum_ℤ (most_by x e f) (first_supporters e n c)
offers-same x e f g n c h = grind (arith, signed-same, most-same)
