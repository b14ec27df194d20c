-- What a text states is one thing.
use Rattle.std.proofs.Common.{◌≡◌, ℕ, zero, suc, ◌+◌, ◌≤◌, Bool, List, [], ◌∷◌, ◌++◌, length, refl, sym, ◌∙◌, ap, arith, Option, Some}
use Rattle.std.specs.Prelude.{map, filter}
use Rattle.std.specs.List.{range_with_len}
use Rattle.std.proofs.lemmas.List.FromFn.{length-map-range_with_len}
use Rattle.pb_election.specs.Instance.{Instance, IsSet, projects, voters}
use Rattle.pb_records.specs.Records.{Field, Rec}
use Rattle.pb_election.proofs.Sets.{set-lower}
use Rattle.pb_certificate.specs.Prices.{Prices}
use Rattle.pb_certificate.specs.Fields.{fields, whole_within}
use Rattle.pb_certificate.specs.Prices.Text.{IsPriceText}
use Rattle.pb_certificate.specs.Violations.Text.{IsViolationText, StateMeasure}
use Rattle.pb_certificate.specs.Outcomes.Text.{IsOutcomeText}
use Rattle.pb_certificate.specs.declared.violations.measure.Measure.{Measure}

map-Some : {A : Type 0} (xs ys : List A) → map Some xs ≡ map Some ys → xs ≡ ys
map-Some [] [] h = refl
map-Some [] (y ∷ ys) h = cc
map-Some (x ∷ xs) [] h = cc
map-Some (x ∷ xs) (y ∷ ys) h = let first : x ≡ y = cc in let rest : map Some xs ≡ map Some ys = cc in
    let same : xs ≡ ys = map-Some xs ys rest in cc

-- the same rows state the same things
pub rows-same : {A : Type 0} (f : Rec → Option A) (rows rows' : List Rec) (xs ys : List A) → rows ≡ rows'
    → map f rows ≡ map Some xs → map f rows' ≡ map Some ys → xs ≡ ys
rows-same f rows rows' xs ys e h k = map-Some xs ys (sym h ∙ ap (map f) e ∙ k)

-- the value of a head record
pub value-same : (r r' : Rec) (name f f' : Field) (least most n n' : ℕ) → r ≡ r' → fields r ≡ name ∷ f ∷ []
    → fields r' ≡ name ∷ f' ∷ [] → whole_within least most f ≡ Some n → whole_within least most f' ≡ Some n' → n ≡ n'
value-same r r' name f f' least most n n' e h h' k k' = grind arith

prices-same : (p q : Prices) → p.projects ≡ q.projects → p.denominator ≡ q.denominator → p.budget ≡ q.budget
    → p.payments ≡ q.payments → p ≡ q
prices-same p q m d b ps = grind arith

pub price-text-same : (recs : List Rec) (e : Instance) (p q : Prices) → IsPriceText recs e p → IsPriceText recs e q
    → p ≡ q
price-text-same recs e p q t u = grind (arith, rows-same, prices-same, value-same)

-- the head records of a violation certificate, where they are cut off, and what they state
heads-same : (m m' : Measure) (heads heads' rows rows' : List Rec) → StateMeasure m heads → StateMeasure m' heads'
    → heads ++ rows ≡ heads' ++ rows' → (m ≡ m') × (rows ≡ rows')
heads-same m m' heads heads' rows rows' s t cut = grind arith

pub group-text-same : (recs : List Rec) (e : Instance) (m m' : Measure) (s t s' t' : List ℕ)
    → IsViolationText recs e m s t → IsViolationText recs e m' s' t' → (m ≡ m') × (s ≡ s') × (t ≡ t')
group-text-same recs e m m' s t s' t' a b = grind (arith, heads-same, rows-same)

pub outcome-text-same : (recs : List Rec) (e : Instance) (w w' : List Bool) → IsOutcomeText recs e w
    → IsOutcomeText recs e w' → w ≡ w'
outcome-text-same recs e w w' a b = grind (arith, rows-same)

-- the numbers of a range that pass a test are a set

pub filter-set : (q : ℕ → Bool) (n a high : ℕ) → a + n ≤ high + 1 → IsSet a high (filter q (range_with_len a n))
filter-set q zero a high b = tt
filter-set q (suc n) a high b = grind (arith, set-lower, filter-set q n (a + 1) high)

pub group-text-sets : (recs : List Rec) (e : Instance) (m : Measure) (s t : List ℕ) → IsViolationText recs e m s t
    → IsSet 1 (voters e) s × IsSet 1 (projects e) t
group-text-sets recs e m s t a = grind (arith, filter-set)

pub outcome-text-length : (recs : List Rec) (e : Instance) (w : List Bool) → IsOutcomeText recs e w
    → length w ≡ projects e
outcome-text-length recs e w a = grind (arith, length-map-range_with_len)
