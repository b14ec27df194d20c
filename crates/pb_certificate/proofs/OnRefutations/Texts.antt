-- What the text of a refutation states.
use Rattle.std.proofs.Common.{◌≡◌, ◌∙◌, ◌≤◌, ℕ, Bool, true, false, cond, List, [], ◌∷◌, length, sym, ap, subst, arith, Option, Some}
use Rattle.std.specs.Prelude.{◌==◌, IfSome, map}
use Rattle.std.specs.List.{AllByRecursion}
use Rattle.std.proofs.lemmas.List.Elements.{All-from_recursion}
use Rattle.std.proofs.lemmas.List.FromFn.{length-map-range_with_len}
use Rattle.pb_election.specs.Instance.{Instance, all_projects, projects}
use Rattle.pb_records.proofs.Each.{all-every, all-map}
use Rattle.pb_records.specs.Records.{Rec}
use Rattle.pb_certificate.specs.Refutations.{AreWeights, Weights, WeightsFit, most_weight}
use Rattle.pb_certificate.specs.Refutations.Text.{IsRefutationText, WeightRow, stated_of, weight_row_of}
use Rattle.pb_certificate.specs.declared.refutations.weighting.Weighting.{Weighting}
use Rattle.pb_certificate.proofs.OnPrices.Texts.{within-some}
use Rattle.pb_certificate.proofs.OnRefutations.Rows.{row-of}
use Rattle.pb_certificate.proofs.Unique.{rows-same, value-same}

abbrev IsSmall : Option Weighting → Type 0
IsSmall row = IfSome row (λ x. x.weight ≤ most_weight)

abbrev AreSmall : List WeightRow → Type 0
AreSmall qs = AllByRecursion (λ q. q.states.weight ≤ most_weight) qs

rows-small : (e : Instance) (rows : List Rec) (qs : List WeightRow) → map (weight_row_of e) rows ≡ map Some qs
    → AreSmall qs
rows-small e rows [] h = tt
rows-small e [] (q ∷ qs) h = cc
rows-small e (r ∷ rs) (q ∷ qs) h =
    let first : weight_row_of e r ≡ Some q = cc in
    let rest : map (weight_row_of e) rs ≡ map Some qs = cc in
    let row = row-of e r q first in
    ((within-some 0 most_weight row.n q.states.weight row.weight).1, rows-small e rs qs rest)

stated-small : (qs : List WeightRow) (j : ℕ) → AreSmall qs → IsSmall (stated_of qs j)
stated-small [] j h = tt
stated-small (q ∷ qs) j h = by (q.project == j) (stated-small qs j h.1)
  where
    by : (b : Bool) → IsSmall (stated_of qs j) → IsSmall (cond b (Some q.states) (stated_of qs j))
    by true rest = h.0
    by false rest = rest

pub are-weights : (recs : List Rec) (e : Instance) (w : Weights) → IsRefutationText recs e w → AreWeights w
are-weights recs e w t =
    let small = rows-small e t.rows t.stated t.each_row in
    let each : AllByRecursion IsSmall (map (stated_of t.stated) (all_projects e)) =
    all-map IsSmall (stated_of t.stated) (all_projects e)
    (all-every (λ j. IsSmall (stated_of t.stated j)) (all_projects e) (λ j. stated-small t.stated j small)) in
    record {
      cover = (within-some 0 most_weight t.is_cover.0 w.cover t.is_cover.2).1;
      weights = All-from_recursion IsSmall w.rows (subst (AllByRecursion IsSmall) (sym t.same_rows) each);
    }

pub weights-fit : (recs : List Rec) (e : Instance) (w : Weights) → IsRefutationText recs e w → WeightsFit w e
weights-fit recs e w t = ap length t.same_rows ∙ length-map-range_with_len (stated_of t.stated) 1 (projects e)

-- the same records state the same weights

weights-same : (v w : Weights) → v.cover ≡ w.cover → v.rows ≡ w.rows → v ≡ w
weights-same v w cover rows = grind arith

pub refutation-text-same : (recs : List Rec) (e : Instance) (v w : Weights) → IsRefutationText recs e v
    → IsRefutationText recs e w → v ≡ w
refutation-text-same recs e v w t u = grind (arith, rows-same, weights-same, value-same)
