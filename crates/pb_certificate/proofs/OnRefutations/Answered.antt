-- Records without a fault are the text of a refutation.
use Rattle.std.proofs.Common.{◌≡◌, ◌∙◌, List, ℕ, Option, ap, inl, inr}
use Rattle.std.specs.Prelude.{◌⊎◌}
use Rattle.pb_election.specs.Instance.{Instance}
use Rattle.pb_records.specs.Records.{Rec}
use Rattle.pb_records.specs.Cells.{nonblank}
use Rattle.pb_records.specs.FirstFault.{NoFault}
use Rattle.pb_records.specs.Inside.Headed.{HasTaken}
use Rattle.pb_records.proofs.FirstOrNone.{HasFirst}
use Rattle.pb_records.proofs.Headed.{all-kept, states-or-first}
use Rattle.pb_certificate.specs.Faults.{refutation_form}
use Rattle.pb_certificate.specs.Refutations.{Weights}
use Rattle.pb_certificate.specs.Refutations.Kind.{RefutationHead, refutation_kind}
use Rattle.pb_certificate.specs.Refutations.Text.{IsRefutationText, stated_by}
use Rattle.pb_certificate.specs.declared.refutations.weighting.Weighting.{Weighting}
use Rattle.pb_certificate.proofs.OnRefutations.Heads.{states-text}

pub refutation-answered : (recs : List Rec) (e : Instance)
    → ((w : Weights) × IsRefutationText recs e w) ⊎ HasFirst (refutation_form e) recs
unfolding refutation_form
refutation-answered recs e = elim (states-or-first (refutation_kind e) recs) [
  | inl s ↦ inl (record { cover = s.so_far.head.cover; rows = stated_by e s.so_far.rows }, states-text recs e s)
  | inr first ↦ inr first
]

-- what a draft has that took all records states them
pub states-weights : (e : Instance) (had : RefutationHead × List (Option Weighting)) (recs : List Rec) (cover : ℕ)
    (rows : List (Option Weighting)) → HasTaken (refutation_kind e) (stated_by e) had (nonblank recs)
    → NoFault (refutation_form e) recs → cover ≡ had.0.cover → rows ≡ had.1
    → IsRefutationText recs e (record { cover = cover; rows = rows })
unfolding refutation_form
states-weights e had recs cover rows taken none is_cover are_rows =
    let all = all-kept (refutation_kind e) (stated_by e) had recs taken none in
    let weight = is_cover ∙ ap (λ (x : RefutationHead × List (Option Weighting)). x.0.cover) all.1 in
    let weights = are_rows ∙ ap (λ (x : RefutationHead × List (Option Weighting)). x.1) all.1 in
    rw (weight, weights) (states-text recs e all.0)
