-- Records without a fault are the text of an outcome.
use Rattle.std.proofs.Common.{◌≡◌, Bool, List, ap, subst, sym, inl, inr}
use Rattle.std.specs.Prelude.{◌⊎◌}
use Rattle.pb_election.specs.Instance.{Instance}
use Rattle.pb_records.specs.Records.{Rec}
use Rattle.pb_records.specs.Cells.{nonblank}
use Rattle.pb_records.specs.FirstFault.{NoFault}
use Rattle.pb_records.specs.Inside.Headed.{HasTaken}
use Rattle.pb_records.proofs.FirstOrNone.{HasFirst}
use Rattle.pb_records.proofs.Headed.{all-kept, states-or-first}
use Rattle.pb_certificate.specs.Faults.{outcome_form}
use Rattle.pb_certificate.specs.Inside.Marks.{project_marks}
use Rattle.pb_certificate.specs.Outcomes.Kind.{outcome_kind}
use Rattle.pb_certificate.specs.Outcomes.Text.{IsOutcomeText}
use Rattle.pb_certificate.proofs.OnOutcomes.Texts.{states-text}

pub outcome-answered : (recs : List Rec) (e : Instance)
    → ((w : List Bool) × IsOutcomeText recs e w) ⊎ HasFirst (outcome_form e) recs
unfolding outcome_form
outcome-answered recs e =
    elim (states-or-first (outcome_kind e) recs)
    [ inl s ↦ inl (project_marks e s.so_far.rows, states-text recs e s) | inr first ↦ inr first ]

-- what a draft has that took all records states them
pub whole-outcome : (e : Instance) (begun : Bool) (marks : List Bool) (recs : List Rec)
    → HasTaken (outcome_kind e) (project_marks e) (begun, marks) (nonblank recs) → NoFault (outcome_form e) recs
    → IsOutcomeText recs e marks
unfolding outcome_form
whole-outcome e begun marks recs taken none =
    let all = all-kept (outcome_kind e) (project_marks e) (begun, marks) recs taken none in
    let same : marks ≡ project_marks e all.0.so_far.rows = ap (λ (x : Bool × List Bool). x.1) all.1 in
    subst (IsOutcomeText recs e) (sym same) (states-text recs e all.0)
