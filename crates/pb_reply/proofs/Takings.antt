-- What inputs state that were taken.
use Rattle.std.proofs.Common.{◌≡◌, refl, subst, sym, Bool, Option, List, ℕ}
use Rattle.std.specs.Prelude.{IfOk, MatchResult, Result, Ok, Err, Some}
use Rattle.pb_election.specs.Instance.{Instance, IsSet, projects}
use Rattle.pb_records.specs.Loading.{Delivery}
use Rattle.pb_certificate.specs.Faults.{certificate_records}
use Rattle.pb_certificate.specs.Violations.Text.{IsViolationText}
use Rattle.pb_certificate.specs.declared.violations.measure.Measure.{Measure}
use Rattle.pb_certificate.proofs.Unique.{group-text-sets}
use Rattle.pb_reply.specs.Inputs.{StatesOutcome}
use Rattle.pb_reply.specs.Turns.{file_turn, turn}
use Rattle.pb_reply.specs.Inside.Taking.{AuditsOutcome, Gives, GivesOutcome, IfTaken}
use Rattle.pb_reply.specs.declared.unanswered.Unanswered.{Unanswered}
use Rattle.pb_reply.specs.declared.unanswered.Unanswered.TheVariants as unanswered

-- what is demanded is a set of projects
pub demand_set : (bytes : List ℕ) (e : Instance) (m : Measure) (group demand : List ℕ)
    → IsViolationText (certificate_records bytes) e m group demand → IsSet 1 (projects e) demand
demand_set bytes e m group demand text = (group-text-sets (certificate_records bytes) e m group demand text).1

-- what was taken was read
pub taken_was_read : {T E : Type 0} (P : T → Type 0) (why : E → Unanswered) (read : Result T E) (taken : Result T Unanswered)
    (value : T) → MatchResult read (λ v. taken ≡ Ok v) (λ refusal. taken ≡ Err (why refusal)) → taken ≡ Ok value
    → IfOk read P → P value
taken_was_read P why (Ok v) taken value given is holds = let same : v ≡ value = cc in subst P same holds
taken_was_read P why (Err refusal) taken value given is holds = absurd cc

-- the outcome that is audited, by the outcome file that was taken, or by the election's own
pub file_audited : (e : Instance) (outcome : Option Delivery) (d : Delivery) (taken : Result (List Bool) Unanswered)
    → outcome ≡ Some d → IfTaken taken (StatesOutcome e d) → IfTaken taken (AuditsOutcome e outcome)
file_audited e outcome d taken is states =
    subst (λ (o : Option Delivery). IfTaken taken (AuditsOutcome e o)) (sym is) (go taken states)
  where
    go : (r : Result (List Bool) Unanswered) → IfTaken r (StatesOutcome e d) → IfTaken r (AuditsOutcome e (Some d))
    go (Ok marks) s = record { file = Some (Ok marks); given = s; is = refl }
    go (Err (unanswered.Refused r)) s = record { file = Some (Err r); given = s; is = refl }
    go (Err unanswered.Memory) s = tt

-- the same where the turn of the outcome file came
pub file_given : {I : Type 0} (delivers : I → I → Delivery → Type 0) (e : Instance) (old : Option I) (file new : I)
    (taken : Result (List Bool) Unanswered) → old ≡ Some file
    → IfTaken taken (Gives (StatesOutcome e) (turn delivers file new))
    → IfTaken taken (GivesOutcome e (file_turn delivers old (Some new)))
file_given {I} delivers e old file new taken is from =
    subst (λ (o : Option I). IfTaken taken (GivesOutcome e (file_turn delivers o (Some new)))) (sym is) (go taken from)
  where
    go : (r : Result (List Bool) Unanswered) → IfTaken r (Gives (StatesOutcome e) (turn delivers file new))
        → IfTaken r (GivesOutcome e (file_turn delivers (Some file) (Some new)))
    go (Ok marks) g =
        record {
          delivery = Some g.delivery;
          delivered = g.delivered;
          audits = record { file = Some (Ok marks); given = g.stating; is = refl };
        }
    go (Err (unanswered.Refused r)) g =
        record {
          delivery = Some g.delivery;
          delivered = g.delivered;
          audits = record { file = Some (Err r); given = g.stating; is = refl };
        }
    go (Err unanswered.Memory) g = tt
