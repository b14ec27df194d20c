-- What the verdict on groups says by the figures of all projects.
use Rattle.std.proofs.Common.{◌≡◌, ap₂, refl, ℕ, Bool, List}
use Rattle.std.specs.Prelude.{◌↔◌, length}
use Rattle.pb_election.specs.Instance.{Instance}
use Rattle.pb_certificate.specs.declared.violations.measure.Measure.{Measure}
use Rattle.pb_cohesion.specs.Closest.{AreAllFigures}
use Rattle.pb_cohesion.specs.Short.{IsFirstShort, SatisfiesEjrPlus}
use Rattle.pb_cohesion.specs.Shown.{verdict_of}
use Rattle.pb_cohesion.specs.declared.GroupFigures.{GroupFigures}
use Rattle.pb_cohesion.specs.declared.GroupsVerdict.{GroupsVerdict}
use Rattle.pb_cohesion.specs.declared.GroupsVerdict.TheVariants.{Satisfied, Failed}
use Rattle.pb_cohesion.proofs.FirstShort.{failed-is, satisfied-is}
use Rattle.pb_reply.specs.Promises.{GroupsPromise}
use Rattle.pb_reply.specs.Replies.{groups_status}

-- its status keeps what it promises
pub groups-promise : (m : Measure) (e : Instance) (w : List Bool) (xs : List GroupFigures) → AreAllFigures m e w xs
    → GroupsPromise m (groups_status (verdict_of xs)) e w
groups-promise m e w xs figures =
    by (verdict_of xs) (satisfied-is m e w xs figures) (λ c k is. failed-is m e w xs c k figures is)
  where
    by : (v : GroupsVerdict) → ((v ≡ Satisfied) ↔ SatisfiesEjrPlus m e w)
        → ((c k : ℕ) → v ≡ Failed c k → (s : List ℕ) × IsFirstShort m e w s c × (length s ≡ k))
        → GroupsPromise m (groups_status v) e w
    by Satisfied satisfied failed = record { exactly = (λ yes'. satisfied.0 refl, λ good. refl); first = λ c k is. cc }
    by (Failed d j) satisfied failed = record {
      exactly = (λ yes'. cc, λ good. absurd (let bad : Failed d j ≡ Satisfied = satisfied.1 good in cc));
      first = λ c k is. failed c k (let project : d ≡ c = cc in let count : j ≡ k = cc in ap₂ Failed project count);
    }
