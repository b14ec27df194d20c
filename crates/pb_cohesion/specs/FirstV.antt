-- The tests of a violation of EJR by a group s that demands the projects t, in their order.
use Rattle.std.specs.Prelude.{◌*◌, ◌==◌, not, nat_lt, nat_le, if◌then◌else◌, ℕ, Bool, List, [], ◌∷◌, ◌++◌, length, map, filter, flat_map, slice_get, Option, Some, None}
use Rattle.pb_election.specs.Instance.{Instance, approves, cost_of_all, voters}
use Rattle.pb_cohesion.specs.Groups.{gets, sat}
use Rattle.pb_cohesion.specs.declared.ViolationFailure.{ViolationFailure}
use Rattle.pb_cohesion.specs.declared.ViolationFailure.TheVariants.{V1, V2, V3, V4}
use Rattle.pb_cohesion.specs.declared.ViolationVerdict.{ViolationVerdict}
use Rattle.pb_cohesion.specs.declared.ViolationVerdict.TheVariants as verdict

-- the members that don't approve a demanded project, each with that project, the lowest first
abbrev pub culprits_of_V2 : Instance → List ℕ → List ℕ → List (ℕ × ℕ)
culprits_of_V2 e s t = flat_map (λ i. map (λ j. (i, j)) (filter (λ j. not (approves e i j)) t)) s

-- the members that get at least what is demanded, the lowest first
abbrev pub culprits_of_V4 : (ℕ → ℕ) → Instance → List Bool → List ℕ → List ℕ → List ℕ
culprits_of_V4 worth e w s t = filter (λ i. nat_le (sat worth t) (sat worth (gets e w i))) s

-- each way in which a group and its demand are no violation, in the order of the tests
abbrev pub violation_failures_of : (ℕ → ℕ) → Instance → List Bool → List ℕ → List ℕ → List ViolationFailure
violation_failures_of worth e w s t =
    (if length s == 0 then V1 ∷ [] else [])
    ++ map (λ q. V2 q.0 q.1) (culprits_of_V2 e s t)
    ++ (if nat_lt (length s * e.limit) (voters e * cost_of_all e t) then V3 ∷ [] else [])
    ++ map V4 (culprits_of_V4 worth e w s t)

-- the first of them, where there is one
abbrev pub FirstV : (ℕ → ℕ) → Instance → List Bool → List ℕ → List ℕ → Option ViolationFailure
FirstV worth e w s t = slice_get (violation_failures_of worth e w s t) 0

-- the verdict: a violation where no test fails
abbrev pub violation_verdict_of : Option ViolationFailure → ViolationVerdict
violation_verdict_of None = verdict.Violation
violation_verdict_of (Some f) = verdict.Failed f
