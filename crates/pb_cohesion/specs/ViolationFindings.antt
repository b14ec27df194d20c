-- What each test of a violation of EJR by a group s that demands the projects t comes to.
use Rattle.std.specs.Prelude.{◌≡◌, ◌≢◌, ◌↔◌, ◌<◌, ◌≤◌, ◌*◌, ℕ, All, Bool, List, [], Option, Some, None, filter, length, nat_le, slice_get}
use Rattle.pb_election.specs.Instance.{Approves, Instance, cost_of_all, voters}
use Rattle.pb_cohesion.specs.Amounts.{largest_by}
use Rattle.pb_cohesion.specs.FirstV.{culprits_of_V2, culprits_of_V4}
use Rattle.pb_cohesion.specs.Groups.{gets, sat}
use Rattle.pb_cohesion.specs.declared.MissingApprovals.{MissingApprovals}
use Rattle.pb_cohesion.specs.declared.SatisfiedMembers.{SatisfiedMembers}
use Rattle.pb_cohesion.specs.declared.ViolationFindings.{ViolationFindings}

-- V2: the first member that doesn't approve a demanded project, with that project, and how many such pairs there are
abbrev pub missing_approvals : Instance → List ℕ → List ℕ → MissingApprovals
missing_approvals e s t = record { first = slice_get (culprits_of_V2 e s t) 0; count = length (culprits_of_V2 e s t) }

-- V4: the first of the members that get at least what is demanded, and how many there are
abbrev pub satisfied_members : List ℕ → SatisfiedMembers
satisfied_members culprits = record { first = slice_get culprits 0; count = length culprits }

-- what that member gets, or where there is none the most that one of the group gets, where f says what each gets
abbrev pub shown_worth : Option ℕ → (ℕ → ℕ) → List ℕ → ℕ
shown_worth (Some i) f s = f i
shown_worth None f s = largest_by f s

-- Where f says what each of a group gets: the members that get at least so much, and what is shown by them.
abbrev pub satisfied_by : ℕ → (ℕ → ℕ) → List ℕ → List ℕ
satisfied_by enough f s = filter (λ i. nat_le enough (f i)) s

abbrev pub shown_by : ℕ → (ℕ → ℕ) → List ℕ → ℕ
shown_by enough f s = shown_worth (slice_get (satisfied_by enough f s) 0) f s

-- what a voter gets is worth
abbrev pub worth_to : (ℕ → ℕ) → Instance → List Bool → ℕ → ℕ
worth_to worth e w i = sat worth (gets e w i)

-- the findings
abbrev pub violation_findings : (ℕ → ℕ) → Instance → List Bool → List ℕ → List ℕ → ViolationFindings
violation_findings worth e w s t = record {
  members = length s;
  cost = cost_of_all e t;
  unapproved = missing_approvals e s t;
  demanded = sat worth t;
  satisfied = satisfied_members (culprits_of_V4 worth e w s t);
  gets = shown_worth (slice_get (culprits_of_V4 worth e w s t) 0) (λ i. sat worth (gets e w i)) s;
}

-- What the findings tell: V1 holds where the group has members, V2 and V4 where they have no culprit, and V3 where the
-- group's share of the limit covers what the demanded projects cost.
pub record TellWhichTestsHold (worth : ℕ → ℕ) (e : Instance) (w : List Bool) (s t : List ℕ)
    (f : ViolationFindings) : Type 0 where
  pub not_empty : (0 < f.members) ↔ (s ≢ [])
  pub approve : (f.unapproved.count ≡ 0) ↔ All (λ i. All (λ j. Approves e i j) t) s
  pub large : (voters e * f.cost ≤ f.members * e.limit) ↔ (voters e * cost_of_all e t ≤ length s * e.limit)
  pub less : (f.satisfied.count ≡ 0) ↔ All (λ i. sat worth (gets e w i) < sat worth t) s
