-- For each unfunded project with a supporter, the group that is shown: the largest one that falls short, or where none
-- does, the closest.
use Rattle.std.specs.Prelude.{◌≡◌, ◌≢◌, ◌≤◌, ◌+◌, ◌*◌, ◌⊎◌, ◌↔◌, ℕ, All, Bool, IsTrue, Contains, List, [], filter, length, map, nat_le, nat_lt}
use Rattle.pb_money.specs.Money.{most_money}
use Rattle.pb_election.specs.Instance.{Instance, most_projects, supporters}
use Rattle.pb_certificate.specs.declared.violations.measure.Measure.{Measure}
use Rattle.pb_cohesion.specs.Amounts.{largest_by}
use Rattle.pb_cohesion.specs.Groups.{IsGroupWithin}
use Rattle.pb_cohesion.specs.Outcome.{IsUnfunded, unfunded}
use Rattle.pb_cohesion.specs.Short.{FallsShort, IsLargestShort, got, need}
use Rattle.pb_cohesion.specs.declared.GroupFigures.{GroupFigures}

-- some supporters of an unfunded project
abbrev pub WantUnfunded : Instance → List Bool → List ℕ → ℕ → Type 0
WantUnfunded e w s c = (s ≢ []) × IsUnfunded e w c × IsGroupWithin e s c

-- the most that a member of a group got
abbrev pub most_got : Measure → Instance → List Bool → List ℕ → ℕ
most_got m e w s = largest_by (got m e w) s

-- What the share of a group has to come to for c. It rises with what a member got, so it goes by the most that one got.
abbrev pub group_need : Measure → Instance → List Bool → List ℕ → ℕ → ℕ
group_need m e w s c = need m e c (most_got m e w s)

-- The group s is the closest for c: of all groups of supporters, its share covers most of what it has to come to, and
-- each group whose share covers as much is a part of it. Shares are as the numbers of members.
pub record IsClosest (m : Measure) (e : Instance) (w : List Bool) (s : List ℕ) (c : ℕ) : Type 0 where
  pub wants : WantUnfunded e w s c
  pub closest : (t : List ℕ) → WantUnfunded e w t c
      → length t * group_need m e w s c ≤ length s * group_need m e w t c
  pub largest : (t : List ℕ) → WantUnfunded e w t c
      → length t * group_need m e w s c ≡ length s * group_need m e w t c → All (λ i. Contains s i) t

-- no group falls short for c
abbrev pub NoneFallsShort : Measure → Instance → List Bool → ℕ → Type 0
NoneFallsShort m e w c = (s : List ℕ) → FallsShort m e w s c → ⊥

-- the group that is shown for c
abbrev pub IsShown : Measure → Instance → List Bool → List ℕ → ℕ → Type 0
IsShown m e w s c = IsLargestShort m e w s c ⊎ (NoneFallsShort m e w c × IsClosest m e w s c)

-- the supporters of c that got at most this
abbrev pub up_to : Measure → Instance → List Bool → ℕ → ℕ → List ℕ
up_to m e w c most = filter (λ i. nat_le (got m e w i) most) (supporters e c)

-- the largest need, in millionths
abbrev pub most_need : ℕ
most_need = (most_projects + 1) * most_money

-- what is told of a project: how many supporters it has, whether a group falls short for it, and of the group that is
-- shown how large it is, the most that a member got, and what its share has to come to
pub record AreFiguresOf (m : Measure) (e : Instance) (w : List Bool) (x : GroupFigures) : Type 0 where
  pub supporters : x.supporters ≡ length (supporters e x.project)
  pub falls_short : IsTrue x.falls_short ↔ ((s : List ℕ) × FallsShort m e w s x.project)
  pub shown : (s : List ℕ) × IsShown m e w s x.project × (x.voters ≡ length s) × (x.most ≡ most_got m e w s)
      × (x.need ≡ group_need m e w s x.project)

-- the unfunded projects that have a supporter
abbrev pub wanted : Instance → List Bool → List ℕ
wanted e w = filter (λ c. nat_lt 0 (length (supporters e c))) (unfunded e w)

-- the figures of each unfunded project that has a supporter, in the order of the file
pub record AreAllFigures (m : Measure) (e : Instance) (w : List Bool) (xs : List GroupFigures) : Type 0 where
  pub projects : map (λ x. x.project) xs ≡ wanted e w
  pub each : All (AreFiguresOf m e w) xs
