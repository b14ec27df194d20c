-- What the code that finds groups that fall short has after some of the voters, those first that got the least. No claim
-- on an outcome rests on this.
use Rattle.std.specs.Prelude.{◌≡◌, ◌<◌, ◌≤◌, ◌+◌, ◌-◌, ◌*◌, ◌&&◌, ◌||◌, ℕ, Bool, true, false, not, List, [], ◌∷◌, All, if◌then◌else◌, length, map, nat_le, slice_index_or}
use Rattle.std.specs.List.Sorted.{IsNonDecreasingBy, IsPermutation}
use Rattle.pb_election.specs.Instance.{Instance, IsProject, all_voters, approves, most_voters, projects, voters}
use Rattle.pb_election.specs.Outcome.{has}
use Rattle.pb_certificate.specs.declared.violations.measure.Measure.{Measure}
use Rattle.pb_cohesion.specs.Closest.{most_need}
use Rattle.pb_cohesion.specs.Short.{got, need}
use Rattle.pb_cohesion.specs.declared.GroupFigures.{GroupFigures}

-- voters, each behind what it got
abbrev pub with_got : Measure → Instance → List Bool → List ℕ → List (ℕ × ℕ)
with_got m e w is = map (λ i. (got m e w i, i)) is

-- all voters, each behind what it got, and those first that got the least
pub record AreByGot (m : Measure) (e : Instance) (w : List Bool) (order : List (ℕ × ℕ)) : Type 0 where
  pub all : IsPermutation (with_got m e w (all_voters e)) order
  pub rising : IsNonDecreasingBy (λ one. one.0) order

-- what is needed on top of each of these is small
abbrev pub NeedsAreSmall : Measure → Instance → List (ℕ × ℕ) → Type 0
NeedsAreSmall m e order = All (λ one. (c : ℕ) → IsProject e c → need m e c one.0 ≤ most_need) order

-- whether a voter counts for c: it approves c, and c is unfunded
abbrev pub counts_for : Instance → List Bool → ℕ → ℕ → Bool
counts_for e w i c = approves e i c && not (has w c)

-- what those of some voters got that count for c
abbrev pub gots : Instance → List Bool → ℕ → List (ℕ × ℕ) → List ℕ
gots e w c [] = []
gots e w c (one ∷ rest) = if counts_for e w one.1 c then one.0 ∷ gots e w c rest else gots e w c rest

-- whether the share of k voters comes to this
abbrev pub is_enough : Instance → ℕ → ℕ → Bool
is_enough e k needed = nat_le (voters e * needed) (k * e.limit)

-- The figures with one more supporter, who got so much. The group that is shown is then that of all supporters so far
-- where their share is enough, or where none was yet and theirs covers as much as that of the group at hand.
abbrev pub is_shown : Measure → Instance → ℕ → GroupFigures → Bool
is_shown m e g x =
    is_enough e (x.supporters + 1) (need m e x.project g)
    || (not x.falls_short && nat_le (x.voters * need m e x.project g) ((x.supporters + 1) * x.need))

abbrev pub with_supporter : Measure → Instance → ℕ → GroupFigures → GroupFigures
with_supporter m e g x =
    if is_shown m e g x
    then record {
      project = x.project;
      supporters = x.supporters + 1;
      voters = x.supporters + 1;
      most = g;
      need = need m e x.project g;
      falls_short = is_enough e (x.supporters + 1) (need m e x.project g);
    }
    else record {
      project = x.project;
      supporters = x.supporters + 1;
      voters = x.voters;
      most = x.most;
      need = x.need;
      falls_short = x.falls_short;
    }

-- the figures of the project at this place can take one more supporter
pub record CanTake (k : ℕ) (x : GroupFigures) : Type 0 where
  pub project : x.project ≡ k + 1
  pub few : x.supporters ≤ most_voters
  pub few_voters : x.voters ≤ most_voters
  pub small : x.need ≤ most_need

-- the figures of some projects were changed in one way, and the others are as before
pub record AreChanged (counts : ℕ → Bool) (change : GroupFigures → GroupFigures) (old new : List GroupFigures)
    : Type 0 where
  pub as_many : length new ≡ length old
  pub each : (k : ℕ) (d : GroupFigures) → k < length old
      → slice_index_or new k d
      ≡ (if counts (k + 1) then change (slice_index_or old k d) else slice_index_or old k d)

-- What the figures of c are after supporters that got xs, the least first. The group that is shown is made of the first
-- supporters, up to the last with whom its share is enough; or where it never is, it is closest among those that are
-- made so, and the largest of these.
pub record Stand (m : Measure) (e : Instance) (c : ℕ) (xs : List ℕ) (x : GroupFigures) : Type 0 where
  pub project : x.project ≡ c
  pub supporters : x.supporters ≡ length xs
  pub within : x.voters ≤ length xs
  pub some : 0 < length xs → 0 < x.voters
  pub most : 0 < x.voters → slice_index_or xs (x.voters - 1) 0 ≡ x.most
  pub needs : 0 < x.voters → x.need ≡ need m e c x.most
  pub small : x.need ≤ most_need
  pub enough : x.falls_short ≡ true → (0 < x.voters) × (is_enough e x.voters x.need ≡ true)
  pub last : x.falls_short ≡ true → (k : ℕ) → x.voters ≤ k → k < length xs
      → is_enough e (k + 1) (need m e c (slice_index_or xs k 0)) ≡ false
  pub never : x.falls_short ≡ false → (k : ℕ) → k < length xs
      → is_enough e (k + 1) (need m e c (slice_index_or xs k 0)) ≡ false
  pub closest : x.falls_short ≡ false → (k : ℕ) → k < length xs
      → (k + 1) * x.need ≤ x.voters * need m e c (slice_index_or xs k 0)
  pub largest : x.falls_short ≡ false → (k : ℕ) → x.voters ≤ k → k < length xs
      → (k + 1) * x.need < x.voters * need m e c (slice_index_or xs k 0)

-- the figures of all projects after some voters
pub record AllStand (m : Measure) (e : Instance) (w : List Bool) (before : List (ℕ × ℕ)) (xs : List GroupFigures)
    : Type 0 where
  pub as_many : length xs ≡ projects e
  pub each : (k : ℕ) (d : GroupFigures) → k < projects e
      → Stand m e (k + 1) (gots e w (k + 1) before) (slice_index_or xs k d)
