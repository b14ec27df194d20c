-- The code's own words while it looks for the group that comes nearest. A word has a bit for each project of a block: the
-- projects behind low, as many as there are bits. No claim on an election rests on this.
use Rattle.std.specs.Prelude.{◌≡◌, ◌<◌, ◌≤◌, ◌+◌, ◌-◌, ◌*◌, ◌-ℤ◌, ◌==◌, ◌&&◌, if◌then◌else◌, int_lt, ℕ, ℤ, pos, max, Bool, List, Option, Some, None, filter, length, slice_index}
use Rattle.std.specs.Int.{bit_at}
use Rattle.std.specs.List.{list_any, range_with_len}
use Rattle.pb_election.specs.Instance.{Instance, IsProject, approves, cost_of, most_voters, projects, voters}
use Rattle.pb_election.specs.Outcome.{has, most_total}
use Rattle.pb_price.specs.declared.nearest.NearestGroup.{NearestGroup}

-- how many bits a word has
abbrev pub word_bits : ℕ
word_bits = 128

abbrev pub bit_if : Bool → ℕ
bit_if b = if b then 1 else 0

abbrev pub among : List ℕ → ℕ → Bool
among ballot j = list_any (λ k. k == j) ballot

-- a word of the projects of a block that a ballot has
abbrev pub IsWordOf : List ℕ → ℕ → ℕ → Type 0
IsWordOf ballot low word = (k : ℕ) → k < word_bits → bit_at word k ≡ bit_if (among ballot (low + k + 1))

-- the words of the projects of a ballot got the bits of a word
pub record GetWord (word : ℕ) (old new ballot : List ℕ) : Type 0 where
  pub as_many : length new ≡ length old
  pub each : (c k : ℕ) → c < length old
      → bit_at (slice_index new c) k
      ≡ max (bit_at (slice_index old c) k) (if among ballot (c + 1) then bit_at word k else 0)

-- whether one of the first voters approves both projects
abbrev pub share_a_voter : ℕ → Instance → ℕ → ℕ → Bool
share_a_voter n e c d = list_any (λ i. approves e i c && approves e i d) (range_with_len 1 n)

-- each project has the word of the projects of a block with which it shares one of the first n voters
pub record AreReached (n : ℕ) (e : Instance) (low : ℕ) (words : List ℕ) : Type 0 where
  pub as_many : length words ≡ projects e
  pub each : (c k : ℕ) → c < projects e → k < word_bits
      → bit_at (slice_index words c) k ≡ bit_if (share_a_voter n e (c + 1) (low + k + 1))

-- each project of a ballot has one more
pub record AreCounted (old new ballot : List ℕ) : Type 0 where
  pub as_many : length new ≡ length old
  pub each : (c : ℕ) → c < length old → slice_index new c ≡ slice_index old c + bit_if (among ballot (c + 1))

-- how many of the first n voters approve each project
pub record AreSupporters (n : ℕ) (e : Instance) (counts : List ℕ) : Type 0 where
  pub as_many : length counts ≡ projects e
  pub each : (c : ℕ) → c < projects e
      → slice_index counts c ≡ length (filter (λ i. approves e i (c + 1)) (range_with_len 1 n))

-- the funded projects whose words have a bit
abbrev pub funded_with_bit : List Bool → List ℕ → ℕ → ℕ → Bool
funded_with_bit w words k c = has w c && (bit_at (slice_index words (c - 1)) k == 1)

-- a group of an election, whose figures fit
pub record IsSmallGroup (e : Instance) (g : NearestGroup) : Type 0 where
  pub project : IsProject e g.project
  pub supporters : g.supporters ≤ most_voters
  pub funded_for : g.funded_for ≤ most_total

-- by how much a group's share is above what it has to reach
abbrev pub surplus_by : Instance → NearestGroup → ℤ
surplus_by e g = pos (g.supporters * e.limit) -ℤ pos (voters e * (cost_of e g.project + g.funded_for))

-- the nearer of the group that is known, if there is one, and another behind it
abbrev pub nearer_of : Instance → Option NearestGroup → NearestGroup → NearestGroup
nearer_of e None g = g
nearer_of e (Some known) g = if int_lt (surplus_by e known) (surplus_by e g) then g else known
