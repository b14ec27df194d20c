-- What holds of an election's projects and voters, one by one.
use Rattle.std.proofs.Common.{◌≡◌, ◌<◌, ◌≤◌, ◌+◌, ◌-◌, ℕ, zero, suc, List, [], ◌∷◌, Bool, true, Some, sym, arith, length, slice_index_or}
use Rattle.std.specs.List.{AllByRecursion, position_from}
use Rattle.std.specs.Str.{bytes_eq}
use Rattle.std.proofs.lemmas.Slice.Eq.{bytes_eq-Decides}
use Rattle.pb_election.specs.Instance.{Instance, IsBallot, IsProject, IsVoter, ballot_of, id_of, position_of}
use Rattle.pb_election.specs.Text.{IsElection}

-- what holds of each element holds at an index
pub AllByRecursion-at : {X : Type 0} (P : X → Type 0) (xs : List X) (i : ℕ) (d : X) → i < length xs
    → AllByRecursion P xs → P (slice_index_or xs i d)
AllByRecursion-at P [] i d h all = absurd (omega (arith, h))
AllByRecursion-at P (x ∷ xs) zero d h all = all.0
AllByRecursion-at P (x ∷ xs) (suc i) d h all = AllByRecursion-at P xs i d (omega (arith, h)) all.1

-- each ballot is a set of projects
pub ballot_is : (e : Instance) → IsElection e → (i : ℕ) → IsVoter e i → IsBallot e (ballot_of e i)
ballot_is e sound i voter = grind (arith, AllByRecursion-at)

-- what stands at the first place, from n, that passes
pub position_from-at : {X : Type 0} (test : X → Bool) (n : ℕ) (xs : List X) (d : X) (k : ℕ)
    → position_from test n xs ≡ Some k
    → (n ≤ k) × (k < n + length xs) × (test (slice_index_or xs (k - n) d) ≡ true)
position_from-at test n [] d k e = cc e
position_from-at {X} test n (x ∷ xs) d k e = grind (arith, position_from-at test (n + 1) xs d k)

-- a position that is found is that of a project with the id
pub found_is : (e : Instance) (id : List ℕ) (j : ℕ) → position_of e id ≡ Some j → IsProject e j × (id_of e j ≡ id)
found_is e id j h =
    let at = position_from-at (bytes_eq id) 1 e.ids [] j h in
    ((at.0, omega (arith, at.1)), sym ((bytes_eq-Decides id (id_of e j)).0 at.2))
