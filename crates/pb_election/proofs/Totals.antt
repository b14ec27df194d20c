-- The costs of marked projects, summed from the front.
use Rattle.std.proofs.Common.{◌≡◌, ◌≤◌, ◌⊎◌, inl, inr, ℕ, List, [], ◌∷◌, Bool, refl, arith, length, drop, min}
use Rattle.std.proofs.lemmas.List.{drop_all}
use Rattle.pb_election.specs.Outcome.{cost_of_marked}

no_costs : (marks : List Bool) → cost_of_marked marks [] ≡ 0
no_costs [] = refl
no_costs (mark ∷ marks) = refl

-- nothing is left at the end of either
pub cost_of_marked-end : (marks : List Bool) (costs : List ℕ) (n : ℕ) → (length marks ≤ n) ⊎ (length costs ≤ n)
    → cost_of_marked (drop n marks) (drop n costs) ≡ 0
cost_of_marked-end marks costs n (inl h) = rw (drop_all n marks h) refl
cost_of_marked-end marks costs n (inr h) = rw (drop_all n costs h) (no_costs (drop n marks))

-- where the shorter of two lists ends
pub either_end : (n a b : ℕ) → n ≡ min a b → (a ≤ n) ⊎ (b ≤ n)
either_end n a b h = grind (arith, h)
