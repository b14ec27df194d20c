-- A text that is written part by part.
use Rattle.std.proofs.Common.{refl, rules, tests, arith, Bool, false, ◌<◌, ◌+◌, ◌≡◌, ◌≤◌, ◌-◌, ◌++◌, ℕ, List, take, drop, length, take-append-drop, append_assoc, length-append}
use Rattle.std.proofs.lemmas.List.{take_all, length-drop, length-take}
use Rattle.std.specs.Prelude.{◌==◌, ◌&&◌}

-- the rest after one more part
pub rest_after : (all front rest : List ℕ) (n k : ℕ) → k ≡ length rest - n → all ≡ front ++ rest
    → all ≡ (front ++ take n rest) ++ take k (drop n rest)
rest_after all front rest n k e h = grind (arith, length-drop, take_all, append_assoc, take-append-drop)

pub length_after : (front rest : List ℕ) (n : ℕ) → n ≤ length rest → length (front ++ take n rest) ≡ length front + n
length_after front rest n h = simp (length-append, length-take) (omega arith)

-- a write that took some byte did not fail
pub taken_some : (n : ℕ) (b : Bool) → 0 < n → ((n == 0) && b) ≡ false
taken_some n b h = let e : (n == 0) ≡ false = search (rules, tests) in rw e refl
