use Rattle.std.proofs.Common.{◌≡◌, ◌≤◌, take, count_by}
use Rattle.pb_json.proofs.elections.funded.Given as goal

abbrev pub invariant-loop-j : goal.invariant-loop-j
invariant-loop-j l = (l.count ≤ l.j) × (l.count ≡ count_by (λ mark. mark) (take l.j l.outcome.marks))
