use Rattle.std.proofs.Common.{◌≡◌, ℕ, true, get_or, not, rules, sym}
use Rattle.pb_election.specs.Instance.{approves, projects}
use Rattle.pb_cohesion.proofs.Firsts.{filter-first}
use Rattle.pb_cohesion.proofs.Loops.{set-at}
use Rattle.pb_cohesion.proofs.explaining.first_missing.Goals as goal

pub approves-requires-clause-project : goal.approves-requires-clause-project
approves-requires-clause-project c =
    set-at 1 (projects c.args.election.now) c.args.demand.now c.loop-j.j-index c.requires.demand c.loop-j-test.true

pub returns-then-not-approves : goal.returns-then-not-approves
returns-then-not-approves c =
    let missing : not (approves c.args.election.now c.args.i (get_or c.args.demand.now c.loop-j.j-index 0)) ≡ true =
    search rules in
    sym (filter-first (λ (j : ℕ). not (approves c.args.election.now c.args.i j)) c.args.demand.now c.loop-j.j-index
    c.loop-j.invariant c.loop-j-test.true missing)
