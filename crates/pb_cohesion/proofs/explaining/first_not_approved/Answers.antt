use Rattle.std.proofs.Common.{◌≡◌, ℕ, get_or, filter, map, not, sym, ◌∙◌, ap}
use Rattle.std.specs.Prelude.{None, Some, slice_get}
use Rattle.pb_election.specs.Instance.{approves, voters}
use Rattle.pb_cohesion.proofs.Counted.{with_voter}
use Rattle.pb_cohesion.proofs.Firsts.{first-mapped, lists-first, lists-more, none-first, none-found}
use Rattle.pb_cohesion.proofs.Loops.{set-at}
use Rattle.pb_cohesion.proofs.explaining.first_not_approved.Goals as goal

pub first_missing-requires-clause-voter : goal.first_missing-requires-clause-voter
first_missing-requires-clause-voter c =
    set-at 1 (voters c.args.election.now) c.args.group.now c.loop-i.i-index c.requires.group c.loop-i-test.true

pub returns-in-Some : goal.returns-in-Some
returns-in-Some c =
    let found : slice_get
    (with_voter c.args.election.now c.args.demand.now (get_or c.args.group.now c.loop-i.i-index 0)) 0
    ≡ Some (get_or c.args.group.now c.loop-i.i-index 0, c.in-Some.j)
    = first-mapped (λ (j : ℕ). (get_or c.args.group.now c.loop-i.i-index 0, j)) _ c.in-Some.j
    (sym c.first_missing.ensures ∙ c.in-Some.is) in
    sym (lists-first (with_voter c.args.election.now c.args.demand.now) c.args.group.now c.loop-i.i-index _
    c.loop-i.invariant c.loop-i-test.true found)

pub loop-i-preserved : goal.loop-i-preserved
loop-i-preserved c =
    let none : slice_get
    (filter (λ (j : ℕ). not (approves c.args.election.now (get_or c.args.group.now c.loop-i.i-index 0) j))
    c.args.demand.now) 0 ≡ None = sym c.first_missing.ensures
    ∙ none-found c.first_missing.result c.in_default.not-Some in
    lists-more (with_voter c.args.election.now c.args.demand.now) c.args.group.now c.loop-i.i-index c.loop-i.invariant
    c.loop-i-test.true
    (ap (map (λ (j : ℕ). (get_or c.args.group.now c.loop-i.i-index 0, j))) (none-first _ none))
