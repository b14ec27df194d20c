use Rattle.std.proofs.Common.{ℕ, filter, sym, ◌∙◌, ap, arith}
use Rattle.std.specs.Prelude.{◌&&◌, nat_le}
use Rattle.std.specs.List.{range_with_len}
use Rattle.pb_election.specs.Instance.{approves}
use Rattle.pb_cohesion.specs.Closest.{up_to}
use Rattle.pb_cohesion.specs.Short.{got}
use Rattle.pb_cohesion.proofs.Loops.{filter-failing, filter-passing}
use Rattle.pb_cohesion.proofs.Members.{shown-members}
use Rattle.pb_cohesion.proofs.Supported.{up_to-is}
use Rattle.pb_cohesion.proofs.short.members.members_up_to.Goals as goal
use Rattle.pb_cohesion.proofs.short.members.members_up_to.Goals.{then-approves+then-got_by-most+in_ok-push, else-approves, else-approves-via-then-approves+else-got_by-most, else-approves-via-else-approves}

pub loop-k-preserved : goal.loop-k-preserved
loop-k-preserved c =
    grind (
      arith,
      then-approves+then-got_by-most+in_ok-push,
      else-approves,
      else-approves-via-then-approves+else-got_by-most,
      else-approves-via-else-approves,
      filter-failing,
      filter-passing,
    )

pub returns-clause-members : goal.returns-clause-members
returns-clause-members c =
    let q =
    λ (i : ℕ). approves c.args.election.now i c.args.project
    && nat_le (got c.args.measure c.args.election.now c.args.outcome.now.marks i) c.args.most in
    c.loop-k.invariant
    ∙ ap (λ n. filter q (range_with_len 1 n)) (omega (arith, c.loop-k-test.false, c.loop-k.auto, c.voters-k-end.ensures.value))
    ∙ sym (up_to-is c.args.measure c.args.election.now c.args.outcome.now.marks c.args.project c.args.most)

pub returns-clause-shown : goal.returns-clause-shown
returns-clause-shown c s shown is =
    returns-clause-members c ∙ ap (up_to c.args.measure c.args.election.now c.args.outcome.now.marks c.args.project) is
    ∙ shown-members c.args.measure c.args.election.now c.args.outcome.now.marks s c.args.project shown
