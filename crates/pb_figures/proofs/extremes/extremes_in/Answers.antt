use Rattle.std.proofs.Common.{ap, subst, ◌∙◌}
use Rattle.pb_election.specs.Instance.{Instance, IsProject, IsVoter}
use Rattle.pb_price.proofs.Rows.{falls}
use Rattle.pb_figures.proofs.extremes.extremes_in.Goals as goal

pub loop-behind-preserved : goal.loop-behind-preserved
loop-behind-preserved c =
    let given_row = rw c.in-Some.is at c.in_ok-behind.ensures.row in
    ap (λ x. x.election) given_row.same ∙ c.loop-behind.invariant

pub loop-behind-smaller : goal.loop-behind-smaller
loop-behind-smaller c =
    let given_row = rw c.in-Some.is at c.in_ok-behind.ensures.row in
    falls c.loop-behind.left c.in_ok-behind.behind given_row.record_of given_row.next
    (ap (λ x. x.records) given_row.same)

pub take-requires-clause-voter : goal.take-requires-clause-voter
take-requires-clause-voter c =
    let given_row = rw c.in-Some.is at c.in_ok-behind.ensures.row in
    subst (λ (e : Instance). IsVoter e c.in-Some.row.voter) c.loop-behind.invariant given_row.voter

pub take-requires-clause-project : goal.take-requires-clause-project
take-requires-clause-project c =
    let given_row = rw c.in-Some.is at c.in_ok-behind.ensures.row in
    subst (λ (e : Instance). IsProject e c.in-Some.row.project) c.loop-behind.invariant given_row.project
