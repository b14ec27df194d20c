use Rattle.std.proofs.Common.{◌∙◌, ap}
use Rattle.std.specs.Prelude.{◌==◌}
use Rattle.std.specs.List.{list_any}
use Rattle.pb_election.specs.Instance.{projects}
use Rattle.pb_election.proofs.Sets.{is_ok-searched}
use Rattle.pb_election.proofs.election.Election.approves.Goals as goal

pub returns : goal.returns
returns c =
    c.is_ok.ensures.value
    ∙ is_ok-searched 1 (projects c.args.self.now) c.ballot.result.now c.ballot.ensures.rising c.args.j
    c.binary_search.result c.binary_search.ensures.position
    ∙ ap (list_any (λ k. k == c.args.j)) c.ballot.ensures.value
