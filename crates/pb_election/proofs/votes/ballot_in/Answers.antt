use Rattle.std.proofs.Common.{◌≡◌, nat_eq, Some}
use Rattle.std.specs.Prelude.{map}
use Rattle.std.proofs.lemmas.List.Filters.{dedup_is}
use Rattle.pb_election.specs.Inside.Ids.{position_in}
use Rattle.pb_election.specs.Rows.{names_in}
use Rattle.pb_election.proofs.Rising.{ballot-is}
use Rattle.pb_election.proofs.votes.ballot_in.Goals as goal

pub returns-clause-ballot : goal.returns-clause-ballot
returns-clause-ballot c =
    let kept = c.args.ids.now in
    let names = names_in c.args.vote.now in
    let places : map Some c.find_positions.new.found.items ≡ map (position_in kept) names =
    c.in_ok-find_positions.ensures.found c.if-not-branch.false in
    let once = dedup_is nat_eq c.sort_unstable.new.self.items c.dedup.new.self.items c.dedup.ensures.filtered in
    λ _.
    ballot-is kept names c.find_positions.new.found.items c.sort_unstable.new.self.items c.dedup.new.self.items
    c.len.ensures.distinct places
    c.sort_unstable.ensures.permutation c.sort_unstable.ensures.sorted once
