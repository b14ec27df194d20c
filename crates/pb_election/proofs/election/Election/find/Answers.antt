use Rattle.std.proofs.Common.{◌≡◌, sym, Some}
use Rattle.pb_election.specs.Instance.{position_of}
use Rattle.pb_election.proofs.Elections.{found_is}
use Rattle.pb_election.proofs.election.Election.find.Goals as goal

pub returns-clause-project : goal.returns-clause-project
returns-clause-project c =
    let found : position_of c.args.self.now c.args.id.now ≡ Some c.in_ok-place.place =
    rw (← c.self.view_is) (sym c.in_ok-place.ensures.value) in
    found_is c.args.self.now c.args.id.now c.in_ok-place.place found
