use Rattle.std.proofs.Common.{◌∙◌}
use Rattle.pb_records.specs.Records.{election_records}
use Rattle.pb_election.proofs.Apart.{apart}
use Rattle.pb_election.proofs.FoundParts.{one-election}
use Rattle.pb_election.proofs.Reading.{finished, read-nothing}
use Rattle.pb_election.proofs.Sound.{sound}
use Rattle.pb_election.proofs.election.Election.read.Goals as goal

pub take_all-requires : goal.take_all-requires
take_all-requires c = rw c.in_ok-draft.ensures read-nothing

pub into_election-requires : goal.into_election-requires
into_election-requires c =
    let recs = election_records c.args.bytes.now in
    let text = finished c.take_all.new.draft recs c.in-Ok.ensures.taken c.in-Ok.ensures.none in
    sound recs c.take_all.new.draft.election text

pub returns-in-Ok-clause-found : goal.returns-in-Ok-clause-found
returns-in-Ok-clause-found c =
    let recs = election_records c.args.bytes.now in
    let text = finished c.take_all.new.draft recs c.in-Ok.ensures.taken c.in-Ok.ensures.none in
    rw c.into_election.ensures (text, sound recs c.take_all.new.draft.election text)

pub returns-in-Ok-clause-only : goal.returns-in-Ok-clause-only
returns-in-Ok-clause-only c =
    let recs = election_records c.args.bytes.now in
    let text = finished c.take_all.new.draft recs c.in-Ok.ensures.taken c.in-Ok.ensures.none in
    λ e p. c.into_election.ensures ∙ one-election recs c.take_all.new.draft.election e text p

pub returns-in-Err-Fault-clause-only : goal.returns-in-Err-Fault-clause-only
returns-in-Err-Fault-clause-only c = λ e p.
    let recs = election_records c.args.bytes.now in
    let first = rw c.in-Err-Fault.field-0-is at c.in-Err-Fault.ensures.stopped in
    absurd (apart recs e c.in-Err-Fault.at.record_number c.in-Err-Fault.at.fault p first)
