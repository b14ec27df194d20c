use Rattle.pb_election.specs.Faults.{election_form}
use Rattle.pb_election.proofs.Apart as apart_lemmas
use Rattle.pb_records.proofs.First.{one-first}
use Rattle.pb_election.proofs.FoundParts.{one-election}
use Rattle.pb_election.proofs.Reading as reading
use Rattle.pb_election.proofs.Sound as soundness
use Rattle.pb_election.proofs.laws.one_answer.Goals as goal

pub returns : goal.returns
returns c =
    record {
      answered = reading.answered;
      apart = apart_lemmas.apart;
      alone = one-election;
      first = one-first election_form;
      sound = soundness.sound;
    }
