use Rattle.std.proofs.Common.{ℕ, get_or, sym, ap, arith}
use Rattle.std.specs.Prelude.{nat_le}
use Rattle.pb_cohesion.specs.Groups.{gets, sat}
use Rattle.pb_cohesion.proofs.Ballots.{worth-is}
use Rattle.pb_cohesion.proofs.Counted.{all-seen, few-more, none-seen, seen-more}
use Rattle.pb_cohesion.proofs.Loops.{set-at, set-length}
use Rattle.pb_cohesion.proofs.explaining.satisfied_members.Goals as goal

pub ballot-requires : goal.ballot-requires
ballot-requires g c = grind (arith, set-at)

pub note-requires : goal.note-requires
note-requires g c = grind (arith, set-length)

pub loop-i-init : goal.loop-i-init
loop-i-init g c = record { seen = none-seen _ _; few = omega arith }

pub loop-i-preserved : goal.loop-i-preserved
loop-i-preserved g c =
    let worth_to =
    λ (i : ℕ). sat (g.S.Satisfaction.meaning c.args.satisfaction.now c.args.election.now)
    (gets c.args.election.now c.args.outcome.now.marks i) in
    let is = worth-is (g.S.Satisfaction.meaning c.args.satisfaction.now c.args.election.now) c.args.election.now
    c.args.outcome.now.marks (get_or c.args.group.now c.loop-i.i-index 0) c.ballot.result.now
    c.worth_of_funded-worth.result c.ballot.ensures.value c.ballot.ensures.rising
    c.worth_of_funded-worth.ensures.value in
    record {
      seen =
          seen-more (λ (i : ℕ). nat_le c.args.demanded (worth_to i)) worth_to c.args.group.now c.loop-i.i-index
          c.loop-i.satisfied c.note.new.self c.loop-i.gets c.shown_with-gets.result c.worth_of_funded-worth.result
          (nat_le c.args.demanded c.worth_of_funded-worth.result)
          c.loop-i.invariant.seen c.loop-i-test.true is (ap (nat_le c.args.demanded) (sym is)) c.note.ensures.first
          c.note.ensures.count c.shown_with-gets.ensures;
      few = few-more (nat_le c.args.demanded c.worth_of_funded-worth.result) c.loop-i.i-index c.loop-i.satisfied.count
          c.note.new.self.count c.loop-i.invariant.few c.note.ensures.count;
    }

pub returns : goal.returns
returns g c =
    let worth_to =
    λ (i : ℕ). sat (g.S.Satisfaction.meaning c.args.satisfaction.now c.args.election.now)
    (gets c.args.election.now c.args.outcome.now.marks i) in
    let whole = all-seen (λ (i : ℕ). nat_le c.args.demanded (worth_to i)) worth_to c.args.group.now c.loop-i.i-index
    c.loop-i.satisfied c.loop-i.gets c.loop-i.invariant.seen c.loop-i-test.false in
    record { members = whole.0; shown = whole.1 }
