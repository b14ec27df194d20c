use Rattle.std.proofs.Common.{◌+◌, refl, sym, subst}
use Rattle.pb_price.specs.Inside.Tallies.{IsAtHand}
use Rattle.pb_price.specs.declared.at_hand.AtHand.{AtHand}
use Rattle.pb_price.proofs.Closing.{next-unpaid}
use Rattle.pb_price.proofs.Starting.{none-at-hand}
use Rattle.pb_price.proofs.open_tally.OpenTally.close.Goals as goal

pub close-requires : goal.close-requires
close-requires c = record {
  tallied = (
    c.requires.tallied.0,
    c.requires.tallied.1.tally,
    c.requires.tallied.1.at_hand,
    c.requires.tallied.2,
  );
  more = c.requires.more;
}

pub returns-clause-taken : goal.returns-clause-taken
returns-clause-taken c = λ a h. (
    let next : AtHand = record { opened = c.args.self.now.at_hand.opened; spent = 0; largest = 0 } in
    record {
      tally = c.close.ensures.taken a h.tally h.at_hand;
      at_hand = subst (λ n. IsAtHand c.args.election.now a (n + 1) next) (sym c.close.ensures.closed)
          (none-at-hand c.args.election.now a (c.args.self.now.tally.closed + 1 + 1) next
          (next-unpaid c.args.election.now a c.args.self.now.tally h.tally) refl refl);
    }
    )
