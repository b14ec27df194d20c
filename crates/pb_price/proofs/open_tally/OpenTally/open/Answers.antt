use Rattle.std.proofs.Common.{◌+◌, sym, subst, arith}
use Rattle.pb_price.specs.Inside.Tallies.{AreTallied, IsAtHand}
use Rattle.pb_price.specs.declared.at_hand.AtHand.{AtHand}
use Rattle.pb_price.proofs.open_tally.OpenTally.open.Goals as goal

pub open-requires : goal.open-requires
open-requires c = grind arith

pub returns-clause-taken : goal.returns-clause-taken
returns-clause-taken c = λ a h. (
    let opened : AtHand = record {
      opened = c.open.new.self.closed + 1;
      spent = c.args.self.now.at_hand.spent;
      largest = c.args.self.now.at_hand.largest;
    } in
    record {
      tally = subst (λ n. AreTallied c.args.election.now a (n + 1) c.open.new.self) (sym c.open.ensures.closed)
          (c.open.ensures.taken a c.args.self.now.at_hand.opened h.tally (grind arith));
      at_hand = subst (λ n. IsAtHand c.args.election.now a (n + 1) opened) (sym c.open.ensures.closed)
          (record { spent = h.at_hand.spent; largest = h.at_hand.largest });
    }
    )
