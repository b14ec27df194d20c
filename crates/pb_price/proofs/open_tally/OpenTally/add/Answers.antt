use Rattle.std.proofs.Common.{◌+◌, max, sym, ap, subst, ◌∙◌, arith}
use Rattle.pb_price.specs.Inside.Tallies.{AreTallied, IsAtHand}
use Rattle.pb_price.proofs.Adding.{paid-at-hand}
use Rattle.pb_price.proofs.Bounds.{spent-bound}
use Rattle.pb_price.proofs.open_tally.OpenTally.add.Goals as goal

pub add-requires : goal.add-requires
add-requires c = grind arith

pub pay-requires : goal.pay-requires
pay-requires c =
    let bound =
    spent-bound c.args.election.now c.requires.can.taken c.args.self.now.tally (c.args.self.now.tally.closed + 1)
    c.args.self.now.at_hand c.requires.can.tallied.tally c.requires.can.tallied.at_hand in
    grind arith

pub returns-clause-taken : goal.returns-clause-taken
returns-clause-taken c = λ a b h r. record {
  tally = subst (λ n. AreTallied c.args.election.now b n c.add.new.self)
      (sym (c.pay.ensures.opened ∙ c.requires.opened))
      (c.add.ensures.taken a b
      (subst (λ n. AreTallied c.args.election.now a n c.args.self.now.tally) c.requires.opened h.tally) r);
  at_hand = subst (λ n. IsAtHand c.args.election.now b n c.pay.new.self)
      (sym (ap (λ n. n + 1) c.add.ensures.closed ∙ c.requires.at_hand))
      (paid-at-hand c.args.election.now a b c.args.row c.args.self.now.at_hand c.pay.new.self
      (subst (λ n. IsAtHand c.args.election.now a n c.args.self.now.at_hand) c.requires.at_hand h.at_hand) r
      c.requires.can.project
      (c.pay.ensures.spent ∙ ap (λ n. c.args.self.now.at_hand.spent + n) c.payment_grains.ensures)
      (c.pay.ensures.largest ∙ ap (max c.args.self.now.at_hand.largest) c.payment_grains.ensures));
}
