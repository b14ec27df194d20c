use Rattle.std.proofs.Common.{◌∙◌, ap, sym}
use Rattle.std.specs.Option.{option_copied}
use Rattle.pb_money.specs.Digits.{is_empty}
use Rattle.pb_money.proofs.Numbers.{is-empty}
use Rattle.pb_election.specs.Inside.Ids.{position_in}
use Rattle.pb_election.proofs.VoteLemmas.{lookup-fails, lookup-goes-on, lookup-skips}
use Rattle.pb_election.proofs.votes.find_positions.Goals as goal

pub returns-in_default-position-clause-known : goal.returns-in_default-position-clause-known
returns-in_default-position-clause-known c =
    let kept = c.args.ids.now in
    let full = ap is_empty (sym c.clean-name.ensures) ∙ is-empty c.clean-name.result.now ∙ sym c.is_empty.ensures
    ∙ c.if-not-is_empty.true in
    let before = rw c.in-Some.is at c.loop-left.invariant in
    sym
    (lookup-fails kept c.args.vote.now c.in-Some.text.now c.cut_first.result.0.now c.loop-left.found.items
    (option_copied c.cut_first.result.1) c.cut_first.ensures.piece c.cut_first.ensures.rest before full
    (ap (position_in kept) (sym c.clean-name.ensures) ∙ sym c.in_default-position.ensures.value))

pub loop-left-preserved-in-Continue-1 : goal.loop-left-preserved-in-Continue-1
loop-left-preserved-in-Continue-1 c =
    let kept = c.args.ids.now in
    let full = ap is_empty (sym c.clean-name.ensures) ∙ is-empty c.clean-name.result.now ∙ sym c.is_empty.ensures
    ∙ c.if-not-is_empty.true in
    let before = rw c.in-Some.is at c.loop-left.invariant in
    rw c.in_ok-push.ensures.items
    (lookup-goes-on kept c.args.vote.now c.in-Some.text.now c.cut_first.result.0.now c.loop-left.found.items
    (option_copied c.cut_first.result.1) c.cut_first.ensures.piece c.cut_first.ensures.rest before
    c.in-Some-position.position full
    (ap (position_in kept) (sym c.clean-name.ensures) ∙ sym c.in-Some-position.ensures.value))

pub loop-left-preserved : goal.loop-left-preserved
loop-left-preserved c =
    let kept = c.args.ids.now in
    let none = ap is_empty (sym c.clean-name.ensures) ∙ is-empty c.clean-name.result.now ∙ sym c.is_empty.ensures
    ∙ c.if-not-is_empty.false in
    let before = rw c.in-Some.is at c.loop-left.invariant in
    lookup-skips kept c.args.vote.now c.in-Some.text.now c.cut_first.result.0.now c.loop-left.found.items
    (option_copied c.cut_first.result.1) c.cut_first.ensures.piece c.cut_first.ensures.rest before none
