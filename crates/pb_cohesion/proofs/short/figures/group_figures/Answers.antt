use Rattle.std.proofs.Common.{ℕ, ◌+◌, ◌≡◌, ◌≤◌, List, filter, get_or, length, rules, subst, sym, ◌∙◌, take}
use Rattle.std.specs.Prelude.{All, nat_lt}
use Rattle.std.proofs.lemmas.Fn.{filter_same}
use Rattle.std.proofs.lemmas.List.{take_all, take_more, with_items_is}
use Rattle.pb_election.specs.Instance.{IsVoter}
use Rattle.pb_cohesion.specs.Closest.{AreAllFigures}
use Rattle.pb_cohesion.specs.Inside.Counting.{AllStand, AreChanged, CanTake, NeedsAreSmall, counts_for, with_supporter}
use Rattle.pb_cohesion.specs.Short.{got}
use Rattle.pb_cohesion.specs.Shown.{AreSmall}
use Rattle.pb_cohesion.specs.declared.GroupFigures.{GroupFigures}
use Rattle.pb_cohesion.proofs.Marked.{all-stand-more}
use Rattle.pb_cohesion.proofs.Whole.{all-figures, can-take, order-all, small-needs, take-few}
use Rattle.pb_cohesion.proofs.short.figures.group_figures.Goals as goal

pub count_voter-requires-clause-voter : goal.count_voter-requires-clause-voter
count_voter-requires-clause-voter c =
    let all = order-all c.args.measure c.args.election.now c.args.outcome.now.marks c.in_ok-order.order.items
    c.in_ok-order.ensures.order in
    (subst (λ (xs : List (ℕ × ℕ)). All (λ (one : ℕ × ℕ). IsVoter c.args.election.now one.1
    × (one.0 ≡ got c.args.measure c.args.election.now c.args.outcome.now.marks one.1)) xs)
    (sym c.deref-one-items.ensures.value) all c.loop-one.one-index (0, 0) c.loop-one-test.true).0

pub count_voter-requires-clause-can : goal.count_voter-requires-clause-can
count_voter-requires-clause-can c k d within =
    let few : length (take c.loop-one.one-index c.deref-one-items.result.now) ≤ 1000000 =
    take-few c.loop-one.one-index c.deref-one-items.result.now c.in_ok-order.order.items c.deref-one-items.ensures.value
    c.in_ok-order.ensures.few in
    subst (λ (xs : List GroupFigures). CanTake k (get_or xs k d)) (sym c.deref_mut.ensures.value)
    (can-take c.args.measure c.args.election.now c.args.outcome.now.marks
    (take c.loop-one.one-index c.deref-one-items.result.now) c.loop-one.figures.items c.loop-one.invariant few k d within)

pub loop-one-preserved : goal.loop-one-preserved
loop-one-preserved c =
    let e = c.args.election.now in
    let w = c.args.outcome.now.marks in
    let before = take c.loop-one.one-index c.deref-one-items.result.now in
    let one = get_or c.deref-one-items.result.now c.loop-one.one-index (0, 0) in
    let small = subst (λ (xs : List (ℕ × ℕ)). NeedsAreSmall c.args.measure c.args.election.now xs)
    (sym c.deref-one-items.ensures.value) c.in_ok-order.ensures.small c.loop-one.one-index (0, 0) c.loop-one-test.true in
    let changed = subst (λ (xs : List GroupFigures). AreChanged (counts_for c.args.election.now
    c.args.outcome.now.marks (get_or c.deref-one-items.result.now c.loop-one.one-index (0, 0)).1)
    (with_supporter c.args.measure c.args.election.now
    (get_or c.deref-one-items.result.now c.loop-one.one-index (0, 0)).0) xs c.count_voter.new.figures)
    c.deref_mut.ensures.value c.count_voter.ensures in
    let stand = all-stand-more c.args.measure e w before one c.loop-one.figures.items c.count_voter.new.figures
    c.loop-one.invariant changed small in
    let items = with_items_is c.loop-one.figures c.count_voter.new.figures
    (c.count_voter.ensures.as_many ∙ c.deref_mut.ensures.len) in
    subst (λ (xs : List GroupFigures). AllStand c.args.measure c.args.election.now c.args.outcome.now.marks
    (take (c.loop-one.one-index + 1) c.deref-one-items.result.now) xs) (sym items)
    (subst (λ (xs : List (ℕ × ℕ)). AllStand c.args.measure c.args.election.now c.args.outcome.now.marks xs
    c.count_voter.new.figures)
    (sym (take_more c.deref-one-items.result.now c.loop-one.one-index (0, 0) c.loop-one-test.true)) stand)

pub returns-clause-figures : goal.returns-clause-figures
returns-clause-figures c =
    let kept : c.retain.new.self.items ≡ filter (λ (x : GroupFigures). nat_lt 0 x.supporters) c.loop-one.figures.items =
    filter_same _ (λ (x : GroupFigures). nat_lt 0 x.supporters) _ (λ x b f' k. search rules) _ _ c.retain.ensures.filtered in
    let whole = subst (λ (xs : List (ℕ × ℕ)). AllStand c.args.measure c.args.election.now c.args.outcome.now.marks xs
    c.loop-one.figures.items)
    (take_all c.loop-one.one-index c.deref-one-items.result.now c.loop-one-test.false ∙ c.deref-one-items.ensures.value)
    c.loop-one.invariant in
    subst (λ (xs : List GroupFigures). AreAllFigures c.args.measure c.args.election.now c.args.outcome.now.marks xs)
    (sym kept)
    (all-figures c.args.measure c.args.election.now c.args.outcome.now.marks c.in_ok-order.order.items
    c.loop-one.figures.items c.in_ok-order.ensures.order whole)

pub returns-clause-small : goal.returns-clause-small
returns-clause-small c =
    let kept : c.retain.new.self.items ≡ filter (λ (x : GroupFigures). nat_lt 0 x.supporters) c.loop-one.figures.items =
    filter_same _ (λ (x : GroupFigures). nat_lt 0 x.supporters) _ (λ x b f' k. search rules) _ _ c.retain.ensures.filtered in
    subst (λ (xs : List GroupFigures). All AreSmall xs) (sym kept)
    (small-needs c.args.measure c.args.election.now c.args.outcome.now.marks
    (take c.loop-one.one-index c.deref-one-items.result.now) c.loop-one.figures.items c.loop-one.invariant
    (take-few c.loop-one.one-index c.deref-one-items.result.now c.in_ok-order.order.items c.deref-one-items.ensures.value
    c.in_ok-order.ensures.few))
