use Rattle.std.proofs.Common.{nat_lt, ◌≡◌, ◌+◌, ◌^◌, get_or, length, refl, sym, ap, subst, ◌∙◌, arith}
use Rattle.std.proofs.lemmas.Int.{ints}
use Rattle.std.proofs.lemmas.List.{with_items_is}
use Rattle.pb_election.specs.Instance.{IsSet, projects}
use Rattle.pb_price.specs.Inside.Tallies.{AreSmall, IsWithin}
use Rattle.pb_price.specs.Inside.Noted.{noted}
use Rattle.pb_price.specs.Inside.Looked.{compared}
use Rattle.pb_price.proofs.Bounds.{ballot-bound, changed-as, largest-bound, left-bound, most-bound, over-few, over-small, spent-bound, steps-bound, sums-bound}
use Rattle.pb_price.proofs.Closing.{closed, left-kept, most-kept}
use Rattle.pb_price.proofs.tally.Tally.close.Goals as goal

pub left_of-left-requires-clause-spent : goal.left_of-left-requires-clause-spent
left_of-left-requires-clause-spent c =
    omega (arith, spent-bound _ _ _ _ _ c.requires.tallied.1 c.requires.tallied.2)

pub offer_of-offer-requires : goal.offer_of-offer-requires
offer_of-offer-requires c = omega (arith, largest-bound _ _ _ _ _ c.requires.tallied.1 c.requires.tallied.2)

pub give-requires : goal.give-requires
give-requires c =
    let long : length c.deref_mut.result.now ≡ projects c.args.election.now =
    ap length c.deref_mut.ensures.value ∙ c.requires.tallied.1.sums.as_many in
    record {
      ballot = subst (λ n. IsSet 1 n c.ballot-ballot.result.now) (sym long) c.ballot-ballot.ensures.rising;
      left =
          subst (IsWithin (10 ^ 32))
          (sym
          (left-kept c.args.election.now c.requires.tallied.0 c.args.self.now c.args.at_hand c.left_of-left.result
          c.requires.tallied.1 c.requires.tallied.2 c.left_of-left.ensures))
          (left-bound c.args.election.now c.requires.tallied.0 c.args.self.now (c.args.self.now.closed + 1)
          c.requires.tallied.1);
      offer =
          subst (IsWithin (10 ^ 32))
          (sym
          (most-kept c.args.election.now c.requires.tallied.0 c.args.self.now c.args.at_hand c.left_of-left.result
          c.offer_of-offer.result c.requires.tallied.1 c.requires.tallied.2 c.left_of-left.ensures
          c.offer_of-offer.ensures))
          (most-bound c.args.election.now c.requires.tallied.0 c.args.self.now (c.args.self.now.closed + 1)
          c.requires.tallied.1);
      fits = λ k d w. subst (λ xs. AreSmall (get_or xs k d)) (sym c.deref_mut.ensures.value)
          (sums-bound c.args.election.now c.requires.tallied.0 c.args.self.now k d c.requires.tallied.1 c.requires.more
          (omega arith));
    }

pub overflow_cast-compared : goal.overflow_cast-compared
overflow_cast-compared c = omega (arith, spent-bound _ _ _ _ _ c.requires.tallied.1 c.requires.tallied.2)

pub note-requires : goal.note-requires
note-requires c =
    let spent =
    spent-bound c.args.election.now c.requires.tallied.0 c.args.self.now (c.args.self.now.closed + 1) c.args.at_hand
    c.requires.tallied.1 c.requires.tallied.2 in
    let few = over-few c.args.election.now c.requires.tallied.0 c.args.self.now c.requires.tallied.1 in
    let small = over-small c.args.election.now c.requires.tallied.0 c.args.self.now c.requires.tallied.1 in
    grind arith

pub overflow_add-self : goal.overflow_add-self
overflow_add-self c = grind arith

pub overflow_add-self-2 : goal.overflow_add-self-2
overflow_add-self-2 c =
    let bound =
    steps-bound c.args.election.now c.requires.tallied.0 c.args.self.now c.requires.tallied.1 c.requires.tallied.3 in
    grind (arith, ballot-bound)

pub returns-clause-taken : goal.returns-clause-taken
returns-clause-taken c = λ a h w. (
    let items_are =
    with_items_is c.args.self.now.projects c.give.new.projects (c.give.ensures.as_many ∙ c.deref_mut.ensures.len) in
    closed c.args.election.now a c.args.self.now _ c.args.at_hand _ _ h w c.requires.more
    (left-kept c.args.election.now a c.args.self.now c.args.at_hand c.left_of-left.result h w c.left_of-left.ensures)
    (most-kept c.args.election.now a c.args.self.now c.args.at_hand c.left_of-left.result c.offer_of-offer.result h w
    c.left_of-left.ensures c.offer_of-offer.ensures)
    (changed-as _ _ _ _ _ _ _ c.deref_mut.ensures.value (sym items_are) c.ballot-ballot.ensures.value c.give.ensures)
    refl refl refl
    (c.note.ensures
    ∙ ap
    (λ z. noted (nat_lt c.args.self.now.budget c.args.at_hand.spent)
    (compared (c.args.self.now.closed + 1) c.args.self.now.budget z) c.args.self.now.over_budget)
    (omega (arith, ints, spent-bound c.args.election.now a c.args.self.now _ c.args.at_hand h w)))
    (ap (λ xs. c.args.self.now.steps + (length xs + 1)) c.ballot-ballot.ensures.value)
    )
