use Rattle.std.proofs.Common.{◌≡◌, ◌+◌, get_or, length, ap, subst, sym, arith}
use Rattle.std.proofs.lemmas.List.{with_items_is}
use Rattle.pb_price.specs.Inside.Reached.{AreSupporters}
use Rattle.pb_price.proofs.Reached.{counted-as, counted-next, counts-small}
use Rattle.pb_price.proofs.nearest.supporter_counts.Goals as goal

pub count_ballot-requires-clause-few : goal.count_ballot-requires-clause-few
count_ballot-requires-clause-few c k =
    let is : get_or c.deref_mut.result.now k 0 ≡ get_or c.loop-k.counts.items k 0 =
    ap (λ xs. get_or xs k 0) c.deref_mut.ensures.value in
    omega (
      arith,
      counts-small c.args.election.now c.loop-k.k c.voters-k-end.result c.loop-k.counts.items c.loop-k.invariant
          c.loop-k.auto.k-end k,
      c.voters-k-end.ensures.sound.few_voters,
    )

pub loop-k-preserved : goal.loop-k-preserved
loop-k-preserved c =
    let long : length c.count_ballot.new.counts ≡ c.loop-k.counts.len =
    omega (arith, c.count_ballot.ensures.as_many, c.deref_mut.ensures.len) in
    subst (AreSupporters (c.loop-k.k + 1) c.args.election.now)
    (sym (with_items_is c.loop-k.counts c.count_ballot.new.counts long))
    (counted-next c.args.election.now c.loop-k.k c.loop-k.counts.items c.count_ballot.new.counts c.loop-k.invariant
    (counted-as _ _ _ _ _ c.deref_mut.ensures.value c.ballot.ensures.value c.count_ballot.ensures))
