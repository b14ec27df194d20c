use Rattle.std.proofs.Common.{◌≡◌, ℕ, ◌+◌, ◌-◌, ◌*◌, ◌%◌, ◌^◌, ◌<◌, ◌≤◌, List, ap, filter, subst, sym, ◌∙◌, get_or, arith}
use Rattle.std.specs.Prelude.{IfSome, sum_by}
use Rattle.std.proofs.lemmas.List.{get_or_default}
use Rattle.pb_election.specs.Instance.{Instance, all_projects, cost_of, projects, voters}
use Rattle.pb_election.specs.Text.{IsElection}
use Rattle.pb_price.specs.Inside.Reached.{AreReached, AreSupporters, IsSmallGroup, funded_with_bit}
use Rattle.pb_price.proofs.Nearer.{IsNearestTo, figures-are, nearer-small, nearest-is, nearest-next, nearest-past}
use Rattle.pb_price.proofs.Reached.{counts-small}
use Rattle.pb_price.proofs.nearest.nearest_group.Goals as goal
use Rattle.pb_price.proofs.nearest.nearest_group.Goals.{then-not-has, else-not-has}

-- the figures of the next project fit
fit : (e : Instance) (n k s f : ℕ) (counts : List ℕ) → IsElection e → AreSupporters n e counts → n ≤ 1000000
    → k < projects e → s ≡ get_or counts k s → f ≤ 20000 * 10 ^ 18
    → IsSmallGroup e (record { project = k + 1; supporters = s; funded_for = f })
fit e n k s f counts sound counted few within is small =
    let same : s ≡ get_or counts k 0 = is ∙ get_or_default counts k s 0 (omega (arith, counted.as_many)) in
    record {
      project = (omega arith, omega arith);
      supporters = omega (arith, counts-small e n 1000000 counts counted few k);
      funded_for = small;
    }

pub nearer-requires-clause-group : goal.nearer-requires-clause-group
nearer-requires-clause-group c =
    fit c.args.election.now (voters c.args.election.now) c.loop-k.k c.index.result.now c.cost_of_reached.result
    c.in_ok-counts.counts.items c.projects-k-end.ensures.sound c.in_ok-counts.ensures
    c.projects-k-end.ensures.sound.few_voters (omega (arith, c.loop-k-test.true, c.projects-k-end.ensures.value))
    c.index.ensures c.cost_of_reached.ensures.small

pub loop-k-preserved : goal.loop-k-preserved
loop-k-preserved c =
    let within : c.loop-k.k < projects c.args.election.now =
    omega (arith, c.loop-k-test.true, c.projects-k-end.ensures.value) in
    record {
      words = λ pos.
          let same : c.loop-k.k - c.loop-k.k % 128 ≡ c.loop-k.k + 1 - (c.loop-k.k + 1) % 128 = omega arith in
          subst (λ n. AreReached (voters c.args.election.now) c.args.election.now n c.in_ok-words.words.items) same
          c.in_ok-words.ensures;
      nearest =
          elim c.if-not-has.branch [
            | then-not-has w ↦
                (let figures = figures-are c.args.election.now c.args.outcome.now.marks c.loop-k.k w.index.result.now
                w.cost_of_reached.result c.in_ok-counts.counts.items c.in_ok-words.words.items c.in_ok-counts.ensures
                c.in_ok-words.ensures within w.index.ensures
                (w.cost_of_reached.ensures.value
                ∙ ap
                (λ xs. sum_by (cost_of c.args.election.now)
                (filter (funded_with_bit c.args.outcome.now.marks xs (c.loop-k.k % 128))
                (all_projects c.args.election.now))) w.deref.ensures.value) in
                subst (IsNearestTo (c.loop-k.k + 1) c.args.election.now c.args.outcome.now.marks) (sym w.nearest-is)
                (nearest-next c.loop-k.k c.args.election.now c.args.outcome.now.marks c.loop-k.nearest _
                w.nearer.result c.loop-k.invariant.nearest (sym c.has.ensures ∙ w.if-not-has.true) figures
                w.nearer.ensures))
            | else-not-has w ↦
                subst (IsNearestTo (c.loop-k.k + 1) c.args.election.now c.args.outcome.now.marks) (sym w.nearest-is)
                (nearest-past c.loop-k.k c.args.election.now c.args.outcome.now.marks c.loop-k.nearest
                c.loop-k.invariant.nearest (sym c.has.ensures ∙ w.if-not-has.false))
          ];
      small =
          elim c.if-not-has.branch [
            | then-not-has w ↦
                subst (λ o. IfSome o (IsSmallGroup c.args.election.now)) (sym w.nearest-is)
                (subst (IsSmallGroup c.args.election.now) (sym w.nearer.ensures)
                (nearer-small c.args.election.now c.loop-k.nearest _ c.loop-k.invariant.small
                (fit c.args.election.now (voters c.args.election.now) c.loop-k.k w.index.result.now
                w.cost_of_reached.result c.in_ok-counts.counts.items c.projects-k-end.ensures.sound
                c.in_ok-counts.ensures c.projects-k-end.ensures.sound.few_voters within w.index.ensures
                w.cost_of_reached.ensures.small)))
            | else-not-has w ↦
                subst (λ o. IfSome o (IsSmallGroup c.args.election.now)) (sym w.nearest-is) c.loop-k.invariant.small
          ];
    }

pub returns-clause-found : goal.returns-clause-found
returns-clause-found c =
    let all : c.loop-k.k ≡ projects c.args.election.now = omega arith in
    nearest-is c.args.election.now c.args.outcome.now.marks c.loop-k.nearest
    (subst (λ n. IsNearestTo n c.args.election.now c.args.outcome.now.marks c.loop-k.nearest) all
    c.loop-k.invariant.nearest)
