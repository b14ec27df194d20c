use Rattle.std.proofs.Common.{◌≡◌, ◌+◌, ◌-◌, ℕ, List, false, true, get_or, not, set, sym, ◌∙◌, ap, subst, take, arith}
use Rattle.std.specs.Prelude.{◌&&◌}
use Rattle.std.proofs.lemmas.Bool.{cases_Bool}
use Rattle.pb_election.specs.Instance.{IsSet, projects}
use Rattle.pb_election.specs.Outcome.{has}
use Rattle.pb_cohesion.specs.Inside.Counting.{AreChanged, with_supporter}
use Rattle.pb_cohesion.specs.declared.GroupFigures.{GroupFigures}
use Rattle.pb_cohesion.proofs.Loops.{set-at}
use Rattle.pb_cohesion.proofs.Marked.{changed-next, coming, kept-next, nothing}
use Rattle.pb_cohesion.proofs.Sums.{among}
use Rattle.pb_cohesion.proofs.short.figures.count_voter.Goals as goal
use Rattle.pb_cohesion.proofs.short.figures.count_voter.Goals.{then-not-has, else-not-has}

pub has-requires-clause-low : goal.has-requires-clause-low
has-requires-clause-low c =
    (set-at 1 (projects c.args.election.now) c.ballot-c-items.result.now c.loop-c.c-index
    c.ballot-c-items.ensures.rising c.loop-c-test.true).0

pub has-requires-clause-high : goal.has-requires-clause-high
has-requires-clause-high c =
    let bounds = set-at 1 (projects c.args.election.now) c.ballot-c-items.result.now c.loop-c.c-index
    c.ballot-c-items.ensures.rising c.loop-c-test.true in
    omega (arith, bounds.1, c.requires.outcome)

pub overflow_sub-place : goal.overflow_sub-place
overflow_sub-place c =
    (set-at 1 (projects c.args.election.now) c.ballot-c-items.result.now c.loop-c.c-index
    c.ballot-c-items.ensures.rising c.loop-c-test.true).0

pub slice_copy_out-with_supporter : goal.slice_copy_out-with_supporter
slice_copy_out-with_supporter c =
    let bounds = set-at 1 (projects c.args.election.now) c.ballot-c-items.result.now c.loop-c.c-index
    c.ballot-c-items.ensures.rising c.loop-c-test.true in
    omega (arith, bounds.0, bounds.1, c.requires.as_many, c.loop-c.invariant.as_many)

pub bounds-figures-place : goal.bounds-figures-place
bounds-figures-place c =
    let bounds = set-at 1 (projects c.args.election.now) c.ballot-c-items.result.now c.loop-c.c-index
    c.ballot-c-items.ensures.rising c.loop-c-test.true in
    omega (arith, bounds.0, bounds.1, c.requires.as_many, c.loop-c.invariant.as_many)

pub with_supporter-requires-clause-project : goal.with_supporter-requires-clause-project
with_supporter-requires-clause-project c =
    let bounds = set-at 1 (projects c.args.election.now) c.ballot-c-items.result.now c.loop-c.c-index
    c.ballot-c-items.ensures.rising c.loop-c-test.true in
    let can = coming c.args.election.now c.args.outcome.now.marks
    (with_supporter c.args.measure c.args.election.now c.args.got) c.args.figures.now c.loop-c.figures
    c.ballot-c-items.result.now c.loop-c.c-index c.requires.as_many c.ballot-c-items.ensures.rising c.loop-c-test.true
    c.loop-c.invariant c.requires.can in
    (omega (arith, can.project), omega (arith, can.project, bounds.0, bounds.1))

pub with_supporter-requires-clause-few : goal.with_supporter-requires-clause-few
with_supporter-requires-clause-few c =
    (coming c.args.election.now c.args.outcome.now.marks
    (with_supporter c.args.measure c.args.election.now c.args.got) c.args.figures.now c.loop-c.figures
    c.ballot-c-items.result.now c.loop-c.c-index c.requires.as_many c.ballot-c-items.ensures.rising c.loop-c-test.true
    c.loop-c.invariant c.requires.can).few

pub with_supporter-requires-clause-few_voters : goal.with_supporter-requires-clause-few_voters
with_supporter-requires-clause-few_voters c =
    (coming c.args.election.now c.args.outcome.now.marks
    (with_supporter c.args.measure c.args.election.now c.args.got) c.args.figures.now c.loop-c.figures
    c.ballot-c-items.result.now c.loop-c.c-index c.requires.as_many c.ballot-c-items.ensures.rising c.loop-c-test.true
    c.loop-c.invariant c.requires.can).few_voters

pub with_supporter-requires-clause-small : goal.with_supporter-requires-clause-small
with_supporter-requires-clause-small c =
    (coming c.args.election.now c.args.outcome.now.marks
    (with_supporter c.args.measure c.args.election.now c.args.got) c.args.figures.now c.loop-c.figures
    c.ballot-c-items.result.now c.loop-c.c-index c.requires.as_many c.ballot-c-items.ensures.rising c.loop-c-test.true
    c.loop-c.invariant c.requires.can).small

pub with_supporter-requires-clause-small_need : goal.with_supporter-requires-clause-small_need
with_supporter-requires-clause-small_need c =
    c.requires.small (get_or c.loop-c.figures (get_or c.ballot-c-items.result.now c.loop-c.c-index 0 - 1) nothing).project
    (with_supporter-requires-clause-project c)

pub loop-c-preserved : goal.loop-c-preserved
loop-c-preserved c =
    let marks = c.args.outcome.now.marks in
    let ballot = c.ballot-c-items.result.now in
    let change = with_supporter c.args.measure c.args.election.now c.args.got in
    let rising = subst (λ n. IsSet 1 n c.ballot-c-items.result.now) (sym c.requires.as_many) c.ballot-c-items.ensures.rising in
    elim c.if-not-has.branch [
      | then-not-has w ↦
          let free : has c.args.outcome.now.marks (get_or c.ballot-c-items.result.now c.loop-c.c-index 0) ≡ false =
          grind (arith, cases_Bool, w.if-not-has.true, c.has.ensures) in
          subst (λ (ys : List GroupFigures). AreChanged (λ (j : ℕ). among (take (c.loop-c.c-index + 1)
          c.ballot-c-items.result.now) j && not (has c.args.outcome.now.marks j)) (with_supporter c.args.measure
          c.args.election.now c.args.got) c.args.figures.now ys)
          (sym (w.figures-is
          ∙ ap (set c.loop-c.figures (get_or c.ballot-c-items.result.now c.loop-c.c-index 0 - 1)) w.with_supporter.ensures))
          (changed-next marks change c.args.figures.now c.loop-c.figures ballot c.loop-c.c-index rising c.loop-c-test.true
          c.loop-c.invariant free)
      | else-not-has w ↦
          let funded : has c.args.outcome.now.marks (get_or c.ballot-c-items.result.now c.loop-c.c-index 0) ≡ true =
          grind (arith, cases_Bool, w.if-not-has.false, c.has.ensures) in
          subst (λ (ys : List GroupFigures). AreChanged (λ (j : ℕ). among (take (c.loop-c.c-index + 1)
          c.ballot-c-items.result.now) j && not (has c.args.outcome.now.marks j)) (with_supporter c.args.measure
          c.args.election.now c.args.got) c.args.figures.now ys) (sym w.figures-is)
          (kept-next marks change c.args.figures.now c.loop-c.figures ballot c.loop-c.c-index c.loop-c-test.true
          c.loop-c.invariant funded)
    ]
