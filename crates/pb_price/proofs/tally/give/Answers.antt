use mir.Syntax.{w128}
use mir.Val.{of_z, to_z}
use Rattle.std.proofs.Common.{◌≡◌, ◌+◌, ◌-◌, get_or, length, set, subst, take, arith}
use Rattle.std.specs.Prelude.{ℤ, ◌+ℤ◌}
use Rattle.pb_price.specs.Inside.Tallies.{AreChanged, with_supporter}
use Rattle.pb_price.specs.declared.tally.ProjectSums.{ProjectSums}
use Rattle.pb_price.proofs.Ballots.{change-next, high, low, nothing, small-yet}
use Rattle.pb_price.proofs.Signed.{kept-sum, kept-sum-fits}
use Rattle.pb_price.proofs.tally.give.Goals as goal

pub overflow_sub-sums : goal.overflow_sub-sums
overflow_sub-sums c =
    low (length c.args.projects.now) c.args.ballot.now c.loop-j.j-index c.requires.ballot c.loop-j-test.true

pub bounds-projects-j : goal.bounds-projects-j
bounds-projects-j c =
    let from = low (length c.args.projects.now) c.args.ballot.now c.loop-j.j-index c.requires.ballot
    c.loop-j-test.true in
    let to = high (length c.args.projects.now) c.args.ballot.now c.loop-j.j-index c.requires.ballot
    c.loop-j-test.true in
    omega (arith, from, to)

-- the sums with one more supporter, as they are kept
with-kept : (s : ProjectSums) (l o kept_left kept_offer : ℤ) → kept_left ≡ s.left +ℤ l → kept_offer ≡ s.offer +ℤ o
    → with_supporter l o s ≡ record s { left = kept_left; offer = kept_offer; supporters = s.supporters + 1 }
with-kept s l o kept_left kept_offer h k = grind arith

pub overflow_add-sums : goal.overflow_add-sums
overflow_add-sums c =
    let small = small-yet _ c.args.projects.now c.loop-j.projects c.args.ballot.now c.loop-j.j-index nothing
    c.requires.ballot c.loop-j-test.true c.loop-j.invariant c.requires.fits in
    kept-sum-fits _ c.args.left small.left c.requires.left

pub overflow_add-sums-in-loop-j : goal.overflow_add-sums-in-loop-j
overflow_add-sums-in-loop-j c =
    let small = small-yet _ c.args.projects.now c.loop-j.projects c.args.ballot.now c.loop-j.j-index nothing
    c.requires.ballot c.loop-j-test.true c.loop-j.invariant c.requires.fits in
    kept-sum-fits _ c.args.offer small.offer c.requires.offer

pub overflow_add-sums-in-loop-j-2 : goal.overflow_add-sums-in-loop-j-2
overflow_add-sums-in-loop-j-2 c =
    let small = small-yet _ c.args.projects.now c.loop-j.projects c.args.ballot.now c.loop-j.j-index nothing
    c.requires.ballot c.loop-j-test.true c.loop-j.invariant c.requires.fits in
    omega (arith, small.supporters)

pub loop-j-preserved : goal.loop-j-preserved
loop-j-preserved c =
    let small = small-yet _ c.args.projects.now c.loop-j.projects c.args.ballot.now c.loop-j.j-index nothing
    c.requires.ballot c.loop-j-test.true c.loop-j.invariant c.requires.fits in
    subst (λ (v : ProjectSums). AreChanged
    (with_supporter (to_z w128 (of_z w128 c.args.left)) (to_z w128 (of_z w128 c.args.offer))) c.args.projects.now
    (set c.loop-j.projects (get_or c.args.ballot.now c.loop-j.j-index 0 - 1) v)
    (take (c.loop-j.j-index + 1) c.args.ballot.now))
    (with-kept (get_or c.loop-j.projects (get_or c.args.ballot.now c.loop-j.j-index 0 - 1) nothing) _ _ _ _
    (kept-sum _ c.args.left small.left c.requires.left) (kept-sum _ c.args.offer small.offer c.requires.offer))
    (change-next _ c.args.projects.now c.loop-j.projects c.args.ballot.now c.loop-j.j-index c.requires.ballot
    c.loop-j-test.true c.loop-j.invariant)
