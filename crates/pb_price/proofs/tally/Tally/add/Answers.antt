use Rattle.std.proofs.Common.{◌-◌, set, refl, ap, arith}
use Rattle.pb_price.proofs.Adding.{added, with_payment}
use Rattle.pb_price.proofs.Bounds.{paid-bound, steps-bound}
use Rattle.pb_price.proofs.tally.Tally.add.Goals as goal

pub overflow_sub-row : goal.overflow_sub-row
overflow_sub-row c = c.requires.project.0

pub overflow_add-sums : goal.overflow_add-sums
overflow_add-sums c =
    let bound =
    paid-bound c.args.election.now c.requires.taken c.args.self.now (c.args.row.project - 1) c.index_mut-sums.result.now
    c.requires.tallied (omega (arith, c.requires.project.0, c.requires.project.1)) c.index_mut-sums.ensures.value in
    grind arith

pub overflow_add-self : goal.overflow_add-self
overflow_add-self c =
    let bound = steps-bound c.args.election.now c.requires.taken c.args.self.now c.requires.tallied c.requires.few in
    grind arith

pub returns-clause-taken : goal.returns-clause-taken
returns-clause-taken c = λ a b h r. (
    added c.args.election.now a b c.args.self.now _ c.args.row c.index_mut-sums.result.now h r c.requires.voter
    c.requires.project c.requires.small c.requires.follows c.index_mut-sums.ensures.value refl refl
    (ap (λ n. set c.args.self.now.projects.items (c.args.row.project - 1) (with_payment n c.index_mut-sums.result.now))
    c.payment_grains.ensures)
    c.unapproved_with-self.ensures.first c.unapproved_with-self.ensures.count refl refl
    )
