use Rattle.std.proofs.Common.{◌≤◌, arith}
use Rattle.pb_cohesion.specs.Refutations.{is_least, is_left, is_most}
use Rattle.pb_explain.proofs.Roles.{roles-few, roles-next}
use Rattle.pb_explain.proofs.refutation_table.row_counts.Goals as goal

pub count-requires : goal.count-requires
count-requires c =
    let few : c.loop-k.k ≤ 20000 = omega (arith, c.projects-k-end.ensures.sound.few_projects) in
    record {
      least = roles-few is_least c.args.refutation.now c.loop-k.k 20000 _ c.loop-k.invariant.least few;
      most = roles-few is_most c.args.refutation.now c.loop-k.k 20000 _ c.loop-k.invariant.most few;
      left = roles-few is_left c.args.refutation.now c.loop-k.k 20000 _ c.loop-k.invariant.left few;
    }

pub loop-k-preserved : goal.loop-k-preserved
loop-k-preserved c = record {
  least =
      roles-next is_least c.args.refutation.now c.loop-k.k _ _ c.role.result c.loop-k.invariant.least c.role.ensures
      c.count.ensures.least;
  most =
      roles-next is_most c.args.refutation.now c.loop-k.k _ _ c.role.result c.loop-k.invariant.most c.role.ensures
      c.count.ensures.most;
  left =
      roles-next is_left c.args.refutation.now c.loop-k.k _ _ c.role.result c.loop-k.invariant.left c.role.ensures
      c.count.ensures.left;
}
