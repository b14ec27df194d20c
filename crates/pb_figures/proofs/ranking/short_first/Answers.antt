use Rattle.std.proofs.Common.{ℕ, true, arith}
use Rattle.pb_cohesion.specs.declared.GroupFigures.{GroupFigures}
use Rattle.pb_figures.specs.Ranking.{group_rank}
use Rattle.pb_figures.proofs.Ranked.{numbered-next}
use Rattle.pb_figures.proofs.ranking.short_first.Goals as goal

pub loop-k-preserved : goal.loop-k-preserved
loop-k-preserved c =
    numbered-next (λ (x : GroupFigures). true) (λ (x : GroupFigures) (j : ℕ). (group_rank x, j))
    c.args.groups.now c.loop-k.k _ _ _ (omega (arith, c.loop-k-test.true)) c.loop-k.invariant
    c.in_ok-rank_group.ensures
