use Rattle.std.proofs.Common.{ℕ, arith}
use Rattle.std.specs.Prelude.{not}
use Rattle.pb_price.specs.declared.ProjectMargins.{ProjectMargins}
use Rattle.pb_figures.specs.Ranking.{missing}
use Rattle.pb_figures.proofs.Ranked.{numbered-next}
use Rattle.pb_figures.proofs.ranking.closest_first.Goals as goal

pub loop-k-preserved : goal.loop-k-preserved
loop-k-preserved c =
    numbered-next (λ (m : ProjectMargins). not m.funded) (λ (m : ProjectMargins) (j : ℕ). (missing c.args.stable m, j))
    c.args.projects.now c.loop-k.k _ _ _ (omega (arith, c.loop-k-test.true)) c.loop-k.invariant
    c.in_ok-rank_unfunded.ensures
