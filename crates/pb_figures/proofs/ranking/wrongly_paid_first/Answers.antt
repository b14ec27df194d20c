use Rattle.std.proofs.Common.{ℕ, arith}
use Rattle.std.specs.Int.{abs_diff}
use Rattle.pb_price.specs.declared.ProjectMargins.{ProjectMargins}
use Rattle.pb_figures.specs.Ranking.{short}
use Rattle.pb_figures.proofs.Ranked.{numbered-next}
use Rattle.pb_figures.proofs.ranking.wrongly_paid_first.Goals as goal

pub loop-k-preserved : goal.loop-k-preserved
loop-k-preserved c =
    numbered-next (λ (m : ProjectMargins). m.funded)
    (λ (m : ProjectMargins) (j : ℕ). (short (abs_diff m.paid m.cost), short m.cost, j)) c.args.projects.now c.loop-k.k _ _ _
    (omega (arith, c.loop-k-test.true)) c.loop-k.invariant c.in_ok-rank_funded.ensures
