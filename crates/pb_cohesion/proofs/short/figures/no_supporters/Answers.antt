use Rattle.std.proofs.Common.{◌≡◌, ◌+◌, ◌<◌, ℕ, List, [], get_or, length, subst, sym}
use Rattle.pb_certificate.specs.declared.violations.measure.Measure.{Measure}
use Rattle.pb_cohesion.specs.Inside.Counting.{Stand}
use Rattle.pb_cohesion.specs.declared.GroupFigures.{GroupFigures}
use Rattle.pb_cohesion.proofs.Marked.{start-next}
use Rattle.pb_cohesion.proofs.short.figures.no_supporters.Goals as goal

pub loop-k-preserved : goal.loop-k-preserved
loop-k-preserved c =
    subst (λ (ys : List GroupFigures). (length ys ≡ c.loop-k.k + 1)
    × ((m : Measure) (k : ℕ) (d : GroupFigures) → k < c.loop-k.k + 1
    → Stand m c.args.election.now (k + 1) [] (get_or ys k d))) (sym c.in_ok-push.ensures.items)
    (start-next c.args.election.now c.loop-k.k c.loop-k.figures.items c.loop-k.invariant.0 c.loop-k.invariant.1)
