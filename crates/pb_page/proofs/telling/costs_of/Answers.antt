use Rattle.std.proofs.Common.{◌∙◌}
use Rattle.pb_page.proofs.Tells.{costs-next}
use Rattle.pb_page.proofs.telling.costs_of.Goals as goal

pub loop-k-preserved : goal.loop-k-preserved
loop-k-preserved c =
    costs-next c.args.election.now c.loop-k.k _ c.loop-k.costs.items c.push.new.self.items c.in_ok-push.ensures.items
    c.loop-k.invariant (c.millionths.ensures.value ∙ c.cost.ensures)
