use Rattle.pb_figures.proofs.amounts.+push_groups.Given as goal

abbrev pub decreases-push_groups : goal.decreases-push_groups
decreases-push_groups l = l.count
