use Rattle.std.proofs.Common.{◌+◌, length}
use Rattle.std.specs.Option.{option_copied, option_map_or}
use Rattle.pb_election.proofs.VoteLemmas.{AreLookedUp}
use Rattle.pb_election.proofs.votes.find_positions.Given as goal

abbrev pub invariant-loop-left : goal.invariant-loop-left
invariant-loop-left l = AreLookedUp l.ids l.vote l.found.items (option_copied l.left)

abbrev pub decreases-loop-left : goal.decreases-loop-left
decreases-loop-left l = option_map_or (λ text. length text + 1) (option_copied l.left) 0
