use Rattle.std.proofs.Common.{refl}
use Rattle.pb_records.specs.Flat.{cut_at_starts, cut_from}
use Rattle.pb_records.proofs.ragged_array.RaggedArray.new.Goals as goal

pub returns : goal.returns
unfolding cut_at_starts cut_from
returns g c = rw (c.in_ok-push.ensures.items, c.new-starts.ensures.items) refl
