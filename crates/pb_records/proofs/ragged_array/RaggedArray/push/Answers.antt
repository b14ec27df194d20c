use Rattle.std.proofs.Common.{arith}
use Rattle.pb_records.proofs.FlatRuns.{runs-push, runs-total, starts-pushed}
use Rattle.pb_records.proofs.ragged_array.RaggedArray.push.Goals as goal

pub overflow_cast-end : goal.overflow_cast-end
overflow_cast-end g c = grind (arith, runs-total)

pub invariant_of-self-else-is_err : goal.invariant_of-self-else-is_err
invariant_of-self-else-is_err g c = grind (arith, starts-pushed)

pub returns : goal.returns
returns g c = grind (arith, runs-push)
