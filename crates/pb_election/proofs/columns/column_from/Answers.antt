use Rattle.std.proofs.Common.{arith}
use Rattle.pb_records.proofs.Csv.{field-some}
use Rattle.pb_election.proofs.ColumnLemmas.{column-behind, column-here, column-none}
use Rattle.pb_election.proofs.columns.column_from.Goals as goal

pub returns-then-is_named-clause-first : goal.returns-then-is_named-clause-first
returns-then-is_named-clause-first c = grind (arith, column-here)

pub loop-field-smaller : goal.loop-field-smaller
loop-field-smaller c = grind (arith, field-some)

pub loop-field-preserved : goal.loop-field-preserved
loop-field-preserved c = grind (arith, column-behind)

pub returns-clause-first : goal.returns-clause-first
returns-clause-first c = grind (arith, column-none)
