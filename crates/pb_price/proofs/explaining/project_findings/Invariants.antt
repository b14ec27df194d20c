use Rattle.std.proofs.Common.{◌≡◌, ◌+◌}
use Rattle.pb_price.specs.Inside.Looked.{AreFoundTo, AreSmallFindings}
use Rattle.pb_price.proofs.explaining.project_findings.Given as goal

abbrev pub invariant-loop-k : goal.invariant-loop-k
invariant-loop-k l = record {
  found : AreFoundTo l.k l.election l.outcome.marks l.denominator l.remaining l.sums l.findings;
  small : AreSmallFindings l.k l.findings;
  steps : l.steps ≡ l.initial.steps + l.k;
}
