use Rattle.pb_run.proofs.Ahead.{UnderWay}
use Rattle.pb_run.proofs.folder.rest_of_report.Given as goal

abbrev pub invariant-loop-name : goal.invariant-loop-name
invariant-loop-name g l =
    UnderWay g.F.Files.hands g.F.Input.Given.delivers g.W.Sink l.fn.json l.fn.mode l.fn.folder l.fn.listing l.name-iterator
    l.report l.fn.files l.files l.fn.out l.out
