use Rattle.pb_run.proofs.Ahead.{rest_written}
use Rattle.pb_run.proofs.folder.write_report.Goals as goal

pub returns : goal.returns
returns g c =
    rest_written _ _ _ _ _ _ _ c.in_ok-rest.field-0 _ _ _ _ _ _ c.in_ok-rest.ensures.ahead c.write-2.ensures
