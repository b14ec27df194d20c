use Rattle.pb_audit.proofs.FallingShort.{groups_promise}
use Rattle.pb_audit.proofs.groups.ExplainGroupsAuditFigureAudit.reply_on.Goals as goal

pub returns-clause-promised : goal.returns-clause-promised
returns-clause-promised c = groups_promise c.args.self.now.measure
