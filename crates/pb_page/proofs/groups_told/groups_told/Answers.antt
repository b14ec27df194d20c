use Rattle.std.proofs.Common.{false, refl, subst, true}
use Rattle.std.specs.Prelude.{None, string_bytes}
use Rattle.pb_case.specs.Shown.{ShowsLine}
use Rattle.pb_election.specs.Instance.{Instance}
use Rattle.pb_figures.specs.declared.told.CertificateFigures.TheVariants.{Groups}
use Rattle.pb_reply.specs.Lines.{groups_line}
use Rattle.pb_report.specs.Found.{groups_verdict}
use Rattle.pb_page.proofs.Tells.{tells-of-groups}
use Rattle.pb_page.proofs.groups_told.groups_told.Goals as goal

pub returns-clause-told : goal.returns-clause-told
returns-clause-told c =
    let groups = c.in_ok-groups.groups in
    tells-of-groups c.args.measure c.args.decided.now.election c.args.decided.now.outcome.marks groups
    c.in_ok-figures.figures
    (record {
      told = record {
        style = c.args.style;
        mode = record { stable = false; exhaustive = true; cover = false };
        line = c.in_ok-line.line;
        found = Groups c.in_ok-figures.figures;
      };
      nearest = None;
      status = c.status-status.result;
    })
    c.in_ok-groups.ensures.measure c.in_ok-groups.ensures.figures c.in_ok-figures.ensures refl
    (subst
    (λ (e : Instance). ShowsLine (groups_line groups.measure e (groups_verdict groups)) (string_bytes c.in_ok-line.line))
    c.election.ensures c.in_ok-line.ensures)
    c.status-status.ensures
