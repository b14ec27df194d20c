use Rattle.std.proofs.Common.{◌≡◌, ◌∙◌, ◌*◌, ◌^◌, List, ap, length, refl, subst, sym, ℕ}
use Rattle.std.specs.Prelude.{Ok}
use Rattle.pb_certificate.specs.Prices.Canon.{lines}
use Rattle.pb_election.specs.Instance.{Instance, projects}
use Rattle.pb_price.specs.Margins.{AreMargins}
use Rattle.pb_price.specs.declared.ProjectMargins.{ProjectMargins}
use Rattle.pb_audit.specs.Margins.{margins_reply}
use Rattle.pb_audit.specs.Objects.{margins_text}
use Rattle.pb_explain.specs.MarginTable.{table_of}
use Rattle.pb_explain.proofs.MarginTable.{as_many_rows}
use Rattle.pb_audit.proofs.MarginAnswers.{margins_told}
use Rattle.pb_audit.proofs.margins.MarginAuditAudit.reply_on.Goals as goal

pub margin_table_text-requires : goal.margin_table_text-requires
margin_table_text-requires c =
    let taken = c.in_ok-prices.ensures.taken in
    let margins = c.in_ok-prices.prices.margins in
    record {
      projects =
          subst (λ (e : Instance). length margins.projects.items ≡ projects e) (sym c.election.ensures)
          (as_many_rows c.args.decided.now.election c.args.decided.now.outcome.marks taken.0 margins taken.2.margins);
    }

pub returns-clause-reply : goal.returns-clause-reply
returns-clause-reply c =
    let e = c.args.decided.now.election in
    let w = c.args.decided.now.outcome.marks in
    let taken = c.in_ok-prices.ensures.taken in
    let p = taken.0 in
    let margins = c.in_ok-prices.prices.margins in
    let of_election = subst (λ (i : Instance). AreMargins i w p margins) (sym c.election.ensures) taken.2.margins in
    let text = c.in_ok-margin_table_text.ensures w p of_election
    ∙ ap (λ (i : Instance). lines (table_of i w p)) c.election.ensures in
    let object = c.in_ok-margins_object.ensures
    ∙ ap (λ (g : ℕ). margins_text e w g margins.projects.items) taken.2.margins.grains_per_unit
    ∙ ap (λ (ms : List ProjectMargins). margins_text e w (10 ^ 6 * p.denominator) ms) taken.2.margins.projects in (
      margins_reply e w p,
      (record { c = Ok p; given = taken.1; out = refl }, margins_told e w p _ _ text object),
    )
