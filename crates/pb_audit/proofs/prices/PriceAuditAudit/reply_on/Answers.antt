use Rattle.std.proofs.Common.{◌∙◌, Option, ap, refl}
use Rattle.std.specs.Prelude.{Ok}
use Rattle.pb_cohesion.specs.declared.Mode.{Mode}
use Rattle.pb_price.specs.declared.nearest.NearestGroup.{NearestGroup}
use Rattle.pb_reply.specs.Inside.Loaded.{lent}
use Rattle.pb_input.specs.declared.InputName.TheVariants.{Certificate}
use Rattle.pb_reply.proofs.Culprits.{denominator-low}
use Rattle.pb_report.specs.Found.{price_verdict}
use Rattle.pb_audit.specs.Answers.{price_reply, verdict_reply}
use Rattle.pb_audit.specs.Inside.Told.{reply_of}
use Rattle.pb_audit.proofs.Explained.{findings_answer}
use Rattle.pb_audit.proofs.prices.PriceAuditAudit.reply_on.Goals as goal

pub returns-clause-reply : goal.returns-clause-reply
returns-clause-reply c =
    let e = c.args.decided.now.election in
    let w = c.args.decided.now.outcome.marks in
    let prices = c.in_ok-prices.prices in
    let taken = c.in_ok-prices.ensures.taken in
    let low = denominator-low Certificate e (lent c.args.certificate) taken.0 taken.1 in (
      _,
      (
        record {
          c = Ok taken.0;
          given = taken.1;
          out = c.in_ok-reply.ensures
              ∙ ap (reply_of e w) c.of.ensures
              ∙ ap (λ (n : Option NearestGroup). verdict_reply prices.mode e w (price_verdict prices) prices.findings n)
              c.in_ok-prices.ensures.nearest
              ∙ findings_answer prices.mode e w taken.0 prices.findings low taken.2.findings
              ∙ ap (λ (m : Mode). price_reply m e w taken.0) taken.2.mode;
        },
        refl,
      ),
    )
