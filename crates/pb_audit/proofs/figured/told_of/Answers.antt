use Rattle.std.proofs.Common.{◌∙◌, refl, subst}
use Rattle.std.proofs.lemmas.Result.{IfOk-weaker}
use Rattle.pb_certificate.specs.declared.violations.measure.Measure.{Measure}
use Rattle.pb_cohesion.specs.Closest.{AreAllFigures}
use Rattle.pb_audit.proofs.figured.told_of.Goals as goal

pub reply_on-requires : goal.reply_on-requires
reply_on-requires g c = record {
  told = c.in_ok-groups.ensures.told;
  measure = c.in_ok-groups.ensures.measure ∙ c.measure.ensures;
}

pub returns : goal.returns
returns g c =
    let e = c.args.decided.now.election in
    let o = c.args.decided.now.outcome in
    let xs = c.in_ok-groups.groups.figures.items in
    let rules = g.A.FigureAudit.rules c.args.audit.now in
    let figures = subst (λ (m : Measure). AreAllFigures m e o.marks xs) c.measure.ensures c.in_ok-groups.ensures.figures in
    IfOk-weaker c.reply_on.result _ _
    (λ own is. (
      rules.reply e o.marks xs,
      (
        record {
          xs = xs;
          figured = record { figures = figures; promised = c.reply_on.ensures.promised e o.marks xs figures };
          out = refl;
        },
        is,
      ),
    ))
    c.reply_on.ensures.reply
