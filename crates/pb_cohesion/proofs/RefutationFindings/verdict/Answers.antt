use Rattle.std.proofs.Common.{◌∙◌, ap, sym}
use Rattle.std.specs.Prelude.{nat_lt}
use Rattle.pb_cohesion.specs.FirstU.{proved}
use Rattle.pb_cohesion.specs.declared.RefutationFindings.{RefutationFindings}
use Rattle.pb_cohesion.proofs.Refuted.{verdict-failed, verdict-proved}
use Rattle.pb_cohesion.proofs.RefutationFindings.verdict.Goals as goal

pub returns-in-Some : goal.returns-in-Some
returns-in-Some c = λ stable e w r is.
    sym (verdict-failed stable e w r c.in-Some.failure (sym (c.in-Some.ensures stable e w r is)))

pub returns-in-None : goal.returns-in-None
returns-in-None c = λ stable e w r is.
    c.proved.ensures
    ∙ ap (λ (f : RefutationFindings). proved (nat_lt f.taken f.counted) f.cover) is
    ∙ sym (verdict-proved stable e w r (sym (c.in-None.ensures stable e w r is)))
