use Rattle.std.proofs.Common.{◌∙◌, ap, subst, sym}
use Rattle.pb_election.specs.Instance.{IsSet}
use Rattle.pb_certificate.specs.Inside.Marks.{marked}
use Rattle.pb_certificate.proofs.MarkLemmas.{marked-set}
use Rattle.pb_certificate.proofs.violations.Violation.of.Goals as goal

pub invariant_of-result : goal.invariant_of-result
invariant_of-result c =
    let draft = c.args.draft.now in
    let voters = c.voters-voters.result in
    let projects = c.projects-projects.result in
    record {
      group = subst (IsSet 1 voters) (sym (c.in_ok-group.ensures ∙ ap marked c.deref.ensures.value))
          (marked-set draft.group.items voters (c.requires.group ∙ sym c.voters-voters.ensures.value));
      demand = subst (IsSet 1 projects) (sym (c.in_ok-demand.ensures ∙ ap marked c.deref-2.ensures.value))
          (marked-set draft.demand.items projects (c.requires.demand ∙ sym c.projects-projects.ensures.value));
    }
